-- A text that is filled number by number from the front.
use Rattle.std.proofs.Common.{◌≡◌, ℕ, List, [], ◌++◌, length, drop, refl, ap, ◌∙◌, arith, length-append, length-drop}
use Rattle.std.proofs.lemmas.List.{append-nil, nil_from_length}
use Rattle.savefile.specs.Filling.{Fills}

-- a text of the seven numbers of a record's fields
pub filled_32 : (z t1 t2 t3 t4 t5 t6 t7 b0 b1 b2 b3 b4 b5 b6 : List ℕ) → length z ≡ 32
    → length b0 ≡ 4 → length b1 ≡ 4 → length b2 ≡ 4 → length b3 ≡ 4 → length b4 ≡ 8 → length b5 ≡ 4 → length b6 ≡ 4
    → Fills 0 z b0 t1 → Fills 4 t1 b1 t2 → Fills 8 t2 b2 t3 → Fills 12 t3 b3 t4 → Fills 16 t4 b4 t5 → Fills 24 t5 b5 t6 → Fills 28 t6 b6 t7
    → t7 ≡ b0 ++ b1 ++ b2 ++ b3 ++ b4 ++ b5 ++ b6
filled_32 z t1 t2 t3 t4 t5 t6 t7 b0 b1 b2 b3 b4 b5 b6 lz l0 l1 l2 l3 l4 l5 l6 f0 f1 f2 f3 f4 f5 f6 =
    let r0 = drop (length b0) z in
    let r1 = drop (length b1) r0 in
    let r2 = drop (length b2) r1 in
    let r3 = drop (length b3) r2 in
    let r4 = drop (length b4) r3 in
    let r5 = drop (length b5) r4 in
    let r6 = drop (length b6) r5 in
    let e1 : t1 ≡ b0 ++ r0 = f0 [] z refl refl in
    let e2 : t2 ≡ (b0 ++ b1) ++ r1 = f1 b0 r0 e1 l0 in
    let s1 : length (b0 ++ b1) ≡ 8 = omega (arith, length-append b0 b1) in
    let e3 : t3 ≡ (b0 ++ b1 ++ b2) ++ r2 = f2 (b0 ++ b1) r1 e2 s1 in
    let s2 : length (b0 ++ b1 ++ b2) ≡ 12 = omega (arith, length-append (b0 ++ b1) b2) in
    let e4 : t4 ≡ (b0 ++ b1 ++ b2 ++ b3) ++ r3 = f3 (b0 ++ b1 ++ b2) r2 e3 s2 in
    let s3 : length (b0 ++ b1 ++ b2 ++ b3) ≡ 16 = omega (arith, length-append (b0 ++ b1 ++ b2) b3) in
    let e5 : t5 ≡ (b0 ++ b1 ++ b2 ++ b3 ++ b4) ++ r4 = f4 (b0 ++ b1 ++ b2 ++ b3) r3 e4 s3 in
    let s4 : length (b0 ++ b1 ++ b2 ++ b3 ++ b4) ≡ 24 = omega (arith, length-append (b0 ++ b1 ++ b2 ++ b3) b4) in
    let e6 : t6 ≡ (b0 ++ b1 ++ b2 ++ b3 ++ b4 ++ b5) ++ r5 = f5 (b0 ++ b1 ++ b2 ++ b3 ++ b4) r4 e5 s4 in
    let s5 : length (b0 ++ b1 ++ b2 ++ b3 ++ b4 ++ b5) ≡ 28 = omega (arith, length-append (b0 ++ b1 ++ b2 ++ b3 ++ b4) b5) in
    let e7 : t7 ≡ (b0 ++ b1 ++ b2 ++ b3 ++ b4 ++ b5 ++ b6) ++ r6 = f6 (b0 ++ b1 ++ b2 ++ b3 ++ b4 ++ b5) r5 e6 s5 in
    let d3 : length r3 ≡ 16 = omega (arith, length-drop (length b0) z, length-drop (length b1) r0, length-drop (length b2) r1, length-drop (length b3) r2) in
    let d6 : length r6 ≡ 0 = omega (arith, length-drop (length b4) r3, length-drop (length b5) r4, length-drop (length b6) r5) in
    e7 ∙ ap (λ (r : List ℕ). (b0 ++ b1 ++ b2 ++ b3 ++ b4 ++ b5 ++ b6) ++ r) (nil_from_length r6 d6) ∙ append-nil (b0 ++ b1 ++ b2 ++ b3 ++ b4 ++ b5 ++ b6)
