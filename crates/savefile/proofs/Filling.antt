-- A text that is filled number by number from the front.
use Rattle.std.proofs.Common.{◌≡◌, ℕ, ◌-◌, List, [], ◌++◌, length, take, drop, refl, sym, ap, ◌∙◌, append_assoc, arith, length-append, length-drop}
use Rattle.std.proofs.lemmas.List.{append-nil, drop_all, drop_at, nil_from_length, take_all, take_at}
use borrow.Rule.Slice.PartMut.{put_mid}
use Rattle.savefile.specs.Filling.{Fills}

-- a number of n bytes that is written into a text from `at` on
pub fills : (at n : ℕ) (t b buf : List ℕ) → length b ≡ n → buf ≡ b ++ drop n (take (length t - at) (drop at t)) → Fills at t b (put_mid at (length t - at) t buf)
fills at n t b buf lb eb = λ front rest et lf.
    let t0 : take at t ≡ front = ap (take at) et ∙ take_at front rest at lf in
    let d0 : drop at t ≡ rest = ap (drop at) et ∙ drop_at front rest at lf in
    let l0 : length t - at ≡ length rest = omega (arith, ap length et, length-append front rest) in
    let ta : take (length t - at) (drop at t) ≡ rest = rw (d0, l0) (take_all (length rest) rest (omega arith)) in
    let da : drop (length t - at) (drop at t) ≡ [] = rw (d0, l0) (drop_all (length rest) rest (omega arith)) in
    let e : buf ≡ b ++ drop (length b) rest = eb ∙ rw (ta, lb) refl in
    rw (t0, e, da, append-nil) (sym (append_assoc front b (drop (length b) rest)))

-- a text of four numbers of four bytes each
pub filled_16 : (z t1 t2 t3 t4 b0 b1 b2 b3 : List ℕ) → length z ≡ 16 → length b0 ≡ 4 → length b1 ≡ 4 → length b2 ≡ 4 → length b3 ≡ 4
    → Fills 0 z b0 t1 → Fills 4 t1 b1 t2 → Fills 8 t2 b2 t3 → Fills 12 t3 b3 t4 → t4 ≡ b0 ++ b1 ++ b2 ++ b3
filled_16 z t1 t2 t3 t4 b0 b1 b2 b3 lz l0 l1 l2 l3 f0 f1 f2 f3 =
    let r0 = drop (length b0) z in
    let r1 = drop (length b1) r0 in
    let r2 = drop (length b2) r1 in
    let r3 = drop (length b3) r2 in
    let e1 : t1 ≡ b0 ++ r0 = f0 [] z refl refl in
    let e2 : t2 ≡ (b0 ++ b1) ++ r1 = f1 b0 r0 e1 l0 in
    let e3 : t3 ≡ (b0 ++ b1 ++ b2) ++ r2 = f2 (b0 ++ b1) r1 e2 (omega (arith, length-append b0 b1)) in
    let e4 : t4 ≡ (b0 ++ b1 ++ b2 ++ b3) ++ r3 = f3 (b0 ++ b1 ++ b2) r2 e3 (omega (arith, length-append b0 b1, length-append (b0 ++ b1) b2)) in
    let none : r3 ≡ [] = nil_from_length r3 (omega (arith, length-drop (length b0) z, length-drop (length b1) r0, length-drop (length b2) r1, length-drop (length b3) r2)) in
    e4 ∙ ap (λ (r : List ℕ). (b0 ++ b1 ++ b2 ++ b3) ++ r) none ∙ append-nil (b0 ++ b1 ++ b2 ++ b3)

-- a text of the seven numbers of a file header
pub filled_24 : (z t1 t2 t3 t4 t5 t6 t7 b0 b1 b2 b3 b4 b5 b6 : List ℕ) → length z ≡ 24
    → length b0 ≡ 4 → length b1 ≡ 2 → length b2 ≡ 2 → length b3 ≡ 4 → length b4 ≡ 4 → length b5 ≡ 4 → length b6 ≡ 4
    → Fills 0 z b0 t1 → Fills 4 t1 b1 t2 → Fills 6 t2 b2 t3 → Fills 8 t3 b3 t4 → Fills 12 t4 b4 t5 → Fills 16 t5 b5 t6 → Fills 20 t6 b6 t7
    → t7 ≡ b0 ++ b1 ++ b2 ++ b3 ++ b4 ++ b5 ++ b6
filled_24 z t1 t2 t3 t4 t5 t6 t7 b0 b1 b2 b3 b4 b5 b6 lz l0 l1 l2 l3 l4 l5 l6 f0 f1 f2 f3 f4 f5 f6 =
    let r0 = drop (length b0) z in
    let r1 = drop (length b1) r0 in
    let r2 = drop (length b2) r1 in
    let r3 = drop (length b3) r2 in
    let r4 = drop (length b4) r3 in
    let r5 = drop (length b5) r4 in
    let r6 = drop (length b6) r5 in
    let e1 : t1 ≡ b0 ++ r0 = f0 [] z refl refl in
    let e2 : t2 ≡ (b0 ++ b1) ++ r1 = f1 b0 r0 e1 l0 in
    let s1 : length (b0 ++ b1) ≡ 6 = omega (arith, length-append b0 b1) in
    let e3 : t3 ≡ (b0 ++ b1 ++ b2) ++ r2 = f2 (b0 ++ b1) r1 e2 s1 in
    let s2 : length (b0 ++ b1 ++ b2) ≡ 8 = omega (arith, length-append (b0 ++ b1) b2) in
    let e4 : t4 ≡ (b0 ++ b1 ++ b2 ++ b3) ++ r3 = f3 (b0 ++ b1 ++ b2) r2 e3 s2 in
    let s3 : length (b0 ++ b1 ++ b2 ++ b3) ≡ 12 = omega (arith, length-append (b0 ++ b1 ++ b2) b3) in
    let e5 : t5 ≡ (b0 ++ b1 ++ b2 ++ b3 ++ b4) ++ r4 = f4 (b0 ++ b1 ++ b2 ++ b3) r3 e4 s3 in
    let s4 : length (b0 ++ b1 ++ b2 ++ b3 ++ b4) ≡ 16 = omega (arith, length-append (b0 ++ b1 ++ b2 ++ b3) b4) in
    let e6 : t6 ≡ (b0 ++ b1 ++ b2 ++ b3 ++ b4 ++ b5) ++ r5 = f5 (b0 ++ b1 ++ b2 ++ b3 ++ b4) r4 e5 s4 in
    let s5 : length (b0 ++ b1 ++ b2 ++ b3 ++ b4 ++ b5) ≡ 20 = omega (arith, length-append (b0 ++ b1 ++ b2 ++ b3 ++ b4) b5) in
    let e7 : t7 ≡ (b0 ++ b1 ++ b2 ++ b3 ++ b4 ++ b5 ++ b6) ++ r6 = f6 (b0 ++ b1 ++ b2 ++ b3 ++ b4 ++ b5) r5 e6 s5 in
    let d3 : length r3 ≡ 12 = omega (arith, length-drop (length b0) z, length-drop (length b1) r0, length-drop (length b2) r1, length-drop (length b3) r2) in
    let d6 : length r6 ≡ 0 = omega (arith, length-drop (length b4) r3, length-drop (length b5) r4, length-drop (length b6) r5) in
    e7 ∙ ap (λ (r : List ℕ). (b0 ++ b1 ++ b2 ++ b3 ++ b4 ++ b5 ++ b6) ++ r) (nil_from_length r6 d6) ∙ append-nil (b0 ++ b1 ++ b2 ++ b3 ++ b4 ++ b5 ++ b6)
