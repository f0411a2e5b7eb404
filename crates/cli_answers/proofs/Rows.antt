-- The lines of a dump.
use Rattle.std.proofs.Common.{◌≡◌, ℕ, suc, ◌+◌, ◌-◌, ◌/◌, ◌^◌, ◌<◌, ◌≤◌, ◌⊎◌, min, true, false, not, Bool, List, [], ◌∷◌, ◌++◌, length, get_or, take, drop, replicate, refl, sym, ap, ◌∙◌, subst, append_assoc, append-nil, take_all, length-append, arith, ⊎_elim, inl, inr}
use Rattle.std.proofs.Math.Nat.{min-eq_left, min-eq_right}
use Rattle.std.proofs.Math.Seq.{drop-append_seam, take-append_seam}
use Rattle.std.proofs.lemmas.Bool.{cases_order}
use Rattle.std.proofs.lemmas.List.{drop_all, drop_more, nil_from_length}
use Rattle.std.specs.Fmt.{padded_integral, format_spec, char_count}
use native.Mathlib.Numerals.{unary_clauses}
use Rattle.cli_answers.specs.Dumps.{digits_text, group_text, row_text, rows_text}

digits-drop : (bytes : List ℕ) (begins : Bool) (at : ℕ) → at < length bytes → digits_text begins (drop at bytes) ≡ group_text begins (get_or bytes at 0) ++ digits_text (not begins) (drop (at + 1) bytes)
unfolding digits_text
digits-drop bytes begins at within = rw (drop_more bytes at 0 within)

-- a byte more was appended
pub digits-next : (bytes : List ℕ) (begins : Bool) (at : ℕ) (text line total : List ℕ) → at < length bytes → text ++ digits_text begins (drop at bytes) ≡ total → line ≡ text ++ group_text begins (get_or bytes at 0)
    → line ++ digits_text (not begins) (drop (at + 1) bytes) ≡ total
digits-next bytes begins at text line total within whole wrote =
    rw wrote (append_assoc text (group_text begins (get_or bytes at 0)) _ ∙ (rw (digits-drop bytes begins at within) at whole))

pub digits-end : (bytes : List ℕ) (begins : Bool) (at : ℕ) (text total : List ℕ) → length bytes ≤ at → text ++ digits_text begins (drop at bytes) ≡ total → text ≡ total
unfolding digits_text
digits-end bytes begins at text total past whole = rw (drop_all at bytes past, append-nil) at whole

-- the first line, and the others
rows-few : (at : ℕ) (bytes x rest : List ℕ) → bytes ≡ x ++ rest → length x ≡ length bytes → length bytes ≤ 16 → 0 < length bytes → rows_text ((length bytes + 15) / 16) at bytes ≡ row_text at x ++ rows_text ((length rest + 15) / 16) (at + 16) rest
unfolding rows_text
rows-few at bytes x rest is all few some =
    let none : rest ≡ [] = nil_from_length rest (omega (arith, all, ap length is, length-append x rest)) in
    let one : (length bytes + 15) / 16 ≡ 1 = omega (arith, few, some) in
    let same : bytes ≡ x = is ∙ ap (λ ys. x ++ ys) none ∙ append-nil x in
    let took : take 16 bytes ≡ x = take_all 16 bytes few ∙ same in
    rw (one, none) (rw took refl)

rows-more : (at : ℕ) (bytes x rest : List ℕ) → bytes ≡ x ++ rest → length x ≡ 16 → rows_text ((length bytes + 15) / 16) at bytes ≡ row_text at x ++ rows_text ((length rest + 15) / 16) (at + 16) rest
unfolding rows_text
rows-more at bytes x rest is all =
    let rows : (length bytes + 15) / 16 ≡ suc ((length rest + 15) / 16) = omega (arith, all, ap length is, length-append x rest) in
    let took : take 16 bytes ≡ x = ap (take 16) is ∙ subst (λ k. take k (x ++ rest) ≡ x) all (take-append_seam x rest) in
    let left : drop 16 bytes ≡ rest = ap (drop 16) is ∙ subst (λ k. drop k (x ++ rest) ≡ rest) all (drop-append_seam x rest) in
    rw rows (rw (took, left) refl)

rows-on : (at : ℕ) (bytes x rest : List ℕ) → bytes ≡ x ++ rest → length x ≡ min 16 (length bytes) → 0 < length bytes → (length bytes ≡ 16) ⊎ ((length bytes < 16) ⊎ (16 < length bytes)) → rows_text ((length bytes + 15) / 16) at bytes ≡ row_text at x ++ rows_text ((length rest + 15) / 16) (at + 16) rest
rows-on at bytes x rest is most some (inl same) = rows-more at bytes x rest is (most ∙ min-eq_left (omega (arith, same)))
rows-on at bytes x rest is most some (inr (inl few)) = rows-few at bytes x rest is (most ∙ min-eq_right (omega (arith, few))) (omega (arith, few)) some
rows-on at bytes x rest is most some (inr (inr more)) = rows-more at bytes x rest is (most ∙ min-eq_left (omega (arith, more)))

-- a line more was appended
pub rows-next : (at : ℕ) (bytes x rest text line total : List ℕ) → bytes ≡ x ++ rest → length x ≡ min 16 (length bytes) → 0 < length bytes → text ++ rows_text ((length bytes + 15) / 16) at bytes ≡ total → line ≡ text ++ row_text at x → line ++ rows_text ((length rest + 15) / 16) (at + 16) rest ≡ total
rows-next at bytes x rest text line total is most some whole wrote =
    rw wrote (append_assoc text (row_text at x) _ ∙ (rw (rows-on at bytes x rest is most some (cases_order (length bytes) 16)) at whole))

pub rows-end : (at : ℕ) (bytes text total : List ℕ) → length bytes ≡ 0 → text ++ rows_text ((length bytes + 15) / 16) at bytes ≡ total → text ≡ total
unfolding rows_text
rows-end at bytes text total none whole = let zero : (length bytes + 15) / 16 ≡ 0 = omega (arith, none) in rw (zero, append-nil) at whole

-- digits with zeros in front, as a width of four has them
pub four_padded : (ds : List ℕ) → padded_integral (format_spec 32 0 4 4 (2 ^ 64 - 1)) false [] ds ≡ replicate (4 - length ds) 48 ++ ds
unfolding padded_integral char_count
four_padded ds = simp unary_clauses (ap (λ (t : List ℕ). replicate (4 - length ds) 48 ++ t) (append-nil ds))

full-by : (bytes x rest : List ℕ) → bytes ≡ x ++ rest → length x ≡ min 16 (length bytes) → 0 < length rest → (length bytes ≡ 16) ⊎ ((length bytes < 16) ⊎ (16 < length bytes)) → length x ≡ 16
full-by bytes x rest is most more (inl same) = most ∙ min-eq_left (omega (arith, same))
full-by bytes x rest is most more (inr (inl few)) = absurd (omega (arith, more, most ∙ min-eq_right (omega (arith, few)), ap length is, length-append x rest))
full-by bytes x rest is most more (inr (inr many)) = most ∙ min-eq_left (omega (arith, many))

-- a line that others follow has 16 bytes
pub full-line : (bytes x rest : List ℕ) → bytes ≡ x ++ rest → length x ≡ min 16 (length bytes) → 0 < length rest → length x ≡ 16
full-line bytes x rest is most more = full-by bytes x rest is most more (cases_order (length bytes) 16)
