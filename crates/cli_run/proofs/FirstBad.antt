-- LISTENERS has at most one first bad line, and none where it is right.
use Rattle.std.proofs.Common.{◌≡◌, ℕ, zero, suc, ◌+◌, ◌<◌, inl, inr, List, [], ◌∷◌, ◌++◌, Any, get_or, length, length-append, refl, sym, ap, subst, ◌∙◌, arith}
use Rattle.std.proofs.Math.Seq.{get_or-append_seam}
use Rattle.std.proofs.lemmas.Bool.{cases_order}
use Rattle.std.proofs.lemmas.List.{get_or_append_left}
use Rattle.line_text.specs.Files.{Say}
use Rattle.cli_run.specs.declared.plan.RunLine.{RunLine}
use Rattle.cli_run.specs.Laws.{FirstBadIsOne, NoneIsBad}
use Rattle.cli_run.specs.Listeners.{IsRunLine, HaveOwnOutputs, IsFirstBadRunLine}
use Rattle.cli_run.proofs.Fielded.{output_one}

-- the line says nothing that may come after these: it has not its form, or the OUT of one of them
abbrev IsBadBehind : ℕ → List RunLine → List ℕ → Type 0
IsBadBehind interfaces said line = (x : RunLine) → IsRunLine interfaces line x → Any (λ earlier. earlier.output.now ≡ x.output.now) said

-- The lines in front of a line, and this line, say listeners: those in front of it, and its own.
record IsCutAt (interfaces : ℕ) (before : List (List ℕ)) (line : List ℕ) (all : List RunLine) : Type 0 where
  pub front : List RunLine
  pub own : RunLine
  pub rest : List RunLine
  pub whole : all ≡ front ++ own ∷ rest
  pub each : Say (IsRunLine interfaces) before front
  pub is : IsRunLine interfaces line own

cut-at : (interfaces : ℕ) (before behind : List (List ℕ)) (line : List ℕ) (all : List RunLine) → Say (IsRunLine interfaces) (before ++ line ∷ behind) all → IsCutAt interfaces before line all
cut-at interfaces [] behind line (x ∷ all) said = record { front = []; own = x; rest = all; whole = refl; each = tt; is = said.0 }
cut-at interfaces [] behind line [] said = absurd said
cut-at interfaces (l ∷ before) behind line [] said = absurd said
cut-at interfaces (l ∷ before) behind line (x ∷ all) said =
    let later = cut-at interfaces before behind line all said.1 in
    record { front = x ∷ later.front; own = later.own; rest = later.rest; whole = ap (λ (xs : List RunLine). x ∷ xs) later.whole; each = (said.0, later.each); is = later.is }

-- what lines say has the same OUTs, however they are read
same-outputs : (interfaces : ℕ) (lines : List (List ℕ)) (xs ys : List RunLine) → Say (IsRunLine interfaces) lines xs → Say (IsRunLine interfaces) lines ys
    → (k : ℕ) (d : RunLine) → k < length xs → (k < length ys) × (get_or xs k d).output.now ≡ (get_or ys k d).output.now
same-outputs interfaces [] [] ys one two k d inside = absurd (omega (arith, inside))
same-outputs interfaces [] (x ∷ xs) ys one two k d inside = absurd one
same-outputs interfaces (l ∷ lines) [] ys one two k d inside = absurd one
same-outputs interfaces (l ∷ lines) (x ∷ xs) [] one two k d inside = absurd two
same-outputs interfaces (l ∷ lines) (x ∷ xs) (y ∷ ys) one two zero d inside = (omega arith, output_one interfaces l x y one.0 two.0)
same-outputs interfaces (l ∷ lines) (x ∷ xs) (y ∷ ys) one two (suc k) d inside =
    let later = same-outputs interfaces lines xs ys one.1 two.1 k d (omega (arith, inside)) in
    (omega (arith, later.0), later.1)

-- so a bad line stands in no right file
bad-nowhere : (interfaces : ℕ) (before behind : List (List ℕ)) (line : List ℕ) (all said : List RunLine) → Say (IsRunLine interfaces) (before ++ line ∷ behind) all
    → HaveOwnOutputs all → Say (IsRunLine interfaces) before said → IsBadBehind interfaces said line → ⊥
bad-nowhere interfaces before behind line all said each own good bad =
    let cut = cut-at interfaces before behind line all each in
    let found = bad cut.own cut.is in
    let here = same-outputs interfaces before said cut.front good cut.each found.0 found.1 found.2 in
    let place : length cut.front < length (cut.front ++ cut.own ∷ cut.rest) = omega (arith, length-append cut.front (cut.own ∷ cut.rest)) in
    subst HaveOwnOutputs cut.whole own found.0 (length cut.front) found.1 here.0 place refl
    (ap (λ (x : RunLine). x.output.now) (get_or_append_left cut.front (cut.own ∷ cut.rest) found.1 found.0 here.0)
    ∙ sym here.1 ∙ ap (λ (x : RunLine). x.output.now) found.3 ∙ found.4
    ∙ sym (ap (λ (x : RunLine). x.output.now) (get_or-append_seam cut.front cut.own cut.rest found.1)))

pub none_bad : NoneIsBad
none_bad interfaces text asked n right bad =
    bad-nowhere interfaces bad.before bad.behind bad.line asked bad.said (subst (λ (lines : List (List ℕ)). Say (IsRunLine interfaces) lines asked) bad.lines right.0)
    right.1 bad.good (λ x is. (bad.bad x is).1)

-- of two cuts of a list that with the shorter front is one of the other's front
cut-in : {X : Type 0} (a b : List X) (x y : X) (c d : List X) → a ++ x ∷ c ≡ b ++ y ∷ d → length a < length b → (e : List X) × (b ≡ a ++ x ∷ e)
cut-in a [] x y c d same shorter = absurd (omega (arith, shorter))
cut-in [] (l ∷ b) x y c d same shorter = (b, cc)
cut-in (k ∷ a) (l ∷ b) x y c d same shorter =
    let rest : a ++ x ∷ c ≡ b ++ y ∷ d = cc in
    let head : l ≡ k = cc in
    let later = cut-in a b x y c d rest (omega (arith, shorter)) in
    let tail = later.1 in
    (later.0, cc)

-- no first bad line stands before another one
not-before : (interfaces : ℕ) (text : List ℕ) (n m : ℕ) (one : IsFirstBadRunLine interfaces text n) (two : IsFirstBadRunLine interfaces text m) → length one.before < length two.before → ⊥
not-before interfaces text n m one two shorter =
    let cut = cut-in one.before two.before one.line two.line one.behind two.behind (sym one.lines ∙ two.lines) shorter in
    bad-nowhere interfaces one.before cut.0 one.line two.said one.said (subst (λ (lines : List (List ℕ)). Say (IsRunLine interfaces) lines two.said) cut.1 two.good)
    two.own one.good (λ x is. (one.bad x is).1)

pub first_bad_one : FirstBadIsOne
first_bad_one interfaces text n m one two =
    elim (cases_order (length one.before) (length two.before)) [
      | inl same ↦ one.place ∙ ap (λ (k : ℕ). k + 1) same ∙ sym two.place
      | inr other ↦ absurd (elim other [
        | inl shorter ↦ not-before interfaces text n m one two shorter
        | inr longer ↦ not-before interfaces text m n two one longer
      ])
    ]
