-- A line of LISTENERS has one way of being cut into its fields.
use Rattle.std.proofs.Common.{◌≡◌, ℕ, ◌⊎◌, inl, inr, List, [], ◌∷◌, ◌++◌, All, sym, ◌∙◌, subst}
use Rattle.std.proofs.lemmas.List.Elements.{All-same}
use Rattle.bpfvm.specs.Listing.{space}
use Rattle.tap_text.specs.Listeners.{AreFields}
use Rattle.line_text.proofs.Cuts.{NoSpace, not-lacking, cut-one}

-- a line without a space has no fields
no-fields : (line snap capacity expression : List ℕ) → All NoSpace line → AreFields line snap capacity expression → ⊥
no-fields line snap capacity expression lacks f = not-lacking space snap f.rest (All-same NoSpace (snap ++ space ∷ f.rest) line (sym f.first) lacks)

-- a rest without a space is no capacity with an expression after it
no-second : (rest capacity expression other : List ℕ) → rest ≡ capacity ++ space ∷ expression → rest ≡ other → All NoSpace other → ⊥
no-second rest capacity expression other cut is lacks = not-lacking space capacity expression (All-same NoSpace (capacity ++ space ∷ expression) other (sym cut ∙ is) lacks)

-- the rest is cut in one way
second-one : (rest c e c' e' : List ℕ) → All NoSpace c → All NoSpace c' → (rest ≡ c ++ space ∷ e) ⊎ ((rest ≡ c) × (e ≡ []))
    → (rest ≡ c' ++ space ∷ e') ⊎ ((rest ≡ c') × (e' ≡ [])) → (c ≡ c') × (e ≡ e')
second-one rest c e c' e' one one' (inl a) (inl b) = cut-one space c e c' e' one one' (sym a ∙ b)
second-one rest c e c' e' one one' (inl a) (inr b) = absurd (no-second rest c e c' a b.0 one')
second-one rest c e c' e' one one' (inr a) (inl b) = absurd (no-second rest c' e' c b a.0 one)
second-one rest c e c' e' one one' (inr a) (inr b) = (sym a.0 ∙ b.0, a.1 ∙ sym b.1)

-- and so is the line
pub AreFields-one : (line s c e s' c' e' : List ℕ) → AreFields line s c e → AreFields line s' c' e' → (s ≡ s') × (c ≡ c') × (e ≡ e')
AreFields-one line s c e s' c' e' f g =
    let one = cut-one space s f.rest s' g.rest f.one_snap g.one_snap (sym f.first ∙ g.first) in
    let two = second-one g.rest c e c' e' f.one_capacity g.one_capacity
    (subst (λ (t : List ℕ). (t ≡ c ++ space ∷ e) ⊎ ((t ≡ c) × (e ≡ []))) one.1 f.second) g.second in
    (one.0, two.0, two.1)

abbrev pub HasNoFields : List ℕ → Type 0
HasNoFields line = (snap capacity expression : List ℕ) → AreFields line snap capacity expression → ⊥

pub one_word : (line : List ℕ) → All NoSpace line → HasNoFields line
one_word line lacks snap capacity expression f = no-fields line snap capacity expression lacks f
