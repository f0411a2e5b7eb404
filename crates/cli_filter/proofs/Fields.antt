-- The end of a line has one way of being cut into its fields.
use Rattle.std.proofs.Common.{◌≡◌, ℕ, ◌⊎◌, inl, inr, List, [], ◌∷◌, ◌++◌, All, length, refl, sym, ◌∙◌, subst, arith}
use Rattle.std.proofs.lemmas.List.Elements.{All-same}
use Rattle.std.specs.Str.{IsUtf8}
use Rattle.bpfvm.specs.Listing.{space}
use Rattle.line_text.proofs.Cuts.{NoSpace, not-lacking, cut-one}
use Rattle.cli_filter.specs.Plan.{AreCut, AreLastFields}

-- a text without a space is no word with more after it
no-second : (rest word more other : List ℕ) → rest ≡ word ++ space ∷ more → rest ≡ other → All NoSpace other → ⊥
no-second rest word more other cut is lacks = not-lacking space word more (All-same NoSpace (word ++ space ∷ more) other (sym cut ∙ is) lacks)

pub cut_once : (rest o e o' e' : List ℕ) → All NoSpace o → All NoSpace o' → AreCut rest o e → AreCut rest o' e' → (o ≡ o') × (e ≡ e')
cut_once rest o e o' e' one one' (inl a) (inl b) = cut-one space o e o' e' one one' (sym a ∙ b)
cut_once rest o e o' e' one one' (inl a) (inr b) = absurd (no-second rest o e o' a b.0 one')
cut_once rest o e o' e' one one' (inr a) (inl b) = absurd (no-second rest o' e' o b a.0 one)
cut_once rest o e o' e' one one' (inr a) (inr b) = (sym a.0 ∙ b.0, a.1 ∙ sym b.1)

-- the fields are these alone
pub fields_once : (rest o e o' e' : List ℕ) → AreLastFields rest o e → AreLastFields rest o' e' → (o ≡ o') × (e ≡ e')
fields_once rest o e o' e' a b = cut_once rest o e o' e' a.one_output b.one_output a.cut b.cut

-- a text without a byte is empty
pub no_bytes : (text : List ℕ) → length text ≡ 0 → text ≡ []
no_bytes [] none = refl
no_bytes (b ∷ bs) none = absurd (omega arith)

-- What is cut are the fields of no line if OUT is empty, or one of them is no text.
pub no_fields_unnamed : (rest o e : List ℕ) → AreCut rest o e → All NoSpace o → length o ≡ 0 → (output expression : List ℕ) → AreLastFields rest output expression → ⊥
no_fields_unnamed rest o e cut one none output expression are =
    are.named (sym (cut_once rest o e output expression one are.one_output cut are.cut).0 ∙ no_bytes o none)

pub no_fields_output : (rest o e : List ℕ) → AreCut rest o e → All NoSpace o → (IsUtf8 o → ⊥) → (output expression : List ℕ) → AreLastFields rest output expression → ⊥
no_fields_output rest o e cut one none output expression are =
    none (subst IsUtf8 (sym (cut_once rest o e output expression one are.one_output cut are.cut).0) are.output_text)

pub no_fields_expression : (rest o e : List ℕ) → AreCut rest o e → All NoSpace o → (IsUtf8 e → ⊥) → (output expression : List ℕ) → AreLastFields rest output expression → ⊥
no_fields_expression rest o e cut one none output expression are =
    none (subst IsUtf8 (sym (cut_once rest o e output expression one are.one_output cut are.cut).1) are.expression_text)
