-- A capacity reads in one way.
use Rattle.std.proofs.Common.{◌≡◌, ◌≢◌, ℕ, List, [], ◌∷◌, ◌++◌, length, refl, sym, ap, ◌∙◌, arith, subst, length-append}
use Rattle.std.specs.Prelude.{codes}
use Rattle.std.proofs.lemmas.Str.Parse.{digit_at}
use Rattle.std.proofs.lemmas.List.Elements.{All-same, All-from_get_or}
use Rattle.bpfvm.specs.Listing.{IsNumber}
use Rattle.listener.specs.declared.mode.Mode.{Mode}
use Rattle.listener.specs.declared.mode.Mode.TheVariants.{Buffered, Immediate}
use Rattle.line_text.specs.Fields.{IsCapacity}
use Rattle.line_text.proofs.Cuts.{not-lacking}

-- lists that are the same with one more byte are the same
push-one : (b : ℕ) (xs ys : List ℕ) → xs ++ b ∷ [] ≡ ys ++ b ∷ [] → xs ≡ ys
push-one b [] [] same = refl
push-one b [] (y ∷ ys) same = absurd (omega (arith, ap length same, length-append ys (b ∷ [])))
push-one b (x ∷ xs) [] same = absurd (omega (arith, ap length same, length-append xs (b ∷ [])))
push-one b (x ∷ xs) (y ∷ ys) same =
    let head : x ≡ y = cc in
    let tail = push-one b xs ys cc in
    cc

-- a text that ends with `i` is a capacity only with a number before it
pub no-immediate : (text digits : List ℕ) → text ≡ digits ++ codes "i" → ((n : ℕ) → IsNumber 18446744073709551615 digits n → ⊥) → (capacity : ℕ) (mode : Mode) → IsCapacity text capacity mode → ⊥
no-immediate text digits cut bad capacity Buffered is =
    let no-i = All-from_get_or (λ b. b ≢ 105) text 0 (λ i inside. let digit = digit_at text i is.numeral.1 inside in omega arith) in
    not-lacking 105 digits [] (All-same (λ b. b ≢ 105) (digits ++ codes "i") text (sym cut) no-i)
no-immediate text digits cut bad capacity Immediate is =
    let same = push-one 105 is.0 digits (sym is.1 ∙ cut) in
    bad capacity (subst (λ (t : List ℕ). IsNumber 18446744073709551615 t capacity) same is.2)
