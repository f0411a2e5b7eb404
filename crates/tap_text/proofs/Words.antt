-- Lines that say no step.
use Rattle.std.proofs.Common.{◌≡◌, ◌≢◌, ℕ, List, [], ◌∷◌, ◌++◌, All, sym, ◌∙◌, arith, subst, Bool, true, false, Option, Some, None}
use Rattle.std.specs.Prelude.{codes, IfSome, IfNone}
use Rattle.std.specs.Bool.{Decides}
use Rattle.std.specs.List.{AllByRecursion}
use Rattle.std.proofs.lemmas.List.Elements.{All-same, All-cons}
use Rattle.bpfvm.specs.Listing.{space, IsNumber}
use Rattle.tap_steps.specs.declared.step.Step.{Step}
use Rattle.tap_steps.specs.declared.step.Step.TheVariants.{Arrive, Flush, Read, Close}
use Rattle.tap_text.specs.Script.{IsWordOf, IsNamed, NamesNone, IsStepLine}
use Rattle.line_text.proofs.Cuts.{NoSpace, not-lacking, cut-one}

-- a line that says no step
abbrev pub NoStep : List ℕ → Type 0
NoStep line = (step : Step) → IsStepLine line step → ⊥

letters : (xs : List ℕ) → AllByRecursion NoSpace xs → All NoSpace xs
letters [] each = λ k d inside. absurd (omega arith)
letters (x ∷ xs) each = All-cons NoSpace x xs each.0 (letters xs each.1)

flush-word : All NoSpace (codes "flush")
flush-word = letters (codes "flush") (omega arith, (omega arith, (omega arith, (omega arith, (omega arith, tt)))))

read-word : All NoSpace (codes "read")
read-word = letters (codes "read") (omega arith, (omega arith, (omega arith, (omega arith, tt))))

close-word : All NoSpace (codes "close")
close-word = letters (codes "close") (omega arith, (omega arith, (omega arith, (omega arith, (omega arith, tt)))))

-- a line without a space has no number after a word
no-own : (line word : List ℕ) (l : ℕ) → All NoSpace line → IsWordOf line word l → ⊥
no-own line word l lacks is = not-lacking space word is.0 (All-same NoSpace (word ++ space ∷ is.0) line (sym is.1) lacks)

-- and says no step, if it is not `arrive`
pub NoStep-one_word : (line : List ℕ) → line ≢ codes "arrive" → All NoSpace line → NoStep line
NoStep-one_word line other lacks Arrive is = other is
NoStep-one_word line other lacks (Flush l) is = no-own line (codes "flush") l lacks is
NoStep-one_word line other lacks (Read l) is = no-own line (codes "read") l lacks is
NoStep-one_word line other lacks (Close l) is = no-own line (codes "close") l lacks is

module _ (line word digits : List ℕ) (cut : line ≡ word ++ space ∷ digits) (none : All NoSpace word) (other : line ≢ codes "arrive") where
  -- the word and the digits of a line are those of its cut
  same-cut : (w : List ℕ) (l : ℕ) → All NoSpace w → IsWordOf line w l → (word ≡ w) × IsNumber 4294967295 digits l
  same-cut w l none' is =
      let one = cut-one space word digits w is.0 none none' (sym cut ∙ is.1) in
      (one.0, subst (λ (t : List ℕ). IsNumber 4294967295 t l) (sym one.1) is.2)

  -- a line that is cut after this word
  word-of : (w : List ℕ) (l : ℕ) → word ≡ w → IsNumber 4294967295 digits l → IsWordOf line w l
  word-of w l same number = (digits, subst (λ (t : List ℕ). line ≡ t ++ space ∷ digits) same cut, number)

  -- with no number after the word, there is no step
  pub NoStep-number : ((l : ℕ) → IsNumber 4294967295 digits l → ⊥) → NoStep line
  NoStep-number bad Arrive is = other is
  NoStep-number bad (Flush l) is = bad l (same-cut (codes "flush") l flush-word is).1
  NoStep-number bad (Read l) is = bad l (same-cut (codes "read") l read-word is).1
  NoStep-number bad (Close l) is = bad l (same-cut (codes "close") l close-word is).1

  -- nor with another word
  NoStep-word : word ≢ codes "flush" → word ≢ codes "read" → word ≢ codes "close" → NoStep line
  NoStep-word no-flush no-read no-close Arrive is = other is
  NoStep-word no-flush no-read no-close (Flush l) is = no-flush (same-cut (codes "flush") l flush-word is).0
  NoStep-word no-flush no-read no-close (Read l) is = no-read (same-cut (codes "read") l read-word is).0
  NoStep-word no-flush no-read no-close (Close l) is = no-close (same-cut (codes "close") l close-word is).0

  -- and with a number the line says the step that the word names, or none
  named : (l : ℕ) (step : Step) → IsNumber 4294967295 digits l → IsNamed word l step → IsStepLine line step
  named l Arrive number is = absurd is
  named l (Flush n) number (same, one) = word-of (codes "flush") n same (subst (IsNumber 4294967295 digits) (sym one) number)
  named l (Read n) number (same, one) = word-of (codes "read") n same (subst (IsNumber 4294967295 digits) (sym one) number)
  named l (Close n) number (same, one) = word-of (codes "close") n same (subst (IsNumber 4294967295 digits) (sym one) number)

  pub named-some : (l : ℕ) (found : Option Step) → IsNumber 4294967295 digits l → IfSome found (IsNamed word l) → IfSome found (λ step. IsStepLine line step)
  named-some l (Some step) number is = named l step number is
  named-some l None number is = tt

  pub named-none : (found : Option Step) → IfNone found (NamesNone word) → IfNone found (NoStep line)
  named-none (Some step) none-is = tt
  named-none None (no-flush, no-read, no-close) = NoStep-word no-flush no-read no-close

-- what a test that failed says
pub differs : (xs ys zs : List ℕ) (r : Bool) → Decides r (xs ≡ ys) → r ≡ false → ys ≡ zs → xs ≢ zs
differs xs ys zs r decides failed is other =
    let wrong : true ≡ false = sym (decides.1 (other ∙ sym is)) ∙ failed in
    absurd cc
