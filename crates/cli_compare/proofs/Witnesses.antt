-- What is printed of two filters that are decided.
use Rattle.std.proofs.Common.{◌≡◌, ℕ, Bool, List, [], ◌++◌, refl, sym, ap, ◌∙◌, subst}
use Rattle.std.specs.Prelude.{Option, codes, Result, Err, IfErr}
use Rattle.savefile.specs.declared.packet.Packet.{Packet}
use Rattle.filter_meaning.specs.declared.verdict.Verdict.{Verdict}
use Rattle.filter_meaning.specs.Meaning.{Packet as Frame, Test}
use Rattle.filter_explain.specs.Deciding.{verdict_text}
use Rattle.filter_same.specs.declared.sameness.Sameness.{Sameness}
use Rattle.filter_same.specs.declared.witness.Witness.{Witness}
use Rattle.filter_same.specs.Same.{HoldsOf}
use Rattle.std.specs.declared.io.Error.{Error}
use Rattle.line_text.specs.declared.form.LineForm.{LineForm}
use Rattle.line_text.specs.Sending.{TakesPart}
use Rattle.line_text.specs.Texts.{end_of_line}
use Rattle.cli_answers.specs.declared.printing.Unprinted.{Unprinted}
use Rattle.cli_answers.specs.declared.printing.Unprinted.TheVariants.{Output}
use Rattle.cli_answers.specs.Answers.{Answer, answer, IsAnswer, PutsAnswer}
use Rattle.cli_compare.specs.declared.pair.FilterPair.{FilterPair}
use Rattle.cli_compare.specs.Compared.{difference}
use Rattle.cli_compare.specs.Deciding.{HoldsOfPair, IsText, IsUnanswered, PutsWitness, lengths_text, packet_of_witness}

-- both answers were put into the line of a witness
pub witness-of : (pair : FilterPair) (w : Witness) (p : Packet) (old start one mid two line : List ℕ) (v u : Verdict) → p ≡ packet_of_witness w
    → start ≡ old ++ lengths_text w → PutsAnswer start one (IsAnswer pair.first) p v → mid ≡ one ++ codes " second "
    → PutsAnswer mid two (IsAnswer pair.second) p u → line ≡ two ++ end_of_line → PutsWitness pair w old line
witness-of pair w p old start one mid two line v u same begun (r, is, first) second (s, other, further) last = (
  difference 0 (answer p v r) (answer p u s),
  (refl, same, same, is, other),
  last ∙ ap (λ (t : List ℕ). t ++ end_of_line) (further ∙ ap (λ (t : List ℕ). t ++ (verdict_text u ++ codes " ") ++ s)
      (second ∙ ap (λ (t : List ℕ). t ++ codes " second ") (first ∙ ap (λ (t : List ℕ). t ++ (verdict_text v ++ codes " ") ++ r) begun))),
)

-- a witness, by the bytes of its slice
pub witness-packet : (w : Witness) (bytes : List ℕ) → bytes ≡ w.bytes.items → record { sec = 0; nanos = 0; len = w.wire; bytes = bytes } ≡ packet_of_witness w
witness-packet w bytes same = ap (λ (l : List ℕ). record { sec = 0; nanos = 0; len = w.wire; bytes = l }) same

-- what holds of two filters holds of what accepts the same and says the same
pub holds-as : (f g f' g' : Frame → Bool) (t u t' u' : Test) (s : Sameness) → f ≡ f' → t ≡ t' → g ≡ g' → u ≡ u' → HoldsOf f g t u s → HoldsOf f' g' t' u' s
holds-as f g f' g' t u t' u' s ef et eg eu h =
    subst (λ x. HoldsOf x g' t' u' s) ef (subst (λ x. HoldsOf f x t' u' s) eg (subst (λ x. HoldsOf f g x u' s) et (subst (λ x. HoldsOf f g t x s) eu h)))

-- an answer holds, and the writer took a part of its text
pub unanswered : (form : LineForm) (pair : FilterPair) (budget : ℕ) (s : Sameness) (text : List ℕ) (old new : Option (List ℕ)) (error : Error) → HoldsOfPair pair s → IsText form pair budget s text → TakesPart old new text
    → IsUnanswered form pair budget old new (Output error)
unanswered form pair budget s text old new error holds is part = (s, holds, text, is, part)

-- the same of the result that has the writer's error
pub unanswered-by : {T : Type 0} (form : LineForm) (pair : FilterPair) (budget : ℕ) (s : Sameness) (bytes text : List ℕ) (old new : Option (List ℕ)) (error : Error) (e : Unprinted) (result : Result T Unprinted)
    → result ≡ Err e → e ≡ Output error → HoldsOfPair pair s → bytes ≡ text → IsText form pair budget s text → TakesPart old new bytes → IfErr result (IsUnanswered form pair budget old new)
unanswered-by {T} form pair budget s bytes text old new error e result ended from holds same is part =
    subst (λ r. IfErr r (IsUnanswered form pair budget old new)) (sym ended) (subst (IsUnanswered form pair budget old new) (sym from)
    (unanswered form pair budget s text old new error holds is (subst (TakesPart old new) same part)))
