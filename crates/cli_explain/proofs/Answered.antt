-- Packets that are answered one by one.
use Rattle.std.proofs.Common.{◌≡◌, ℕ, suc, ◌+◌, ◌^◌, ◌<◌, ◌≤◌, ◌⊎◌, inl, inr, Bool, List, [], ◌∷◌, ◌++◌, length, length-append, filter, Option, refl, ap, sym, subst, ◌∙◌, append_assoc, arith}
use Rattle.std.proofs.lemmas.List.{append-nil, map-append}
use Rattle.std.proofs.lemmas.List.Elements.{filter-append}
use Rattle.std.proofs.KnownBytes.{Appends-trans, Appends-kept}
use Rattle.std.specs.Io.KnownBytes.{Appends}
use Rattle.std.specs.List.{AllByRecursion}
use Rattle.savefile.specs.declared.packet.Packet.{Packet}
use Rattle.filter_meaning.specs.declared.verdict.Verdict.{Verdict}
use Rattle.filter_meaning.specs.declared.verdict.Verdict.TheVariants.{Yes, No, Abort}
use Rattle.line_text.specs.Sending.{TakesPart}
use Rattle.line_text.specs.Texts.{numbered}
use Rattle.line_text.proofs.Taking.{TakesPart-then}
use Rattle.cli_answers.specs.declared.counts.VerdictCounts.{VerdictCounts}
use Rattle.cli_answers.specs.declared.printing.Unprinted.{Unprinted}
use Rattle.cli_answers.specs.declared.printing.Unprinted.TheVariants.{NoMemory, Output}
use Rattle.cli_answers.specs.declared.filter.AskedFilter.{AskedFilter}
use Rattle.cli_answers.specs.declared.form.PacketForm.{PacketForm}
use Rattle.cli_answers.specs.Answers.{Answer, answer}
use Rattle.cli_answers.specs.Objects.{IsAnswerIn}
use Rattle.cli_explain.specs.Forms.{line_in}
use Rattle.cli_answers.proofs.Counting.{counts-by}
use Rattle.cli_answers.proofs.Reading.{all-more}
use Rattle.cli_answers.specs.Verdicts.{is_yes, is_no, is_abort}
use Rattle.cli_answers.specs.Counts.{count_of, counted, AreCounts}
use Rattle.cli_watch.specs.Frames.{is_unseen}
use Rattle.cli_explain.specs.Explained.{answer_lines, packets_of, PrintsLine, IsLineBroken}

numbered-last : {X : Type 0} (f : ℕ → X → List ℕ) (n : ℕ) (xs : List X) (x : X) → numbered f n (xs ++ x ∷ []) ≡ numbered f n xs ++ f (n + length xs) x
numbered-last f n [] x =
    let same : n + 0 ≡ n = omega arith in
    rw same (append-nil (f n x))
numbered-last f n (y ∷ xs) x =
    let same : suc n + length xs ≡ n + suc (length xs) = omega arith in
    ap (λ (t : List ℕ). f n y ++ t) (numbered-last f (suc n) xs x ∙ ap (λ k. numbered f (suc n) xs ++ f k x) same)
    ∙ sym (append_assoc (f n y) (numbered f (suc n) xs) (f (n + suc (length xs)) x))

lines-last : (form : PacketForm) (answers : List Answer) (a : Answer) (place : ℕ) → place ≡ length answers → answer_lines form (answers ++ a ∷ []) ≡ answer_lines form answers ++ line_in form place a
lines-last form answers a place here =
    let same : 0 + length answers ≡ place = omega (arith, here) in
    numbered-last (line_in form) 0 answers a ∙ ap (λ k. answer_lines form answers ++ line_in form k a) same

pub packets-last : (answers : List Answer) (a : Answer) → packets_of (answers ++ a ∷ []) ≡ packets_of answers ++ a.packet ∷ []
packets-last answers a = map-append (λ (b : Answer). b.packet) answers (a ∷ [])

-- ---- One packet more

-- it is answered, printed and counted
pub goes-on : (form : PacketForm) (f : AskedFilter) (old mid new : Option (List ℕ)) (answers : List Answer) (c after : VerdictCounts) (p : Packet) (v : Verdict) →
    AllByRecursion (IsAnswerIn form f) answers → Appends old mid (answer_lines form answers) → AreCounts c answers →
    PrintsLine form f c.packets p mid new v → after ≡ counted v (is_unseen p.bytes) c →
    (a : Answer) × (a.packet ≡ p) × AllByRecursion (IsAnswerIn form f) (answers ++ a ∷ [])
    × Appends old new (answer_lines form (answers ++ a ∷ [])) × AreCounts after (answers ++ a ∷ [])
goes-on form f old mid new answers c after p v all lines are (reason, is, line) more =
    let a = answer p v reason in (
      a,
      refl,
      all-more (IsAnswerIn form f) answers a all is,
      subst (Appends old new) (sym (lines-last form answers a c.packets are.packets)) (Appends-trans old mid new (answer_lines form answers) (line_in form c.packets a) lines line),
      subst (λ (k : VerdictCounts). AreCounts k (answers ++ a ∷ [])) (sym more) (counts-by v answers p reason c are),
    )

-- or its line is not printed, or a beginning of it alone
pub breaks-off : (form : PacketForm) (f : AskedFilter) (old mid new : Option (List ℕ)) (answers : List Answer) (c : VerdictCounts) (p : Packet) (unprinted : Unprinted) →
    AllByRecursion (IsAnswerIn form f) answers → Appends old mid (answer_lines form answers) → AreCounts c answers →
    IsLineBroken form f c.packets p mid new unprinted →
    (told : List Answer) × AllByRecursion (IsAnswerIn form f) told × ((packets_of told ≡ packets_of answers) ⊎ (packets_of told ≡ packets_of answers ++ p ∷ []))
    × TakesPart old new (answer_lines form told)
breaks-off form f old mid new answers c p NoMemory all lines are kept =
    let taken = Appends-kept old mid new (answer_lines form answers) lines kept in (
      answers,
      all,
      inl refl,
      record { part = answer_lines form answers; begins = ([], sym (append-nil (answer_lines form answers))); appends = taken },
    )
breaks-off form f old mid new answers c p (Output error) all lines are (v, reason, is, part) =
    let a = answer p v reason in (
      answers ++ a ∷ [],
      all-more (IsAnswerIn form f) answers a all is,
      inr (packets-last answers a),
      subst (TakesPart old new) (sym (lines-last form answers a c.packets are.packets)) (TakesPart-then old mid new (answer_lines form answers) (line_in form c.packets a) lines part),
    )
