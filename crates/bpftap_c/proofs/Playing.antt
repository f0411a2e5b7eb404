-- The listeners that LISTENERS asks for are those that were played, though no more than 65 of them are kept.
use Rattle.std.proofs.Common.{◌≡◌, ◌<◌, ◌≤◌, ◌⊎◌, ◌∙◌, inl, inr, sym, subst, ℕ, List, Option, Result, Ok, Err, length, take, arith, length-take, take_all}
use Rattle.std.proofs.lemmas.Bool.{cases_lt}
use Rattle.std.specs.Prelude.{IfErr, IfOk}
use Rattle.savefile.specs.declared.fault.Fault.{Fault as RecordFault}
use Rattle.tap.specs.declared.fault.Fault.{Fault}
use Rattle.tap.specs.declared.fault.Fault.TheVariants.{TooMany, NoListener, Capture, Expression, Compile, Open, NoMemory}
use Rattle.filter_tree.specs.declared.tree.Expr.{Expr}
use Rattle.tap.specs.Answers.{Traces}
use Rattle.tap.specs.Filters.{AreExpressionsOf}
use Rattle.tap.specs.Headline.{Replays}
use Rattle.tap.specs.Refusals.{AreTooMany, IsFirst, NoneStands}
use Rattle.tap_steps.specs.declared.answer.Answered.{Answered}
use Rattle.tap_steps.specs.declared.filters.Spec.{Spec}
use Rattle.tap_steps.specs.declared.step.Step.{Step}
use Rattle.tap_steps.specs.declared.playlist.PlacedPacket.{PlacedPacket}
use Rattle.tap_steps.specs.declared.report.Report.{Report}
use Rattle.line_text.specs.declared.form.LineForm.{LineForm}
use Rattle.line_text.specs.Files.{IsFileOf}
use Rattle.tap_text.specs.Answers.{answers_from, cursors_of}
use Rattle.tap_text.specs.Listeners.{IsListenerLine, AreFirstOf}
use Rattle.tap_text.specs.Script.{IsStepLine}
use Rattle.bpftap_c.specs.Memory.{PutsText}
use Rattle.bpftap_c.specs.Steps.{IsAnswered, IsPlayed, IsUnplayed, PutsPlayed, replay_of, no_replay}
use Rattle.bpftap_c.specs.declared.outcome.BpftapResult.{BpftapResult}
use Rattle.bpftap_c.specs.declared.outcome.Failure.{Failure}
use Rattle.bpftap_c.specs.declared.outcome.Failure.TheVariants as failures
use Rattle.bpftap_c.specs.declared.played.Played.{Played}
use Rattle.bpftap_c.specs.declared.steps.BpftapReplay.{BpftapReplay}

-- 64 listeners are all kept
few_are_kept : (all : List Spec) → length all ≤ 64 → take 65 all ≡ all
few_are_kept all few = take_all 65 all (omega (arith, few))

-- of more than 64 listeners too many are kept
many_are_kept : (captures : List (List ℕ)) (all : List Spec) → 64 < length all → AreTooMany captures (take 65 all)
many_are_kept captures all many = inl (omega (arith, many, length-take 65 all))

-- if no fault applies, all listeners are kept
all_kept : (captures : List (List ℕ)) (all : List Spec) (steps : List Step) → NoneStands captures (take 65 all) steps → take 65 all ≡ all
all_kept captures all steps stands = by_number (cases_lt 64 (length all))
  where
    by_number : (64 < length all) ⊎ (length all ≤ 64) → take 65 all ≡ all
    by_number (inl many) = absurd (stands.number (many_are_kept captures all many))
    by_number (inr few) = few_are_kept all few

-- the first fault that applies to the listeners that are kept applies to all
first_of_all : (captures : List (List ℕ)) (all : List Spec) (steps : List Step) (fault : Fault) → IsFirst captures (take 65 all) steps fault → IsFirst captures all steps fault
first_of_all captures all steps fault first = by_number (cases_lt 64 (length all))
  where
    by_fault : (fault : Fault) → 64 < length all → IsFirst captures (take 65 all) steps fault → IsFirst captures all steps fault
    by_fault TooMany many is = inl many
    by_fault (NoListener place) many is = absurd (is.0 (many_are_kept captures all many))
    by_fault (Capture n fault) many is = absurd (is.0 (many_are_kept captures all many))
    by_fault (Expression l fault) many is = absurd (is.0 (many_are_kept captures all many))
    by_fault (Compile l fault) many is = absurd (is.0 (many_are_kept captures all many))
    by_fault (Open l fault) many is = absurd (is.0 (many_are_kept captures all many))
    by_fault NoMemory many is = tt

    by_number : (64 < length all) ⊎ (length all ≤ 64) → IsFirst captures all steps fault
    by_number (inl many) = by_fault fault many first
    by_number (inr few) = subst (λ (specs : List Spec). IsFirst captures specs steps fault) (few_are_kept all few) first

-- what was read and played
pub is_played : (listeners script : List ℕ) (captures : List (List ℕ)) (kept : List Spec) (steps : List Step) (playlist : List PlacedPacket)
    (record_fault : Option (ℕ × RecordFault)) (reports : List Report) → AreFirstOf listeners kept → IsFileOf IsStepLine script steps →
    Replays captures kept steps playlist record_fault reports → NoneStands captures kept steps → IsPlayed listeners script captures reports record_fault
is_played listeners script captures kept steps playlist record_fault reports asked of_script replays stands =
    let same : kept ≡ asked.all =
    asked.first ∙ all_kept captures asked.all steps (subst (λ (specs : List Spec). NoneStands captures specs steps) asked.first stands) in
    record {
      specs = kept;
      steps = steps;
      of_listeners = subst (λ (specs : List Spec). IsFileOf IsListenerLine listeners specs) (sym same) asked.asked;
      of_script = of_script;
      playlist = playlist;
      replays = replays;
      none_stands = stands;
    }

-- and what listeners answered
pub is_answered : (form : LineForm) (listeners script : List ℕ) (captures : List (List ℕ)) (kept : List Spec) (steps : List Step) (playlist : List PlacedPacket)
    (record_fault : Option (ℕ × RecordFault)) (reports : List Report) (expressions : List (Option Expr)) (answers : List (List Answered)) (text : List ℕ)
    → AreFirstOf listeners kept → IsFileOf IsStepLine script steps → Replays captures kept steps playlist record_fault reports → NoneStands captures kept steps
    → Traces captures kept steps playlist record_fault answers → AreExpressionsOf kept expressions
    → text ≡ answers_from form 1 steps playlist (cursors_of kept expressions answers) → IsAnswered form listeners script captures text record_fault
unfolding is_played
is_answered form listeners script captures kept steps playlist record_fault reports expressions answers text asked of_script replays stands traces read is = (
  reports,
  is_played listeners script captures kept steps playlist record_fault reports asked of_script replays stands,
  answers,
  traces,
  record { expressions = expressions; read = read; is = is },
)

-- a fault of what was read and played is the first of what the files ask for
pub is_unplayed : (listeners script : List ℕ) (captures : List (List ℕ)) (kept : List Spec) (steps : List Step) (fault : Fault) →
    AreFirstOf listeners kept → IsFileOf IsStepLine script steps → IsFirst captures kept steps fault →
    IsUnplayed listeners script captures (failures.Replay fault)
is_unplayed listeners script captures kept steps fault asked of_script first = (
  asked.all,
  steps,
  asked.asked,
  of_script,
  first_of_all captures asked.all steps fault (subst (λ (specs : List Spec). IsFirst captures specs steps fault) asked.first first),
)

-- what was made of the steps is put, or why nothing was
pub puts : {Shows : List ℕ → Option (ℕ × RecordFault) → Type 0} {IsRefused : Failure → Type 0} (made : Result Played Failure) (old new : List ℕ) (told : BpftapReplay)
    → IfOk made (λ p. Shows p.text.items p.record_fault) → IfErr made IsRefused
    → IfOk made (λ p. (put : BpftapResult) × PutsText p.text.items old new put × (told ≡ replay_of put p.record_fault))
    → IfErr made (λ failure. (told ≡ no_replay failure) × (new ≡ old)) → PutsPlayed Shows IsRefused old new told
puts (Ok p) old new told shows refused (put, taken, is) none = inl (p.text.items, p.record_fault, put, shows, taken, is)
puts (Err failure) old new told shows refused put (is, same) = inr (failure, refused, is, same)
