-- More listeners than are kept of LISTENERS.
use Rattle.std.proofs.Common.{◌≡◌, ℕ, ◌<◌, ◌≤◌, ◌⊎◌, inl, inr, Bool, List, Result, Ok, Err, length, take, subst, arith, length-take, take_all}
use Rattle.std.proofs.lemmas.Bool.{cases_lt}
use Rattle.tap.specs.declared.fault.Fault.{Fault}
use Rattle.tap.specs.declared.fault.Fault.TheVariants.{TooMany, NoListener, Capture, Expression, Compile, Open, NoMemory}
use Rattle.tap_steps.specs.declared.filters.Spec.{Spec}
use Rattle.tap_steps.specs.declared.step.Step.{Step}
use Rattle.tap.specs.Refusals.{AreTooMany, IsFirst}
use Rattle.line_text.specs.declared.form.LineForm.{LineForm}
use Rattle.cli_text.specs.declared.report.Outcome.{Outcome}
use Rattle.line_text.specs.Sending.{Streams}
use Rattle.cli_steps.specs.declared.steps.Replayed.{Replayed}
use Rattle.cli_steps.specs.Playing.{Plays, PlaysAs}

-- the first fault that stands is told by so many listeners as are kept
first-of-all : (captures : List (List ℕ)) (all : List Spec) (steps : List Step) (fault : Fault) → 64 < length all → IsFirst captures (take 65 all) steps fault → IsFirst captures all steps fault
first-of-all captures all steps fault many first =
    let kept : AreTooMany captures (take 65 all) = inl (omega (arith, many, length-take 65 all)) in
    by_fault fault kept first
  where
    by_fault : (fault : Fault) → AreTooMany captures (take 65 all) → IsFirst captures (take 65 all) steps fault → IsFirst captures all steps fault
    by_fault TooMany kept is = inl many
    by_fault (NoListener place) kept is = absurd (is.0 kept)
    by_fault (Capture n fault) kept is = absurd (is.0 kept)
    by_fault (Expression l fault) kept is = absurd (is.0 kept)
    by_fault (Compile l fault) kept is = absurd (is.0 kept)
    by_fault (Open l fault) kept is = absurd (is.0 kept)
    by_fault NoMemory kept is = tt

-- what plays the listeners that are kept plays all that were asked for
pub plays-all : (form : LineForm) (explained : Bool) (captures : List (List ℕ)) (all kept : List Spec) (steps : List Step) (old new : Streams) (outcome : Outcome)
    → kept ≡ take 65 all → Plays form explained captures kept steps old new outcome → Plays form explained captures all steps old new outcome
plays-all form explained captures all kept steps old new outcome is plays =
    by_number (cases_lt 64 (length all)) (subst (λ (specs : List Spec). Plays form explained captures specs steps old new outcome) is plays)
  where
    by_number : (64 < length all) ⊎ (length all ≤ 64) → Plays form explained captures (take 65 all) steps old new outcome → Plays form explained captures all steps old new outcome
    by_number (inr few) plays = subst (λ (specs : List Spec). Plays form explained captures specs steps old new outcome) (take_all 65 all (omega (arith, few))) plays
    by_number (inl many) (inl reported) = absurd (reported.2.none_stands.number (inl (omega (arith, many, length-take 65 all))))
    by_number (inl many) (inr (fault, refused)) = inr (
      fault,
      record {
        first = first-of-all captures all steps fault many refused.first;
        nothing = refused.nothing;
        tells = refused.tells;
        refused = refused.refused;
      },
    )

-- what plays and hands on for the listeners that are kept does so for all that were asked for
pub plays-as-all : (form : LineForm) (explained traced : Bool) (captures : List (List ℕ)) (all kept : List Spec) (steps : List Step) (old new : Streams) (outcome : Outcome) (replayed : Result Replayed Fault)
    → kept ≡ take 65 all → PlaysAs form explained traced captures kept steps old new outcome replayed → PlaysAs form explained traced captures all steps old new outcome replayed
plays-as-all form explained traced captures all kept steps old new outcome replayed is plays =
    by_number (cases_lt 64 (length all)) replayed (subst (λ (specs : List Spec). PlaysAs form explained traced captures specs steps old new outcome replayed) is plays)
  where
    by_number : (64 < length all) ⊎ (length all ≤ 64) → (replayed : Result Replayed Fault) → PlaysAs form explained traced captures (take 65 all) steps old new outcome replayed → PlaysAs form explained traced captures all steps old new outcome replayed
    by_number (inr few) replayed plays = subst (λ (specs : List Spec). PlaysAs form explained traced captures specs steps old new outcome replayed) (take_all 65 all (omega (arith, few))) plays
    by_number (inl many) (Ok replayed) plays = absurd (plays.1.none_stands.number (inl (omega (arith, many, length-take 65 all))))
    by_number (inl many) (Err fault) refused = record {
      first = first-of-all captures all steps fault many refused.first;
      nothing = refused.nothing;
      tells = refused.tells;
      refused = refused.refused;
    }
