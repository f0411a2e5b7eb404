-- What a replay reports of its listeners' answers.
use Rattle.std.specs.Prelude.{◌≡◌, ℕ, List, Option, Some, length}
use Rattle.std.specs.List.{slice_get}
use Rattle.savefile.specs.declared.fault.Fault.{Fault}
use Rattle.listener.specs.declared.message.Message.{Message}
use Rattle.listener.specs.Messages.{Arrival}
use Rattle.tap_steps.specs.declared.answer.Answered.{Answered}
use Rattle.tap_steps.specs.declared.playlist.PlacedPacket.{PlacedPacket}
use Rattle.tap_steps.specs.declared.step.Step.{Step}
use Rattle.tap_steps.specs.declared.filters.Spec.{Spec}
use Rattle.tap_steps.specs.Answers.{AreLegal}
use Rattle.tap_steps.specs.OwnSteps.{own}
use Rattle.tap_steps.specs.Playlist.{IsPlaylist}
use Rattle.tap_steps.specs.Reports.{terms_of}
use Rattle.tap.specs.Filters.{FiltersAs}

-- For each listener there are the legal answers to its own steps over the playlist.
pub record Traces (captures : List (List ℕ)) (specs : List Spec) (steps : List Step) (playlist : List PlacedPacket) (record_fault : Option (ℕ × Fault)) (answers : List (List Answered)) : Type 0 where
  pub of_captures : IsPlaylist 0 captures playlist record_fault
  pub one_each : length answers ≡ length specs
  pub each : (l : ℕ) (spec : Spec) → slice_get specs l ≡ Some spec →
      (own_answers : List Answered) × (slice_get answers l ≡ Some own_answers)
      × (keeps : Arrival → Option Message) × FiltersAs spec.filter spec.snap keeps × AreLegal (terms_of spec) (own keeps l steps playlist) own_answers
