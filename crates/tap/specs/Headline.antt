-- What a replay reports of its listeners.
use Rattle.std.specs.Prelude.{◌≡◌, ℕ, List, Option, Some, length}
use Rattle.std.specs.List.{slice_get}
use Rattle.savefile.specs.declared.fault.Fault.{Fault}
use Rattle.listener.specs.declared.message.Message.{Message}
use Rattle.listener.specs.Messages.{Arrival}
use Rattle.tap_steps.specs.declared.playlist.PlacedPacket.{PlacedPacket}
use Rattle.tap_steps.specs.declared.report.Report.{Report}
use Rattle.tap_steps.specs.declared.step.Step.{Step}
use Rattle.tap_steps.specs.declared.filters.Spec.{Spec}
use Rattle.tap_steps.specs.OwnSteps.{own}
use Rattle.tap_steps.specs.Playlist.{IsPlaylist}
use Rattle.tap_steps.specs.Reports.{Reports, terms_of}
use Rattle.tap.specs.Filters.{FiltersAs}

-- For each listener there is a report of its own steps over this playlist, which is that of the captures.
pub record Replays (captures : List (List ℕ)) (specs : List Spec) (steps : List Step) (playlist : List PlacedPacket) (record_fault : Option (ℕ × Fault)) (reports : List Report) : Type 0 where
  pub of_captures : IsPlaylist 0 captures playlist record_fault
  pub one_each : length reports ≡ length specs
  pub each : (l : ℕ) (spec : Spec) → slice_get specs l ≡ Some spec →
      (report : Report) × (slice_get reports l ≡ Some report)
      × (keeps : Arrival → Option Message) × FiltersAs spec.filter spec.snap keeps × Reports (terms_of spec) (own keeps l steps playlist) report
