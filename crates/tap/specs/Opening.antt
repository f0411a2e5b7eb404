-- Listeners as they are opened, and what steps lead them to. Only private clauses say this.
use Rattle.std.specs.Prelude.{◌≡◌, ℕ, Bool, List, [], Option, string_bytes}
use Rattle.std.specs.List.{AllZip}
use Rattle.bpfvm.specs.declared.insn.Insn.{Insn}
use Rattle.savefile.specs.declared.fault.Fault.{Fault}
use Rattle.filterlang.specs.Trees.{Tree}
use Rattle.filtergen_code.specs.Compiling.{StandsFor}
use Rattle.listener.specs.Listening.{listening, InRange}
use Rattle.listener.specs.PlainList.{empty}
use Rattle.tap_steps.specs.declared.filters.Spec.{Spec}
use Rattle.tap_steps.specs.declared.filters.Filter.{Filter}
use Rattle.tap_steps.specs.declared.filters.Filter.TheVariants.{Text, Program}
use Rattle.tap_steps.specs.declared.playlist.PlacedPacket.{PlacedPacket}
use Rattle.tap_steps.specs.declared.step.Step.{Step}
use Rattle.tap_steps.specs.Playlist.{IsPlaylist}
use Rattle.tap_steps.specs.Reports.{terms_of}
use Rattle.tap_steps.specs.Watching.{Watch, watch, no_answers, played, AllPackets}
use Rattle.tap.specs.Filters.{ReadsOnlyAs}
use Rattle.tap.specs.Refusals.{FilterIsRight}

-- the program that a filter is made
abbrev pub ProgramOf : Filter → ℕ → List Insn → Type 0
ProgramOf (Program p) snap program = program ≡ p
ProgramOf (Text text) snap program = (tree : Tree) × ReadsOnlyAs (string_bytes text) tree × StandsFor program tree snap

-- a listener as it was asked for, as it begins, and whether its answers are followed
pub record Opened (traced : Bool) (spec : Spec) (w : Watch) : Type 0 where
  pub program : List Insn
  pub made : ProgramOf spec.filter spec.snap program
  pub stands : FilterIsRight spec.filter spec.snap
  pub range : InRange spec.snap spec.capacity
  pub is : w ≡ watch (listening program spec.snap (terms_of spec) empty) [] (no_answers traced)

-- What steps came to: the listeners as they were opened went through all steps, over the playlist of the captures.
pub record ComesTo (traced : Bool) (captures : List (List ℕ)) (specs : List Spec) (steps : List Step) (playlist : List PlacedPacket) (record_fault : Option (ℕ × Fault)) (done : List Watch) : Type 0 where
  pub of_captures : IsPlaylist 0 captures playlist record_fault
  pub packets : AllPackets playlist
  pub began : List Watch
  pub opened : AllZip (Opened traced) specs began
  pub ends : done ≡ played steps playlist began
