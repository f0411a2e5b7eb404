use Rattle.std.proofs.Common.{◌≡◌, ◌+◌, ◌≤◌, List, length, take}
use Rattle.bpfvm.specs.Listing.{further_lines}
use Rattle.tap_steps.specs.declared.filters.Spec.{Spec}
use Rattle.tap_text.specs.Listeners.{IsListenerLine}
use Rattle.line_text.proofs.Reading.{IsRead}
use Rattle.tap_text.proofs.listeners.read_listeners.Given as goal

-- all that the lines so far ask for, of which the first are kept
abbrev pub invariant-loop-rest : goal.invariant-loop-rest
invariant-loop-rest l =
    (all : List Spec) × IsRead IsListenerLine (further_lines l.text) (further_lines l.rest) all
    × (l.specs.items ≡ take 65 all) × (l.number ≡ length all) × (l.number + length l.rest ≤ length l.text)

abbrev pub decreases-loop-rest : goal.decreases-loop-rest
decreases-loop-rest l = length l.rest
