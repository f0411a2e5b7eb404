use Rattle.std.proofs.Common.{◌≡◌, ◌+◌, ◌≤◌, length, false, true}
use Rattle.std.specs.List.{AllByRecursion}
use Rattle.fault_report.specs.Reports.{TellsMore}
use Rattle.cli_text.specs.declared.status.Status.TheVariants.{Clean}
use Rattle.cli_store.specs.Files.{Keeps}
use Rattle.cli_explain.proofs.InFull.{Leads}
use Rattle.cli_explain.proofs.full.explain_in_full.Given as goal

-- the captures that are left have not failed, and what they come to is what all come to
abbrev pub invariant-loop-capture : goal.invariant-loop-capture
invariant-loop-capture g l =
    let F = g.F.FileStore in
    let works = λ (capture : g.row.F-Input.Denot). g.F.Input.Source.failures capture ≡ 0 in
    (goal.iterator-loop-capture g).can_next l.capture-iterator × (goal.iterator-loop-capture g).is_finite l.capture-iterator
    × Keeps (F.place l.fn.files) (F.place l.files) (F.text l.fn.files) (F.text l.files) (F.pending l.fn.files) (F.pending l.files)
    × (l.number + length l.capture-iterator.rest.items ≤ length l.fn.captures.items)
    × TellsMore g.E.FaultSink.takes_hints g.E.FaultSink.failed g.E.Write.contents g.E.FaultSink.fault_form l.fn.err l.err
    × (F.known ≡ true → AllByRecursion works l.fn.captures.items → AllByRecursion works l.capture-iterator.rest.items)
    × (F.known ≡ true → AllByRecursion works l.fn.captures.items
    → Leads g.F.Input.Source.left g.O.Write.contents g.E.FaultSink.takes_hints g.E.FaultSink.failed g.E.Write.contents g.E.FaultSink.fault_form l.asked.paths.now l.asked.printer.form l.asked.printer.filter.now l.asked.places.first l.asked.places.last l.fn.captures.items l.fn.out l.fn.err (F.failed l.files)
    l.err l.number l.goes_on l.status l.capture-iterator.rest.items l.out)
    × (g.O.PrintSink.waits l.fn.out ≡ false → l.status ≡ Clean → g.O.PrintSink.waits l.out ≡ false)
