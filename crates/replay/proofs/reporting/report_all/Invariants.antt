use Rattle.std.proofs.Common.{◌≡◌, ◌+◌, ◌≤◌, length, vec_capacity}
use Rattle.std.specs.List.{AllZip}
use Rattle.replay.specs.RunsEnded.{HasItsPairs, IsReportOf}
use Rattle.replay.proofs.Lists.{Completes}
use Rattle.replay.proofs.reporting.report_all.Given as goal

-- the interfaces that are reported, and those that are left beside their links
abbrev pub invariant-loop-one : goal.invariant-loop-one
invariant-loop-one g l =
    (goal.iterator-loop-one g).can_next l.one-iterator × (goal.iterator-loop-one g).is_finite l.one-iterator
    × AllZip HasItsPairs l.links.rest.items l.one-iterator.rest.items
    × Completes (IsReportOf g.S.Source.left g.S.Source.failures g.W.Sink.taken g.W.Sink.failures) l.fn.running.items l.reports.items l.one-iterator.rest.items
    × (length l.reports.items + length l.one-iterator.rest.items ≡ length l.fn.running.items)
    × (length l.fn.running.items ≤ vec_capacity l.reports)
