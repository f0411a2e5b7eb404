use Rattle.std.proofs.Common.{◌≡◌, All, fold, take}
use Rattle.std.specs.Prelude.{IsOk}
use Rattle.cli_text.specs.Status.{greater}
use Rattle.cli_text.specs.declared.status.Status.TheVariants.{Clean}
use Rattle.cli_split.specs.Reporting.{TellsParts}
use Rattle.cli_split.specs.Statuses.{written_status}
use Rattle.cli_split.proofs.report.report_parts.Given as goal

-- the greatest status of those before the index, and what was reported of them: nothing, if each part was written whole
abbrev pub invariant-loop-n : goal.invariant-loop-n
invariant-loop-n g l =
    (l.status ≡ fold (λ status part. greater status (written_status part.written)) Clean (take l.n l.parts))
    × TellsParts g.E.FaultSink.takes_hints g.E.FaultSink.failed g.E.Write.contents g.E.FaultSink.fault_form l.lines 0 (take l.n l.parts) l.fn.err l.err
    × (All (λ part. IsOk part.written) l.parts → l.err ≡ l.fn.err)
