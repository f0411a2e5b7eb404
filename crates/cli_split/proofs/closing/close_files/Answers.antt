use Rattle.cli_split.proofs.Closings.{notes-stay}
use Rattle.cli_split.proofs.closing.close_files.Goals as goal

pub returns-clause-failed : goal.returns-clause-failed
returns-clause-failed g c tells =
    notes-stay g.F.Input.Source.failures (g.F.FileStore.failed c.close_captures.new.files) (g.F.FileStore.failed c.close_parts.new.files) c.args.end.sources.items (c.close_parts.ensures.stays tells)
    (c.close_captures.ensures.failed tells)
