use Rattle.std.specs.Io.KnownBytes.{Keeps}
use Rattle.cli_files.proofs.retried.RetriedRead.read.Given as goal

-- the calls that were interrupted took nothing
abbrev pub invariant-loop : goal.invariant-loop
invariant-loop g l = Keeps (g.T.Read.remaining l.fn.self.inner) (g.T.Read.remaining l.self.inner)
