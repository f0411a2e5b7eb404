use Rattle.std.specs.Io.KnownBytes.{Keeps}
use Rattle.cli_files.proofs.retried.RetriedWrite.write.Given as goal

-- the calls that were interrupted wrote nothing
abbrev pub invariant-loop : goal.invariant-loop
invariant-loop g l = Keeps (g.T.Write.contents l.fn.self.inner) (g.T.Write.contents l.self.inner)
