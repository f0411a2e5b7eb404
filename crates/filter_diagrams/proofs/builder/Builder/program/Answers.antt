use Rattle.std.proofs.Common.{subst}
use Rattle.filter_symbols.specs.Symbols.{SaysOf}
use Rattle.filter_diagrams.specs.Programs.{program_test}
use Rattle.filter_diagrams.proofs.Builders.{means-grown}
use Rattle.filter_diagrams.proofs.builder.Builder.program.Goals as goal

pub returns-clause-means : goal.returns-clause-means
returns-clause-means c =
    let b = c.walk.new.self.symbols in
    means-grown b c.release.new.self.symbols (program_test c.args.program.now) c.in_ok-node.node c.release.ensures
    (subst (λ l. SaysOf b (program_test l) c.in_ok-node.node) c.insns-insns.ensures.value c.in_ok-node.ensures.means)
