use Rattle.std.proofs.Common.{refl, ◌∙◌}
use Rattle.filter_bdd.proofs.Tables.{grown_same}
use Rattle.filter_diagrams.proofs.Builders.{extends_by}
use Rattle.filter_diagrams.proofs.builder.Builder.count_visit.Goals as goal

pub returns : goal.returns
returns c = extends_by c.args.self.now.symbols _ refl (grown_same c.args.self.now.symbols.words.diagrams _ (c.count.ensures ∙ c.set_aside.ensures))
