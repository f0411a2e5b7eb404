use Rattle.filter_tree.specs.Trees.{amount_of}
use Rattle.filter_diagrams.proofs.Layers.{relation-says}
use Rattle.filter_diagrams.proofs.builder.Builder.relation.Goals as goal

pub returns-clause-means : goal.returns-clause-means
returns-clause-means c =
    relation-says c.in_layers.new.self.symbols c.in_layers-2.new.self.symbols c.both.new.self.symbols c.compare_values.new.self c.both-2.new.self.symbols
    c.args.comparison (amount_of c.args.left.now) (amount_of c.args.right.now)
    c.in_ok-first.first c.in_ok-second.second c.in_ok-layers.layers c.in_ok-test.test c.in_ok-whole.whole
    c.in_layers-2.ensures.extends c.compare_values.ensures.extends c.in_ok-first.ensures.means c.in_ok-second.ensures.means
    c.in_ok-layers.ensures.means c.in_ok-test.ensures.says c.in_ok-whole.ensures.means
