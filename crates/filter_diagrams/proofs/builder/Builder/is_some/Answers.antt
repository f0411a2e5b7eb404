use Rattle.filter_words.proofs.Nodes.{word_grown}
use Rattle.filter_diagrams.proofs.Builders.{map-ok}
use Rattle.filter_diagrams.proofs.Instructions.{some-says}
use Rattle.filter_diagrams.proofs.builder.Builder.is_some.Goals as goal

pub is_greater-requires-clause-first : goal.is_greater-requires-clause-first
is_greater-requires-clause-first c = word_grown c.args.self.now.symbols.words.diagrams c.constant.new.self.diagrams c.args.word c.constant.ensures.grew c.requires

pub returns-clause-says : goal.returns-clause-says
returns-clause-says c =
    map-ok c.is_greater.result
    (λ i h. some-says c.args.self.now.symbols.words.diagrams c.constant.new.self.diagrams c.is_greater.new.self.diagrams c.args.word c.in_ok-zero.zero i
    c.constant.ensures.grew c.requires c.in_ok-zero.ensures.value h)
    c.is_greater.ensures.says
