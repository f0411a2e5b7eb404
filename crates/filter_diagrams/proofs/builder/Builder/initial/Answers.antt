use Rattle.filter_diagrams.proofs.States.{initial-state}
use Rattle.filter_diagrams.proofs.builder.Builder.initial.Goals as goal

pub returns-clause-initial : goal.returns-clause-initial
returns-clause-initial c =
    initial-state c.constant.new.self.diagrams c.of.result c.in_ok-constant.field-0 c.of.ensures.accumulator c.of.ensures.index c.of.ensures.memory
    c.in_ok-constant.ensures.value.inside c.in_ok-constant.ensures.value.is
