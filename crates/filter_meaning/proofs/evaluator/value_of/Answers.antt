use Rattle.std.proofs.Common.{ap, sym, ◌∙◌}
use Rattle.filter_tree.specs.Trees.{amount_of}
use Rattle.filter_meaning.specs.Meaning.{packet_of}
use Rattle.filter_meaning.proofs.Good.{number_in}
use Rattle.filter_meaning.proofs.GoodValues.{value_meant}
use Rattle.filter_meaning.proofs.evaluator.value_of.Goals as goal

pub returns-in-Ok : goal.returns-in-Ok
returns-in-Ok c = ap number_in (sym c.in-Ok.is) ∙ ap number_in c.value.ensures.number ∙ value_meant (amount_of c.args.amount.now) (packet_of c.args.packet.now c.args.wire)

pub returns : goal.returns
returns c = ap number_in (sym c.in-Err.is) ∙ ap number_in c.value.ensures.number ∙ value_meant (amount_of c.args.amount.now) (packet_of c.args.packet.now c.args.wire)
