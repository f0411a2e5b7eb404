use Rattle.filter_tree.specs.Trees.{amount_of}
use Rattle.filter_meaning.specs.Meaning.{relation_test}
use Rattle.filtergen_code.specs.Parts.{relation_cost}
use Rattle.filtergen_facts.specs.Facts.{with_fact}
use Rattle.filtergen_code.specs.Remaining.{rest_of_relation}
use Rattle.filtergen_facts.specs.declared.packet_facts.PacketFacts.TheVariants as facts
use Rattle.filtergen_code.proofs.Knowing.{relation-ip}
use Rattle.filtergen_code.proofs.Narrowed.{given-same}
use Rattle.filtergen_code.proofs.code.Code.emit_ip_relation_given.Goals as goal

pub returns : goal.returns
returns c =
    let known = c.args.context.known in
    let comparison = c.args.comparison in
    let left = amount_of c.args.left.now in
    let right = amount_of c.args.right.now in
    let inner = rw (c.ip_exits-exits.ensures, c.with_fact-of_ip.ensures) at c.in_ok-next.ensures in
    given-same known _ (relation_test comparison left right) (λ p holds. relation-ip known comparison left right p c.requires.begins holds)
    (c.emit_ip_guard_given.ensures.guards (relation_cost left right) (rest_of_relation (with_fact known (facts.Type 0x0800)) comparison left right) c.args.self.now c.requires.targets inner)
