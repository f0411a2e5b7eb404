use Rattle.std.proofs.Common.{◌≡◌, ap, ◌∙◌, refl}
use Rattle.filter_tree.specs.Trees.{Tree, tree_of}
use Rattle.filter_tree.specs.Trees as trees
use Rattle.filter_tree.specs.declared.tree.Primitive.{Primitive}
use Rattle.filter_tree.specs.declared.tree.Comparison.{Comparison}
use Rattle.filter_tree.specs.Trees.{Amount, amount_of}
use Rattle.filter_meaning.specs.declared.verdict.Verdict.{Verdict}
use Rattle.filter_meaning.specs.Meaning.{Packet, packet_of, meaning}
use Rattle.filter_meaning.specs.Looks.{verdict_of, part_asked}
use Rattle.filter_meaning.proofs.GoodPrimitives.{primitives_meant}
use Rattle.filter_meaning.proofs.GoodValues.{relations_meant}
use Rattle.filter_meaning.proofs.evaluator.+evaluate.Goals as goal

test_meant : (t : Tree) (q : Primitive) (p : Packet) (v : Verdict) → t ≡ trees.test q → v ≡ verdict_of (part_asked t p).answer → v ≡ meaning t p
test_meant t q p v is answers = answers ∙ rw is (primitives_meant q p)

relation_meant : (t : Tree) (c : Comparison) (a b : Amount) (p : Packet) (v : Verdict) → t ≡ trees.relation c a b → v ≡ verdict_of (part_asked t p).answer → v ≡ meaning t p
relation_meant t c a b p v is answers = answers ∙ rw is (relations_meant c a b p)

pub returns-in-Test : goal.returns-in-Test
returns-in-Test t c =
    test_meant (tree_of c.args.expr.now) c.in-Test.field-0 (packet_of c.args.packet.now c.args.wire) c.evaluate_part.result (ap tree_of c.in-Test.is) c.evaluate_part.ensures

pub returns-in-Relation : goal.returns-in-Relation
returns-in-Relation t c =
    relation_meant (tree_of c.args.expr.now) c.in-Relation.field-0 (amount_of c.in-Relation.field-1) (amount_of c.in-Relation.field-2)
    (packet_of c.args.packet.now c.args.wire) c.evaluate_part-in-Relation.result (ap tree_of c.in-Relation.is) c.evaluate_part-in-Relation.ensures
