-- What holds of the definitions, whatever the code does.
use Rattle.std.specs.Prelude.{◌≡◌, Bool, IsSome}
use Rattle.filter_tree.specs.Trees.{Amount, Tree}
use Rattle.filter_tree.specs.Trees as trees
use Rattle.filter_tree.specs.declared.tree.Comparison.{Comparison}
use Rattle.filter_tree.specs.declared.tree.Primitive.{Primitive}
use Rattle.filter_meaning.specs.declared.verdict.Verdict.TheVariants.{Abort}
use Rattle.filter_meaning.specs.Meaning.{Packet, primitive_test, relation_test, meaning}
use Rattle.filter_meaning.specs.Looks.{why}
use Rattle.filter_explain.specs.Asking.{questions, turned, LastDecides}

-- of what is asked, the last decides
abbrev pub TheLastDecides : Type 0
TheLastDecides =
    (negated : Bool) (t : Tree) (p : Packet) → LastDecides (questions negated t p) (turned negated (meaning t p))

-- a primitive that aborts has a cause
abbrev pub PrimitivesHaveCauses : Type 0
PrimitivesHaveCauses = (q : Primitive) (p : Packet) → primitive_test q p ≡ Abort → IsSome (why (trees.test q) p)

-- and so has a relation
abbrev pub RelationsHaveCauses : Type 0
RelationsHaveCauses =
    (c : Comparison) (v w : Amount) (p : Packet) → relation_test c v w p ≡ Abort → IsSome (why (trees.relation c v w) p)
