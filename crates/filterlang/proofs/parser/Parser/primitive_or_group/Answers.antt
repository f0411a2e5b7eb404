use Rattle.std.proofs.Common.{refl}
use Rattle.filter_tree.specs.Trees.{tree_of}
use Rattle.filterlang.proofs.Closing.{group_gives}
use Rattle.filterlang.proofs.parser.Parser.primitive_or_group.Goals as goal

pub returns-in_ok-expr-in-Group : goal.returns-in_ok-expr-in-Group
returns-in_ok-expr-in-Group c =
    rw (c.in_ok-primitive.ensures, c.in-Group.is, c.in_ok-levels-in-Group.ensures, c.in_ok-expr-in-Group.ensures)
    (group_gives tree_of c.close_after.result c.in_ok-expr-in-Group.expr _ _ _ _ _ c.close_after.ensures refl)
