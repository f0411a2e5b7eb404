use Rattle.std.proofs.Common.{length}
use Rattle.filtergen_code.proofs.code.Code.+emit_members.Given as goal

abbrev pub decreases-emit_members : goal.decreases-emit_members
decreases-emit_members l = length l.others.now.members.items
