use Rattle.std.proofs.Common.{rules, subst}
use Rattle.filtergen_trim.specs.Sound.{IsSoundCode}
use Rattle.filtergen_code.proofs.Growing.{sound-returns}
use Rattle.filtergen_code.proofs.code.Code.new.Goals as goal

pub invariant_of-result : goal.invariant_of-result
invariant_of-result c = subst IsSoundCode (search rules) (sound-returns c.args.snap 0)
