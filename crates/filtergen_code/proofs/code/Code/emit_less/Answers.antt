use Rattle.std.proofs.Common.{nat_le}
use Rattle.filter_meaning.specs.Meaning.{decided}
use Rattle.filtergen_code.proofs.Deciding.{decides-not, decides-same}
use Rattle.filtergen_code.proofs.Sharing.{at_most}
use Rattle.filtergen_code.proofs.code.Code.emit_less.Goals as goal

pub returns : goal.returns
returns c = decides-same _ (λ p. decided (nat_le p.wire c.args.bytes)) (λ p bytes. at_most p.wire c.args.bytes) (decides-not (rw c.opposite.ensures at c.emit_test.ensures))
