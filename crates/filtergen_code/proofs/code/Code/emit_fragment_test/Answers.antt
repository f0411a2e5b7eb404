use Rattle.filter_meaning.specs.Meaning.{half}
use Rattle.filtergen_code.specs.Remaining.{is_unfragmented}
use Rattle.filtergen_code.proofs.Deciding.{decides-not, decides-same}
use Rattle.filtergen_code.proofs.Sharing.{no_bit}
use Rattle.filtergen_code.proofs.code.Code.emit_fragment_test.Goals as goal

pub returns : goal.returns
returns c = decides-same _ is_unfragmented (λ p bytes. no_bit (half 20 p) 0x1fff) (decides-not (rw c.opposite.ensures at c.emit_test.ensures))
