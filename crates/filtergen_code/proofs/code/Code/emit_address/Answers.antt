use Rattle.std.proofs.Common.{arith, ◌==◌}
use Rattle.filter_meaning.specs.Meaning.{has_address}
use Rattle.filtergen_code.proofs.Deciding.{decides-same, decides-more}
use Rattle.filtergen_code.proofs.Six.{whole_mask}
use Rattle.filtergen_code.proofs.code.Code.emit_address.Goals as goal

pub returns-then-mask-eq4294967295 : goal.returns-then-mask-eq4294967295
returns-then-mask-eq4294967295 c =
    rw c.if-mask-eq4294967295.true
    (decides-more 5 (omega arith)
    (decides-same _ (has_address c.args.address 4294967295 c.args.offset) (λ p bytes. whole_mask c.args.offset (λ w. w == c.args.address) p bytes) c.emit_test.ensures))
