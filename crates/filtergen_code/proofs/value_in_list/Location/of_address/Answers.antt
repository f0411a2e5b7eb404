use Rattle.std.proofs.Common.{refl}
use Rattle.filtergen_code.proofs.Six.{whole_bits}
use Rattle.filtergen_code.proofs.value_in_list.Location.of_address.Goals as goal

pub returns-then-mask-eq4294967295 : goal.returns-then-mask-eq4294967295
returns-then-mask-eq4294967295 c = rw c.if-mask-eq4294967295.true (λ p r bytes. whole_bits c.args.offset p bytes)

pub returns-else-mask-eq4294967295 : goal.returns-else-mask-eq4294967295
returns-else-mask-eq4294967295 c = λ p r bytes. refl
