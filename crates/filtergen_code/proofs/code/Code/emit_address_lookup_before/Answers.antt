use Rattle.std.proofs.Common.{arith}
use Rattle.std.proofs.lemmas.Result.{MatchResult-weaker}
use Rattle.filtergen_code.proofs.Deciding.{decides-more}
use Rattle.filtergen_code.proofs.code.Code.emit_address_lookup_before.Goals as goal

pub returns-in-Source : goal.returns-in-Source
returns-in-Source c = rw c.in-Source.is (MatchResult-weaker c.emit_address_load.result c.emit_address_load.ensures (λ entry done. decides-more _ (omega arith) done) (λ e full. omega (arith, full)))

pub returns-in-Destination : goal.returns-in-Destination
returns-in-Destination c =
    rw c.in-Destination.is (MatchResult-weaker c.emit_address_load-in-Destination.result c.emit_address_load-in-Destination.ensures (λ entry done. decides-more _ (omega arith) done) (λ e full. omega (arith, full)))

pub returns-in-Either : goal.returns-in-Either
returns-in-Either c = rw c.in-Either.is c.emit_either_address.ensures
