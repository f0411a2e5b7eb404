use Rattle.std.proofs.Common.{arith}
use Rattle.std.proofs.lemmas.Result.{MatchResult-weaker}
use Rattle.filtergen_facts.specs.Lists.{direction_of}
use Rattle.filtergen_code.proofs.Deciding.{decides-later, decides-more}
use Rattle.filtergen_code.proofs.Addresses.{decides-locations}
use Rattle.filtergen_code.proofs.code.Code.emit_address_lookup.Goals as goal

pub returns-then-are_two_hosts : goal.returns-then-are_two_hosts
returns-then-are_two_hosts c =
    MatchResult-weaker c.emit_side_lookups.result c.emit_side_lookups.ensures
    (λ entry done.
    decides-locations (direction_of c.args.group.now.kind.sides) c.of_address-source.result c.of_address-destination.result c.args.group.now.kind.mask c.args.offsets.0 c.args.offsets.1 c.args.group.now.ranges.items
    c.of_address-source.ensures c.of_address-destination.ensures done.0)
    (λ e full. full)

pub returns : goal.returns
returns c =
    let last = c.in_ok-emit_last_comparisons.ensures in
    MatchResult-weaker c.emit_address_lookup_before.result c.emit_address_lookup_before.ensures
    (λ entry done. decides-more _ (omega arith) (decides-later c.requires.exits last.0 done)) (λ e full. omega (arith, full, last.0.within))
