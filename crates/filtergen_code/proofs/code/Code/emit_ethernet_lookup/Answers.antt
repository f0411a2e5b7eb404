use Rattle.std.proofs.Common.{arith}
use Rattle.std.proofs.lemmas.Result.{MatchResult-weaker}
use Rattle.filter_meaning.specs.Meaning.{or_test}
use Rattle.filtergen_facts.specs.Lists.{any_of, has_tail}
use Rattle.filtergen_code.proofs.Deciding.{decides-either, decides-more, decides-same}
use Rattle.filtergen_code.proofs.Tails.{ethernet-shared}
use Rattle.filtergen_code.proofs.code.Code.emit_ethernet_lookup.Goals as goal

pub returns-in-Source : goal.returns-in-Source
returns-in-Source c = rw c.in-Source.is (MatchResult-weaker c.emit_tail_lookup.result c.emit_tail_lookup.ensures (λ entry done. decides-more _ (omega arith) done) (λ e full. omega (arith, full)))

pub returns-in-Destination : goal.returns-in-Destination
returns-in-Destination c =
    rw c.in-Destination.is (MatchResult-weaker c.emit_tail_lookup-in-Destination.result c.emit_tail_lookup-in-Destination.ensures (λ entry done. decides-more _ (omega arith) done) (λ e full. omega (arith, full)))

pub returns-in_ok-next-in-Either : goal.returns-in_ok-next-in-Either
returns-in_ok-next-in-Either c =
    let ranges = c.args.group.now.ranges.items in
    let head = c.args.group.now.kind.head in
    let second = c.in_ok-next-in-Either.ensures in
    rw c.in-Either.is
    (MatchResult-weaker c.emit_tail_lookup-in-Either-2.result c.emit_tail_lookup-in-Either-2.ensures
    (λ entry done.
    decides-more _ (omega arith)
    (decides-same _ (any_of (λ x. or_test (has_tail head x 6) (has_tail head x 0)) ranges) (λ p bytes. ethernet-shared head ranges p bytes c.requires.some)
    (decides-either c.requires.exits second done)))
    (λ e full. omega (arith, full, second.extends.within)))
