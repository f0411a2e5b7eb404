use Rattle.std.proofs.Common.{◌+◌, ◌*◌, ◌-◌, ◌<◌, length, take, drop, List, ◌≡◌, ◌++◌, sym, ap, ◌∙◌, arith}
use Rattle.std.proofs.lemmas.List.{take-append-drop, take_all, length-take, length-drop}
use Rattle.std.proofs.lemmas.Result.{MatchResult-weaker}
use Rattle.filtergen_facts.specs.declared.lists.ValueRange.{ValueRange}
use Rattle.filtergen_code.proofs.Following.{follows-more}
use Rattle.filtergen_code.proofs.Seeking.{follows-sides}
use Rattle.filtergen_code.proofs.code.Code.emit_side_lookups.Goals as goal

pub returns-in-Source : goal.returns-in-Source
returns-in-Source c = rw c.in-Source.is (MatchResult-weaker c.emit_lookup.result (rw c.as_slice-ranges.ensures.value at c.emit_lookup.ensures) (λ entry done. (follows-more _ _ (omega arith) done.0, done.1)) (λ e full. omega (arith, full)))

pub returns-in-Destination : goal.returns-in-Destination
returns-in-Destination c =
    rw c.in-Destination.is (MatchResult-weaker c.emit_lookup-in-Destination.result (rw c.as_slice-ranges.ensures.value at c.emit_lookup-in-Destination.ensures) (λ entry done. (follows-more _ _ (omega arith) done.0, done.1)) (λ e full. omega (arith, full)))

pub returns-in_ok-next-in-Either : goal.returns-in_ok-next-in-Either
returns-in_ok-next-in-Either c =
    let ranges = c.args.group.now.ranges.items in
    let n = length ranges - 1 in
    let first : List ValueRange = take (length ranges - n) (drop n ranges) in
    let whole : first ≡ drop n ranges = take_all (length ranges - n) (drop n ranges) (omega (arith, length-drop n ranges)) in
    let some : 0 < length (take n ranges) = omega (arith, length-take n ranges, c.requires.many) in
    let one : length first ≡ 1 = omega (arith, ap length whole, length-drop n ranges, c.requires.many) in
    let third = rw c.as_slice-ranges.ensures.value at c.in_ok-last-in-Either.ensures in
    let second = rw c.as_slice-ranges.ensures.value at c.in_ok-next-in-Either.ensures in
    rw c.in-Either.is
    (MatchResult-weaker c.emit_lookup-in-Either-3.result (rw c.as_slice-ranges.ensures.value at c.emit_lookup-in-Either-3.ensures)
    (λ entry done. (
      follows-more (14 * length ranges + 6) _ (omega (arith, length-take n ranges, c.requires.many))
          (follows-sides c.args.source c.args.destination ranges (take n ranges) first (sym (take-append-drop n ranges) ∙ ap (λ l. take n ranges ++ l) (sym whole)) one some
          c.requires.exits third.0 second.0 done.0),
      done.1,
    ))
    (λ e full. omega (arith, full, one, third.0.extends.within, second.0.extends.within, length-take n ranges, c.requires.many)))
