use Rattle.std.proofs.Common.{◌*◌, length, arith}
use Rattle.filtergen_code.specs.ValueLists.{in_ranges}
use Rattle.filtergen_code.proofs.Runs.{extends-more}
use Rattle.filtergen_code.proofs.Seeking.{choice-near}
use Rattle.filtergen_code.proofs.code.Code.emit_last_comparisons_of_others.Goals as goal

pub returns-in_ok-room : goal.returns-in_ok-room
returns-in_ok-room c =
    let ranges = c.args.group.now.ranges.items in
    let same = c.if-is_one_for_all_types.ensures in
    let nears = c.emit_relay.ensures in
    rw (same.0, same.1) (
      extends-more (7 * length ranges) (omega (arith, c.requires.some)) nears.extends,
      choice-near (λ r. in_ranges ranges r.accumulator) c.requires.ip nears c.requires.there,
    )
