use Rattle.std.proofs.Common.{◌≡◌, ◌*◌, ◌<◌, length, take}
use Rattle.filtergen_code.specs.ValueLists.{in_ranges, ChoosesFrom}
use Rattle.filtergen_code.proofs.Seeking.{LeadsAs}
use Rattle.filtergen_code.proofs.code.Code.emit_comparisons.Given as goal

-- the spans so far are asked for
abbrev pub invariant-loop-range : goal.invariant-loop-range
invariant-loop-range l = record {
  chooses : ChoosesFrom (7 * l.range-index) (λ r. in_ranges (take l.range-index l.fn.ranges) r.accumulator) l.fn.exits l.no l.fn.self l.self;
  leads : LeadsAs l.self l.yes l.fn.self l.fn.exits.yes;
  front : 0 < l.range-index → l.no ≡ length l.self;
}
