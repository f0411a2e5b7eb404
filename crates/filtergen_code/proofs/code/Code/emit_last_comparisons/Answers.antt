use Rattle.std.proofs.lemmas.Result.{MatchResult-weaker}
use Rattle.filtergen_code.specs.ValueLists.{in_ranges}
use Rattle.filtergen_code.proofs.Seeking.{choice-made}
use Rattle.filtergen_code.proofs.code.Code.emit_last_comparisons.Goals as goal

pub returns : goal.returns
returns c =
    MatchResult-weaker c.emit_comparisons.result (rw c.as_slice.ensures.value at c.emit_comparisons.ensures)
    (λ entry done. let is = done.1 c.requires.some in (done.0.extends, rw is at (choice-made (λ r. in_ranges c.args.group.now.ranges.items r.accumulator) c.requires.exits done.0), is))
    (λ e full. full)
