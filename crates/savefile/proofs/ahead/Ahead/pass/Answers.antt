use Rattle.std.proofs.Common.{◌≡◌, ◌+◌, ◌-◌, drop, sym, arith}
use Rattle.std.proofs.lemmas.List.{take-take}
use Rattle.savefile.proofs.Pieces.{length-slice_range, slice_range-further}
use Rattle.savefile.proofs.ahead.Ahead.pass.Goals as goal

pub returns-clause-waiting : goal.returns-clause-waiting
returns-clause-waiting g c =
    let a = c.args.self.now in
    let all = length-slice_range a.memory.items a.start a.end (omega arith) (omega arith) in
    slice_range-further a.memory.items a.start a.end (c.args.front + c.args.count) (omega arith)

pub returns-clause-lent : goal.returns-clause-lent
returns-clause-lent g c =
    let a = c.args.self.now in
    let xs = a.memory.items in
    let all = length-slice_range xs a.start a.end (omega arith) (omega arith) in
    let from : a.start + (c.args.front + c.args.count) - c.args.count ≡ a.start + c.args.front = omega arith in
    let many : a.start + (c.args.front + c.args.count) - (a.start + c.args.front) ≡ c.args.count = omega arith in
    rw (from, many, ← slice_range-further xs a.start a.end c.args.front (omega arith)) (sym (take-take c.args.count (a.end - (a.start + c.args.front)) (drop (a.start + c.args.front) xs) (omega arith)))
