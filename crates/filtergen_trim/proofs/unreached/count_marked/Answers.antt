use Rattle.std.proofs.Common.{◌≡◌, ◌∙◌, ap, arith}
use Rattle.std.proofs.lemmas.List.{length-take-le}
use Rattle.filtergen_trim.specs.Trimming.{count_marked}
use Rattle.filtergen_trim.proofs.Reached.{count_marked-within, counted, uncounted}
use Rattle.filtergen_trim.proofs.unreached.count_marked.Goals as goal
use Rattle.filtergen_trim.proofs.unreached.count_marked.Goals.{then-mark, else-mark}

pub overflow_add-count : goal.overflow_add-count
overflow_add-count c = let within = count_marked-within c.args.after.now c.loop-mark.mark-index in omega arith

pub loop-mark-preserved : goal.loop-mark-preserved
loop-mark-preserved c =
    elim c.if-mark.branch [
      | then-mark w ↦ w.count-is ∙ counted c.args.after.now c.args.passed c.loop-mark.mark-index c.loop-mark.count c.loop-mark-test.true c.loop-mark.invariant w.if-mark.true
      | else-mark w ↦ w.count-is ∙ uncounted c.args.after.now c.args.passed c.loop-mark.mark-index c.loop-mark.count c.loop-mark-test.true c.loop-mark.invariant w.if-mark.false
    ]

pub returns-clause-within : goal.returns-clause-within
returns-clause-within c =
    let size = length-take-le c.args.passed c.args.after.now c.requires in
    let within = count_marked-within c.args.after.now c.loop-mark.mark-index in
    omega (arith, size)

pub returns-clause-value : goal.returns-clause-value
returns-clause-value c =
    let size = length-take-le c.args.passed c.args.after.now c.requires in
    let at : c.loop-mark.mark-index ≡ c.args.passed = omega (arith, size) in
    c.loop-mark.invariant ∙ ap (λ n. count_marked n c.args.after.now) at
