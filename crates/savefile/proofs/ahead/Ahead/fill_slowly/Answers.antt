use Rattle.std.proofs.Common.{ℕ, ◌+◌, ◌%◌, ◌^◌, inl, inr, ap, ◌∙◌, arith}
use Rattle.std.proofs.lemmas.Result.{err_from_is_err_and}
use Rattle.savefile.proofs.Steps.{Grows-trans, length-waiting}
use Rattle.savefile.proofs.ahead.Ahead.fill_slowly.Goals as goal

pub returns-in_err-read_more-clause-grows : goal.returns-in_err-read_more-clause-grows
returns-in_err-read_more-clause-grows g c =
    Grows-trans g.R.Source.left c.args.self.now c.loop-self.self c.read_more.new.self c.loop-self.invariant.grows c.in_err-read_more.ensures.grows

pub returns-in_err-read_more-clause-short : goal.returns-in_err-read_more-clause-short
returns-in_err-read_more-clause-short g c =
    let told = err_from_is_err_and c.from_residual.result c.from_residual.ensures.1 in
    let all = length-waiting c.read_more.new.self in
    let before = c.loop-self-test.true in
    let same = c.in_err-read_more.ensures.stays in
    rw told.1 (omega (arith, all, before, same))

pub returns-in_err-read_more-clause-failures : goal.returns-in_err-read_more-clause-failures
returns-in_err-read_more-clause-failures g c =
    let told = err_from_is_err_and c.from_residual.result c.from_residual.ensures.1 in
    rw told.1 (c.in_err-read_more.ensures.failures ∙ ap (λ (n : ℕ). (n + 1) % 2 ^ 64) c.loop-self.invariant.failures)

pub returns-then-branch-eq0-clause-grows : goal.returns-then-branch-eq0-clause-grows
returns-then-branch-eq0-clause-grows g c =
    Grows-trans g.R.Source.left c.args.self.now c.loop-self.self c.read_more.new.self c.loop-self.invariant.grows c.in_ok-read_more.ensures.grows

pub returns-then-branch-eq0-clause-enough : goal.returns-then-branch-eq0-clause-enough
returns-then-branch-eq0-clause-enough g c =
    let before = c.loop-self-test.true in
    let most = c.requires in
    inr (c.in_ok-read_more.ensures.end c.if-branch-eq0.true (omega (arith, before, most)))

pub returns-then-branch-eq0-clause-failures : goal.returns-then-branch-eq0-clause-failures
returns-then-branch-eq0-clause-failures g c = c.in_ok-read_more.ensures.failures ∙ c.loop-self.invariant.failures

pub loop-self-smaller : goal.loop-self-smaller
loop-self-smaller g c =
    let count = c.in_ok-read_more.ensures.count in
    let some = c.if-branch-eq0.false in
    let before = c.loop-self-test.true in omega (arith, count, some, before)

pub loop-self-preserved : goal.loop-self-preserved
loop-self-preserved g c = record {
  grows = Grows-trans g.R.Source.left c.args.self.now c.loop-self.self c.read_more.new.self c.loop-self.invariant.grows c.in_ok-read_more.ensures.grows;
  failures = c.in_ok-read_more.ensures.failures ∙ c.loop-self.invariant.failures;
}

pub returns-clause-enough : goal.returns-clause-enough
returns-clause-enough g c =
    let all = length-waiting c.loop-self.self in
    let enough = c.loop-self-test.false in inl (omega (arith, all, enough))
