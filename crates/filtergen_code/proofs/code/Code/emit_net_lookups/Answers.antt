use Rattle.std.proofs.Common.{arith}
use Rattle.std.proofs.lemmas.Result.{MatchResult-from_err}
use Rattle.filtergen_code.specs.ValueLists.{in_ranges}
use Rattle.filtergen_code.proofs.Deciding.{decides-kept, decides-later, decides-more}
use Rattle.filtergen_code.proofs.Runs.{extends-both, exits-kept}
use Rattle.filtergen_code.proofs.Seeking.{choice-kept}
use Rattle.filtergen_code.proofs.code.Code.emit_net_lookups.Goals as goal

pub emit_last_comparisons_of_others-requires-clause-there : goal.emit_last_comparisons_of_others-requires-clause-there
emit_last_comparisons_of_others-requires-clause-there c =
    let targets = c.args.targets in
    let last = rw c.ip_exits-of_ip.ensures at c.in_ok-last.ensures in
    let kept = rw c.ip_exits-of_ip.ensures at c.in_ok-ip-2.ensures in
    rw last.2
    (choice-kept (λ r. in_ranges c.args.group.now.ranges.items r.accumulator)
    (exits-kept (record { yes = targets.yes.ip; no = targets.no.ip }) _ _ (c.requires.targets.0.ip, c.requires.targets.1.ip) last.0) kept.extends last.1)

pub returns-then-are_two_hosts : goal.returns-then-are_two_hosts
returns-then-are_two_hosts c =
    let targets = c.requires.targets in
    let ip = rw c.ip_exits-of_ip.ensures at c.in_ok-ip.ensures in
    let inner = rw c.other_exits-of_others.ensures at c.in_ok-next.ensures in
    (decides-more _ (omega arith) (decides-kept ip inner.extends), decides-more _ (omega arith) (decides-later (targets.0.other, targets.1.other) ip.extends inner))

pub returns : goal.returns
returns c =
    let targets = c.requires.targets in
    let last = c.in_ok-last.ensures in
    let ip = decides-later (targets.0.ip, targets.1.ip) last.0 (rw c.ip_exits-of_ip.ensures at c.in_ok-ip-2.ensures) in
    let again = c.in_ok-emit_last_comparisons_of_others.ensures in
    let inner = rw c.other_exits-of_others.ensures at c.in_ok-next-2.ensures in
    let before = extends-both ip.extends again.0 in
    (decides-more _ (omega arith) (decides-kept ip (extends-both again.0 inner.extends)), decides-more _ (omega arith) (decides-later (targets.0.other, targets.1.other) before inner))

pub returns-in_err-ip : goal.returns-in_err-ip
returns-in_err-ip c =
    MatchResult-from_err c.from_residual.result _ _ c.from_residual.ensures.0 (λ e. omega (arith, c.in_err-ip.ensures))

pub returns-in_err-next : goal.returns-in_err-next
returns-in_err-next c =
    MatchResult-from_err c.from_residual-in_err-next.result _ _ c.from_residual-in_err-next.ensures.0 (λ e. omega (arith, c.in_err-next.ensures, c.in_ok-ip.ensures.extends.within))

pub returns-in_err-last : goal.returns-in_err-last
returns-in_err-last c =
    MatchResult-from_err c.from_residual-in_err-last.result _ _ c.from_residual-in_err-last.ensures.0 (λ e. omega (arith, c.in_err-last.ensures))

pub returns-in_err-ip-2 : goal.returns-in_err-ip-2
returns-in_err-ip-2 c =
    MatchResult-from_err c.from_residual-in_err-ip-2.result _ _ c.from_residual-in_err-ip-2.ensures.0 (λ e. omega (arith, c.in_err-ip-2.ensures, c.in_ok-last.ensures.0.within))

pub returns-in_err-emit_last_comparisons_of_others : goal.returns-in_err-emit_last_comparisons_of_others
returns-in_err-emit_last_comparisons_of_others c =
    MatchResult-from_err c.from_residual-in_err-emit_last_comparisons_of_others.result _ _ c.from_residual-in_err-emit_last_comparisons_of_others.ensures.0 (λ e. omega (arith, c.in_err-emit_last_comparisons_of_others.ensures, c.in_ok-last.ensures.0.within, c.in_ok-ip-2.ensures.extends.within))

pub returns-in_err-next-2 : goal.returns-in_err-next-2
returns-in_err-next-2 c =
    MatchResult-from_err c.from_residual-in_err-next-2.result _ _ c.from_residual-in_err-next-2.ensures.0 (λ e. omega (arith, c.in_err-next-2.ensures, c.in_ok-last.ensures.0.within, c.in_ok-ip-2.ensures.extends.within, c.in_ok-emit_last_comparisons_of_others.ensures.0.within))
