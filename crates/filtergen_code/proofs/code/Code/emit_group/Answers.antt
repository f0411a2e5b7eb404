use Rattle.std.proofs.Common.{inl, inr, arith}
use Rattle.std.proofs.lemmas.Result.{MatchResult-weaker}
use Rattle.filtergen_code.proofs.Narrowed.{given-more, given-same}
use Rattle.filtergen_code.proofs.Taking.{alone-told}
use Rattle.filtergen_code.proofs.code.Code.emit_group.Goals as goal

pub emit_one_member-requires-clause-form : goal.emit_one_member-requires-clause-form
emit_one_member-requires-clause-form c = inr c.in-EtherHost.is

pub emit_one_member-requires-in-None-clause-form : goal.emit_one_member-requires-in-None-clause-form
emit_one_member-requires-in-None-clause-form c =
    let group = c.args.group.now in
    let told = alone-told group.kind group.primitive group.ranges.items c.requires.alone c.requires.some (omega (arith, c.len.ensures.value, c.if-len-gt1.false)) in
    inl (rw c.in-None.is at told)

pub returns-in_default : goal.returns-in_default
returns-in_default c =
    let group = c.args.group.now in
    let told = alone-told group.kind group.primitive group.ranges.items c.requires.alone c.requires.some (omega (arith, c.len.ensures.value, c.if-len-gt1.false)) in
    let is = rw c.in-Some.is at told in
    MatchResult-weaker c.emit_primitive_with_relays.result c.emit_primitive_with_relays.ensures
    (λ emitted done. (given-more _ (omega (arith, is.1)) (given-same c.args.context.known _ _ (λ p holds. is.0 p) done.0), done.1))
    (λ e full. omega (arith, full, is.1))
