use Rattle.std.proofs.Common.{◌≡◌, length, rules, arith}
use Rattle.std.specs.Iterator.Adapters.{zip_first, zip_second}
use Rattle.std.specs.Slice.Iter.{iter_rest}
use Rattle.std.proofs.lemmas.List.{length-append}
use Rattle.std.proofs.lemmas.Slice.Zip.{zip_turn, zip_end}
use Rattle.filtergen_facts.proofs.Joining.{asked-more, asked-all}
use Rattle.filtergen_facts.proofs.value_lists.OtherMembers.ask_for.Goals as goal

pub loop-member-preserved : goal.loop-member-preserved
loop-member-preserved c =
    let start = c.into_iter-member-iterator.result in
    let ms = c.args.self.now.members.items in
    let xs = c.args.ranges.now in
    let before = c.loop-member.yielded in
    let members : iter_rest (zip_first start) ≡ ms = search rules in
    let ranges : iter_rest (zip_second start) ≡ xs = search rules in
    let turn =
    zip_turn ms xs before start c.loop-member.member-iterator c.next.new.self c.next.result members ranges c.loop-member.yielded_by
    (c.in-Some.member, c.in-Some.range) c.in-Some.is c.next.ensures.steps in
    rw (length-append before _)
    (asked-more c.args.kind xs ms (length before) c.in-Some.range.now c.in-Some.member.now turn.0 turn.1 (turn.2 _) (turn.3 _)
    c.if-not-is.ensures.same c.if-not-is-2.ensures c.loop-member.invariant)

pub returns : goal.returns
returns c =
    let start = c.into_iter-member-iterator.result in
    let ms = c.args.self.now.members.items in
    let xs = c.args.ranges.now in
    let before = c.loop-member.yielded in
    let members : iter_rest (zip_first start) ≡ ms = search rules in
    let ranges : iter_rest (zip_second start) ≡ xs = search rules in
    let all = zip_end ms xs before start c.loop-member.member-iterator c.next.new.self c.next.result members ranges c.loop-member.yielded_by c.in-None.is c.next.ensures.steps in
    asked-all c.args.kind xs ms (length before) (omega (arith, all, c.len.ensures.value, c.if-len-ranges.false)) (omega (arith, all, c.len.ensures.value, c.if-len-ranges.false)) c.loop-member.invariant
