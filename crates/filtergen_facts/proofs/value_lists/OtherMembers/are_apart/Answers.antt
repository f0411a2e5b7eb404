use Rattle.std.proofs.Common.{◌≡◌, ◌⊎◌, inl, inr, sym}
use Rattle.std.proofs.lemmas.List.Elements.{All-more}
use Rattle.filtergen_facts.proofs.Members.{all-taken}
use Rattle.filtergen_facts.proofs.Settling.{on-true}
use Rattle.filtergen_facts.proofs.value_lists.OtherMembers.are_apart.Goals.{else-not-is-via-then-not-is+else-not-is-2, else-not-is-via-else-not-is}
use Rattle.filtergen_facts.proofs.value_lists.OtherMembers.are_apart.Goals as goal

pub returns : goal.returns
returns c =
    let kind = c.args.kind in
    let other = c.in-Some.last.now.kind in
    let each = all-taken (λ m. (m.kind ≡ kind) ⊎ (m.kind ≡ other)) c.as_slice-member-items.result.now c.loop-member.member-index c.loop-member-test.false c.loop-member.invariant in
    on-true c.is_apart.result
    (λ apart. rw (sym c.as_slice-member-items.ensures.value) (record { other = other; apart = apart; each = each }))
    c.is_apart.ensures

pub loop-member-preserved : goal.loop-member-preserved
loop-member-preserved c =
    let items = c.as_slice-member-items.result.now in
    let more = All-more (λ m. (m.kind ≡ c.args.kind) ⊎ (m.kind ≡ c.in-Some.last.now.kind)) items c.loop-member.member-index _ c.loop-member-test.true c.loop-member.invariant in
    elim c.else-not-is.branch [
      | else-not-is-via-then-not-is+else-not-is-2 w ↦ more (inr w.if-not-is-2.ensures.same)
      | else-not-is-via-else-not-is w ↦ more (inl w.if-not-is.ensures.same)
    ]

pub returns-then-not-is-2 : goal.returns-then-not-is-2
returns-then-not-is-2 c = tt
