use Rattle.std.proofs.Common.{◌≡◌, ℕ, drop, get_or, length, map, sym, ap, ◌∙◌, arith, rules}
use Rattle.replay.specs.Lines.{ended_all, ended_line, ended_of, line_of, slot_pair}
use Rattle.replay.proofs.Lists.{grown, moved-itself-next, next-there}
use Rattle.replay.proofs.replaying_thread.end_all.Goals as goal

pub end_one-requires : goal.end_one-requires
end_one-requires c =
    let here : length c.loop-slot.ends.items ≡ c.len-k.result = search rules in
    let n = next-there c.args.player.links.now _ (slot_pair c.in-Some.slot) (map slot_pair c.next.new.self.rest.items)
    (sym c.loop-slot.invariant.2 ∙ ap (λ ss. map slot_pair ss) c.in-Some.ensures.steps.0) in
    sym (n.1 c.index-links-k.result) ∙ ap (λ (k : ℕ). get_or c.args.player.links.now k c.index-links-k.result) here ∙ sym c.index-links-k.is

pub bounds-links-k : goal.bounds-links-k
bounds-links-k c =
    let here : length c.loop-slot.ends.items ≡ c.len-k.result = search rules in
    let n = next-there c.args.player.links.now _ (slot_pair c.in-Some.slot) (map slot_pair c.next.new.self.rest.items)
    (sym c.loop-slot.invariant.2 ∙ ap (λ ss. map slot_pair ss) c.in-Some.ensures.steps.0) in
    let inside = n.0 in omega (arith, here, inside)

pub push_reserved-requires : goal.push_reserved-requires
push_reserved-requires c =
    let less = ap length c.in-Some.ensures.steps.0 in
    let sum = c.loop-slot.invariant.4 in
    let room = c.loop-slot.invariant.5 in omega (arith, less, sum, room)

pub loop-slot-preserved : goal.loop-slot-preserved
loop-slot-preserved c =
    let taken = c.in-Some.ensures.steps.0 in
    let pushed = c.push_reserved.ensures.items in
    let n = next-there c.args.player.links.now _ (slot_pair c.in-Some.slot) (map slot_pair c.next.new.self.rest.items)
    (sym c.loop-slot.invariant.2 ∙ ap (λ ss. map slot_pair ss) taken) in (
      tt,
      tt,
      sym n.2 ∙ ap (λ (k : ℕ). drop k c.args.player.links.now) (sym (grown _ _ _ pushed)),
      moved-itself-next ended_of _ _ c.end_one.result (ended_line (line_of c.in-Some.slot)) _ _ _ c.loop-slot.invariant.3
          (ap (λ ls. ended_all (map line_of ls)) taken) pushed c.end_one.ensures,
      (let more = grown _ _ _ pushed in let less = ap length taken in let sum = c.loop-slot.invariant.4 in omega (arith, more, less, sum)),
      (let capacity = c.push_reserved.ensures.capacity in let room = c.loop-slot.invariant.5 in omega (arith, capacity, room)),
    )
