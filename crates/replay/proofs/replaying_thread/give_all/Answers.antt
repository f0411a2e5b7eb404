use Rattle.std.proofs.Common.{◌≡◌, ◌<◌, ◌^◌, ◌-◌, length, map, get_or, ap, sym, ◌∙◌, arith, subst, List}
use Rattle.std.proofs.Math.ListN.{set}
use Rattle.std.proofs.lemmas.List.{length-map}
use Rattle.std.proofs.lemmas.List.Edits.{map_over_more}
use Rattle.listener.specs.LookingBack.{count, is_arrival}
use Rattle.listener.specs.Messages.{arrival}
use Rattle.replay.specs.Lines.{Line, line_of, fed_with, slot_pair}
use Rattle.replay.proofs.Asked.{get-any, get-map, map-set, rest-here}
use Rattle.replay.proofs.replaying_thread.give_all.Goals as goal

pub give-requires-clause-pair : goal.give-requires-clause-pair
give-requires-clause-pair c =
    let f = fed_with c.args.placed.now.n (arrival c.args.placed.now.capture c.args.placed.now.place c.args.placed.now.packet.now) in
    let slots = c.args.slots.now.items in
    let links = c.args.links.now in
    let ls = map line_of slots in
    let x = c.slot-item.result in
    let i = c.loop-k.k in
    let h : i < length ls = omega (arith, c.loop-k-test.true, c.deref_mut-slot-items.ensures.len, length-map slots line_of) in
    let inside : i < length links = omega (arith, h, length-map slots line_of, ap length c.requires.pairs, length-map slots slot_pair) in
    let here : get_or ls i (line_of x) ≡ line_of (get_or c.loop-k.slot-items i x) =
    rest-here f ls i (line_of x) h ∙ ap (λ (vs : List Line). get_or vs i (line_of x)) (sym c.loop-k.invariant) ∙ get-map line_of c.loop-k.slot-items i x in
    ap (λ (l : Line). l.pair) (sym here ∙ get-map line_of slots i x)
    ∙ sym (get-map slot_pair slots i x) ∙ ap (λ ps. get_or ps i (slot_pair x)) c.requires.pairs
    ∙ get-any links i (slot_pair x) c.index-links-k.result inside ∙ sym c.index-links-k.is

pub give-requires-clause-room : goal.give-requires-clause-room
give-requires-clause-room c =
    let f = fed_with c.args.placed.now.n (arrival c.args.placed.now.capture c.args.placed.now.place c.args.placed.now.packet.now) in
    let ls = map line_of c.args.slots.now.items in
    let x = c.slot-item.result in
    let i = c.loop-k.k in
    let h : i < length ls = omega (arith, c.loop-k-test.true, c.deref_mut-slot-items.ensures.len, length-map c.args.slots.now.items line_of) in
    let here : get_or ls i (line_of x) ≡ line_of (get_or c.loop-k.slot-items i x) =
    rest-here f ls i (line_of x) h ∙ ap (λ (vs : List Line). get_or vs i (line_of x)) (sym c.loop-k.invariant) ∙ get-map line_of c.loop-k.slot-items i x in
    subst (λ (l : Line). count is_arrival l.asks < 2 ^ 64 - 1) here (c.requires.room i (line_of x) h)

pub loop-k-preserved : goal.loop-k-preserved
loop-k-preserved c =
    let f = fed_with c.args.placed.now.n (arrival c.args.placed.now.capture c.args.placed.now.place c.args.placed.now.packet.now) in
    let ls = map line_of c.args.slots.now.items in
    let x = c.slot-item.result in
    let i = c.loop-k.k in
    let h : i < length ls = omega (arith, c.loop-k-test.true, c.deref_mut-slot-items.ensures.len, length-map c.args.slots.now.items line_of) in
    map-set line_of c.loop-k.slot-items i c.give.new.slot
    ∙ ap (λ (l : Line). set (map line_of c.loop-k.slot-items) i l) (c.give.ensures ∙ ap (λ v. f (line_of v)) (sym c.slot-item.is))
    ∙ map_over_more f ls (map line_of c.loop-k.slot-items) i (line_of x) h c.loop-k.invariant
    (ap line_of c.slot-item.is ∙ sym (get-map line_of c.loop-k.slot-items i x))
