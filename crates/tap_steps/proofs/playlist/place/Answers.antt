use Rattle.std.proofs.Common.{◌≡◌, ◌+◌, ◌++◌, ◌∷◌, [], length, sym, ap, ◌∙◌, arith, append_assoc, length-append, subst, ◌<◌}
use Rattle.std.specs.List.{AllByRecursion}
use Rattle.tap_steps.specs.Playlist.{placed}
use Rattle.tap_steps.proofs.Playlists.{placed-push, packets-push}
use Rattle.tap_steps.proofs.playlist.place.Goals as goal

pub loop-packet-preserved : goal.loop-packet-preserved
loop-packet-preserved c =
    let i = c.loop-packet.invariant in
    let p = c.in-Some.packet in
    let n : c.loop-packet.place ≡ 0 + length c.loop-packet.yielded = omega (arith, i.number) in
    record {
      items = c.in_ok-push.ensures.items ∙ ap (λ l. l ++ record { capture = c.args.capture; place = c.loop-packet.place; packet = p } ∷ []) i.items
          ∙ append_assoc c.args.to.now.items (placed c.args.capture 0 c.loop-packet.yielded) (record { capture = c.args.capture; place = c.loop-packet.place; packet = p } ∷ []) ∙ ap (λ k. c.args.to.now.items ++ (placed c.args.capture 0 c.loop-packet.yielded ++ record { capture = c.args.capture; place = k; packet = p } ∷ [])) n
          ∙ ap (λ l. c.args.to.now.items ++ l) (sym (placed-push c.args.capture 0 c.loop-packet.yielded p));
      number = omega (arith, i.number, length-append c.loop-packet.yielded (p ∷ []));
      packets = λ h. rw c.in_ok-push.ensures.items (packets-push _ _ (i.packets h) (subst (AllByRecursion (λ b. b < 256)) c.as_slice.ensures c.are_bytes.ensures));
    }
