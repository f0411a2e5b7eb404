use Rattle.std.proofs.Common.{◌<◌, ◌^◌, ◌-◌, ◌∷◌, [], All, List, map, ap, sym, ◌∙◌, arith, subst, length-append}
use Rattle.listener.specs.LookingBack.{count, is_arrival}
use Rattle.listener.specs.Messages.{arrival}
use Rattle.replay.specs.Lines.{Line, fed_all, fed_with}
use Rattle.replay.proofs.Asked.{all-fed, few-asked, pairs-fed}
use Rattle.replay.proofs.replaying_thread.Player.arrive.Goals as goal

pub give_all-requires-clause-pairs : goal.give_all-requires-clause-pairs
give_all-requires-clause-pairs g c = let (starts, playlist, h) = c.requires.so_far in h.2

pub give_all-requires-clause-room : goal.give_all-requires-clause-room
give_all-requires-clause-room g c =
    let (starts, playlist, h) = c.requires.so_far in
    subst (λ (ls : List Line). All (λ l. count is_arrival l.asks < 2 ^ 64 - 1) ls) (sym h.1)
    (few-asked (2 ^ 64 - 1) playlist starts (omega (arith, h.0, c.requires.room)))

pub returns : goal.returns
returns g c = λ starts playlist h.
    let a = arrival c.args.capture c.args.place c.args.packet.now in (
      omega (arith, h.0, length-append playlist (a ∷ [])),
      c.give_all.ensures ∙ ap (λ (ls : List Line). map (fed_with c.args.self.now.arrived a) ls) h.1
          ∙ ap (λ n. map (fed_with n a) (map (fed_all playlist) starts)) h.0 ∙ all-fed playlist a starts,
      pairs-fed _ _ _ _ c.give_all.ensures ∙ h.2,
    )
