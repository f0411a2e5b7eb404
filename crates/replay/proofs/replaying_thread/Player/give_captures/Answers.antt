use Rattle.std.proofs.Common.{◌++◌, sym, rules, subst, length}
use Rattle.std.proofs.lemmas.List.Elements.{All-append}
use Rattle.replay.specs.Captures.{GivesPlaylist, arrivals_from}
use Rattle.replay.specs.Lines.{HasArrived}
use Rattle.replay_types.specs.declared.report.InterfaceEnd.{InterfaceEnd}
use Rattle.replay.specs.Writing.{IsTimely}
use Rattle.replay.proofs.Played.{loop-read, loop-unread, plays-all}
use Rattle.replay.proofs.Timely.{writable-timely}
use Rattle.replay.proofs.replaying_thread.Player.give_captures.Goals.{in-Some-end, in-None-end}
use Rattle.replay.proofs.replaying_thread.Player.give_captures.Goals as goal

pub loop-n-preserved : goal.loop-n-preserved
loop-n-preserved g c =
    let L = g.S.Source.left in
    let B = g.S.Source.failures in
    let all = c.args.captures.items in
    let taken = c.in-Some.ensures.steps.0.0 in
    let rest = c.next.new.self.iter.rest.items in
    let left = c.loop-n.n-iterator.iter.rest.items in
    let before = c.loop-n.sources.items in
    let after = c.push_reserved.new.self.items in
    let k = c.loop-n.n-iterator.count in
    let m = c.next.new.self.count in
    elim c.match-end.branch [
      | in-Some-end w ↦ (
        search rules,
        search rules,
        search rules,
        (let (starts, playlist, arrived) = c.loop-n.invariant.3 in (starts, playlist, subst (λ p. HasArrived starts playlist p) (sym w.self-is) arrived)),
        (λ starts fresh.
            let (playlist, timely, arrived, so) = c.loop-n.invariant.4 starts fresh in (
              playlist,
              timely,
              subst (λ p. HasArrived starts playlist p) (sym w.self-is) arrived,
              loop-unread L B all before after k m c.in-Some.source c.match-end.source left rest playlist c.loop-n.end c.match-end.end _ so w.in-Some-end.is taken w.source-is
                  c.push_reserved.ensures.items w.end-is,
            )),
        search rules,
        search rules,
        search rules,
      )
      | in-None-end w ↦ (
        search rules,
        search rules,
        search rules,
        (let (starts, playlist, arrived) = w.give_capture-source.ensures.so_far in (starts, playlist, subst (λ p. HasArrived starts playlist p) (sym w.self-is) arrived)),
        (λ starts fresh.
            let (playlist, timely, arrived, so) = c.loop-n.invariant.4 starts fresh in
            let played = w.give_capture-source.ensures.played in (
              playlist ++ arrivals_from c.in-Some.n 0 played.packets,
              All-append (λ a. IsTimely a.packet.nanos) playlist (arrivals_from c.in-Some.n 0 played.packets) timely (writable-timely c.in-Some.n 0 played.packets played.writable),
              subst (λ p. HasArrived starts (playlist ++ arrivals_from c.in-Some.n 0 played.packets) p) (sym w.self-is) (played.arrive starts playlist arrived),
              loop-read L B all before after k m c.in-Some.n w.give_capture-source.new.self.arrived c.in-Some.source w.give_capture-source.result.0 c.match-end.source left rest
                  playlist played.packets c.loop-n.end c.match-end.end w.give_capture-source.result.1 so w.in-None-end.is taken w.source-is c.push_reserved.ensures.items
                  (search rules) (search rules) (played.arrive starts playlist arrived).0 (played.ends, w.give_capture-source.ensures.back) w.end-is,
            )),
        search rules,
        search rules,
        search rules,
      )
    ]

pub returns : goal.returns
returns g c = λ starts fresh.
    let (playlist, timely, arrived, so) = c.loop-n.invariant.4 starts fresh in (
      playlist,
      timely,
      arrived,
      subst (λ (e : InterfaceEnd). GivesPlaylist g.S.Source.left g.S.Source.failures (length playlist) 0 c.args.captures.items c.loop-n.sources.items playlist e) (sym c.unwrap_or.ensures)
          (plays-all g.S.Source.left g.S.Source.failures c.args.captures.items c.loop-n.sources.items c.loop-n.n-iterator.count
          c.loop-n.n-iterator.iter.rest.items playlist c.loop-n.end so (search rules)),
    )
