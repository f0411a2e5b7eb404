use Rattle.std.proofs.Common.{◌≢◌, ℕ, List, [], sym, refl, subst}
use Rattle.std.proofs.lemmas.List.{append-nil}
use Rattle.listener.specs.Messages.{Arrival}
use Rattle.replay.specs.Lines.{HasArrived}
use Rattle.replay.specs.Arrived.{HasGivenPackets}
use Rattle.replay.specs.Captures.{ComesBack}
use Rattle.replay.proofs.Captured.{comes-back, device-or-same, none-writable, not-opened}
use Rattle.replay.proofs.replaying_thread.Player.give_capture.Goals as goal

pub returns-in-Ok-clause-played : goal.returns-in-Ok-clause-played
returns-in-Ok-clause-played g c =
    let start = g.S.Source.left c.args.source in
    let F = g.S.Source.failures in
    subst (λ (n : ℕ). HasGivenPackets start (F c.close.result ≢ n) c.args.capture c.args.self.now c.give_packets-end.new.self c.give_packets-end.result) c.in-Ok.ensures.device
    (subst (λ x. HasGivenPackets start (F x ≢ F c.in-Ok.reader.source) c.args.capture c.args.self.now c.give_packets-end.new.self c.give_packets-end.result) (sym c.close.ensures)
    (c.give_packets-end.ensures.played start c.in-Ok.reader.header c.in-Ok.ensures.ok))

pub returns-in-Err-clause-played : goal.returns-in-Err-clause-played
returns-in-Err-clause-played g c =
    let why = not-opened (g.S.Source.left c.args.source) (g.S.Source.failures c.in-Err.source ≢ g.S.Source.failures c.args.source) c.in-Err.fault
    c.in-Err.ensures.refused c.in-Err.ensures.device.0 in record {
      packets = [];
      writable = none-writable;
      arrive = λ starts playlist h. subst (λ (as' : List Arrival). HasArrived starts as' c.args.self.now) (sym (append-nil playlist)) h;
      ends = (refl, why.0, why.1, why.2);
    }

pub returns-in-Ok-clause-back : goal.returns-in-Ok-clause-back
returns-in-Ok-clause-back g c =
    let back = c.give_packets-end.ensures.back in
    subst (λ x. ComesBack g.S.Source.left g.S.Source.failures c.args.source x c.args.capture c.give_packets-end.result) (sym c.close.ensures)
    (comes-back g.S.Source.left g.S.Source.failures _ c.in-Ok.reader.source _ c.args.capture c.give_packets-end.result c.in-Ok.ensures.taken back.0 c.in-Ok.ensures.device back.1)

pub returns-in-Err-clause-back : goal.returns-in-Err-clause-back
returns-in-Err-clause-back g c = (
  (c.in-Err.ensures.taken.0, c.in-Err.ensures.taken.1),
  device-or-same c.args.capture c.in-Err.fault _ _ c.in-Err.ensures.device.1,
)
