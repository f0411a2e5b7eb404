use Rattle.std.proofs.Common.{◌≡◌, ◌<◌, ◌++◌, [], ◌∷◌, sym, subst, ◌∙◌, arith, take}
use Rattle.savefile.specs.declared.packet.Packet.{Packet}
use Rattle.savefile.specs.Savefile.{packet}
use Rattle.savefile.specs.Writer.{HasWritten}
use Rattle.pcap_cut.specs.Copying.{Wrote}
use Rattle.pcap_cut.specs.Cut.{accepted, answer}
use Rattle.pcap_cut.proofs.Writing.{put-goes-on, rejected-goes-on, accepted-goes-on}
use Rattle.pcap_cut.proofs.cut.put_accepted.Goals as goal

pub returns-then-verdict-eq0-clause-writes : goal.returns-then-verdict-eq0-clause-writes
returns-then-verdict-eq0-clause-writes g c = λ start order unit head before written.
    let program = c.args.program.now in
    let r = c.packet.inside in
    let p = packet r.sec r.nanos r.len r.bytes.now in
    let rejects : answer program p ≡ 0 = sym c.run-verdict.ensures.verdict ∙ c.if-verdict-eq0.true in
    subst (λ (q : Packet). HasWritten g.W.Sink.taken start order unit head (before ++ accepted program c.args.snap (q ∷ [])) c.args.writer.now) c.packet.view_is
    (rejected-goes-on g.W.Sink.taken start order unit head program c.args.snap before p c.args.writer.now rejects written)

pub returns-clause-writes : goal.returns-clause-writes
returns-clause-writes g c = λ start order unit head before written.
    let program = c.args.program.now in
    let r = c.packet.inside in
    let p = packet r.sec r.nanos r.len r.bytes.now in
    let answers : answer program p ≡ c.run-verdict.result = sym c.run-verdict.ensures.verdict in
    let accepts-it : 0 < answer program p = omega (arith, answers, c.if-verdict-eq0.false) in
    let put = c.put.ensures in
    subst (λ (q : Packet). Wrote g.W.Sink.taken start order unit head (before ++ accepted program c.args.snap (q ∷ [])) c.put.result c.put.new.self) c.packet.view_is
    (accepted-goes-on g.W.Sink.taken start order unit head program c.args.snap before p (take c.min-kept.result r.bytes.now) c.put.result c.put.new.self accepts-it (cc)
    (put-goes-on g.W.Sink.taken start order unit head before _ c.args.writer.now c.put.new.self c.put.result
    (c.growing_text.ensures.begins order unit head before (_ ∷ [])) (c.growing_text.ensures.adds order unit head before _) written
    (put.ok start order unit head before written) (put.broke_off start order unit head before written)
    put.failed.0 (λ e. (put.count_full.0 e).1) put.unchanged put.only))
