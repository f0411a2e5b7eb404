use Rattle.std.proofs.Common.{inr}
use Rattle.fault_report.specs.Reports.{TellsAmong}
use Rattle.cli_compare.proofs.Out.{decides-before}
use Rattle.cli_compare.proofs.decide.decide_files.Goals as goal

pub returns-in-Ok-clause-answers : goal.returns-in-Ok-clause-answers
returns-in-Ok-clause-answers g c tells =
    let F = g.F.FileStore in
    let contents = g.O.Write.contents in
    let S = g.E.FaultSink in
    let old = c.args.files.now in
    let mid = c.accept_pair.new.files in
    let end = c.decide_and_report in
    let kept = c.in-Ok.ensures.kept in
    inr (record {
      pair = c.in-Ok.pair;
      are = c.in-Ok.ensures.pair tells;
      apart = c.in-Ok.ensures.apart tells;
      decides = decides-before (F.place old) (F.place mid) (F.text old) (F.text mid) (F.text end.new.files) (F.failed end.new.files) c.args.words.now c.in-Ok.pair (λ says. TellsAmong S.takes_hints S.failed g.E.Write.contents S.fault_form says c.args.err.now end.new.err) (contents c.args.out.now) (contents end.new.out) end.result
          kept.0 kept.1 (end.ensures.decides tells);
    })
