use Rattle.std.proofs.Common.{rules, encode_utf8_all, sym, ap, ◌∙◌, map-id}
use Rattle.std.proofs.Output.{has_written_append, has_written_of_eq}
use Rattle.std.proofs.lemmas.Iterator.Consumers.{YieldsList-end}
use Rattle.cli_text.proofs.Shown.{encoded-more, escape-yields}
use Rattle.cli_text.proofs.report.write_escape.Goals as goal

pub loop-part-preserved : goal.loop-part-preserved
loop-part-preserved g c = λ plain.
    let sofar = c.loop-part.invariant plain in
    let next = c.in_ok-write_char.ensures.writes sofar.plain (search rules) in
    has_written_of_eq _ _ _ _ _ (sym (encoded-more c.loop-part.yielded _)) (has_written_append _ _ _ _ _ _ sofar next)

pub returns : goal.returns
returns g c = λ plain _.
    let end = YieldsList-end (escape-yields _ _ cc) c.loop-part.yielded _ c.loop-part.yielded_by _ _ c.in-None.is c.next.ensures.steps in
    has_written_of_eq _ _ _ _ _ (ap encode_utf8_all (sym (map-id c.loop-part.yielded) ∙ end.0)) (c.loop-part.invariant plain)
