use Rattle.std.proofs.Common.{rules, encode_utf8_all, flat_map, sym, ap, ◌∙◌, map-id}
use Rattle.std.proofs.Output.{has_written_append, has_written_of_eq}
use Rattle.std.proofs.lemmas.Iterator.{YieldsList-from_chars}
use Rattle.std.proofs.lemmas.Iterator.Consumers.{YieldsList-end}
use Rattle.cli_text.specs.Paths.{escaped_path, shown_characters}
use Rattle.cli_text.proofs.Shown.{shown-more}
use Rattle.cli_text.proofs.report.write_path.Goals as goal

pub loop-character-preserved : goal.loop-character-preserved
loop-character-preserved g c = λ plain.
    let sofar = c.loop-character.invariant plain in
    let next = c.in_ok-write_shown.ensures sofar.plain (search rules) in
    has_written_of_eq _ _ _ _ _ (sym (shown-more c.loop-character.yielded _)) (has_written_append _ _ _ _ _ _ sofar next)

pub returns : goal.returns
unfolding escaped_path
returns g c = λ plain _.
    let end = YieldsList-end (YieldsList-from_chars c.args.path.now c.utf8.path cc) c.loop-character.yielded _ c.loop-character.yielded_by _ _ c.in-None.is c.next.ensures.steps in
    has_written_of_eq _ _ _ _ _ (ap (λ cs. encode_utf8_all (flat_map shown_characters cs)) (sym (map-id c.loop-character.yielded) ∙ end.0)) (c.loop-character.invariant plain)
