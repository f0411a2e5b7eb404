use Rattle.std.proofs.Common.{flat_map, rules, sym, ap, ◌∙◌, map-id}
use Rattle.std.proofs.Output.{has_written_append, has_written_of_eq}
use Rattle.std.proofs.lemmas.Iterator.{YieldsList-from_chars}
use Rattle.std.proofs.lemmas.Iterator.Consumers.{YieldsList-end}
use Rattle.line_text.specs.Strings.{escaped, escape_text}
use Rattle.line_text.proofs.Escapes.{escaped-more}
use Rattle.line_text.proofs.string.write_characters.Goals as goal

pub loop-character-preserved : goal.loop-character-preserved
loop-character-preserved g c = λ plain.
    let sofar = c.loop-character.invariant plain in
    let next = c.in_ok-write_character.ensures sofar.plain (search rules) in
    has_written_of_eq _ _ _ _ _ (sym (escaped-more c.loop-character.yielded _)) (has_written_append _ _ _ _ _ _ sofar next)

pub returns : goal.returns
unfolding escaped
returns g c = λ plain _.
    let end = YieldsList-end (YieldsList-from_chars c.args.text.now c.utf8.text cc) c.loop-character.yielded _ c.loop-character.yielded_by _ _ c.in-None.is c.next.ensures.steps in
    has_written_of_eq _ _ _ _ _ (ap (λ cs. flat_map escape_text cs) (sym (map-id c.loop-character.yielded) ∙ end.0)) (c.loop-character.invariant plain)
