use Rattle.std.proofs.Common.{◌≡◌, ℕ, List, [], ◌∷◌, ◌++◌, encode_utf8, encode_utf8_all, map, map-id, rules, sym, ap, ◌∙◌, append-nil}
use Rattle.std.proofs.Output.{has_written_append, has_written_of_eq}
use Rattle.std.proofs.lemmas.Iterator.{YieldsList-from_chars}
use Rattle.std.proofs.lemmas.Iterator.Consumers.{YieldsList-end}
use Rattle.std.proofs.lemmas.List.{map-append}
use Rattle.std.proofs.lemmas.Str.{encodes-append}
use Rattle.visible_text.specs.Hidden.{marked, marked_name}
use Rattle.visible_text.proofs.write_marked.Goals as goal

-- one more character
marked-more : (cs : List ℕ) (c : ℕ) → encode_utf8_all (map marked (cs ++ c ∷ [])) ≡ encode_utf8_all (map marked cs) ++ encode_utf8 (marked c)
marked-more cs c =
    ap encode_utf8_all (map-append marked cs (c ∷ []))
    ∙ encodes-append (map marked cs) (marked c ∷ [])
    ∙ ap (λ bs. encode_utf8_all (map marked cs) ++ bs) (append-nil (encode_utf8 (marked c)))

pub loop-character-preserved : goal.loop-character-preserved
loop-character-preserved g c = λ plain.
    let sofar = c.loop-character.invariant plain in
    let next = c.in_ok-write_char.ensures.writes sofar.plain (search rules) in
    let so_far = encode_utf8_all (map marked c.loop-character.yielded) in
    let more = ap (λ m. so_far ++ encode_utf8 m) c.marked.ensures ∙ sym (marked-more c.loop-character.yielded _) in
    has_written_of_eq _ _ _ _ _ more (has_written_append _ _ _ _ _ _ sofar next)

pub returns : goal.returns
unfolding marked_name
returns g c = λ plain _.
    let end = YieldsList-end (YieldsList-from_chars c.args.name.now c.utf8.name cc) c.loop-character.yielded _ c.loop-character.yielded_by _ _ c.in-None.is c.next.ensures.steps in
    has_written_of_eq _ _ _ _ _ (ap (λ cs. encode_utf8_all (map marked cs)) (sym (map-id c.loop-character.yielded) ∙ end.0)) (c.loop-character.invariant plain)
