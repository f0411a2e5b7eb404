use Rattle.std.proofs.Common.{◌++◌, false, codes, refl, sym, ap, ◌∙◌, append_assoc}
use Rattle.std.specs.Prelude.{string_bytes}
use Rattle.filter_tree.specs.Trees.{tree_of}
use Rattle.filter_meaning.specs.declared.verdict.Verdict.{Verdict}
use Rattle.filter_meaning.specs.Meaning.{packet_of}
use Rattle.filter_explain.specs.Asking.{questions}
use Rattle.filter_explain.specs.Deciding.{verdict_text, last_text}
use Rattle.cli_answers.proofs.line.put_meaning.Goals as goal

pub returns : goal.returns
returns c =
    let r = c.packet.inside in
    let old = string_bytes c.args.line.now in
    let last = last_text (questions false (tree_of c.args.expr.now) (packet_of r.bytes.now r.len)) in
    rw (sym c.packet.view_is) (
      last,
      record { answers = c.in_ok-put_decision.ensures.verdict; told = refl },
      c.in_ok-put_decision.ensures.told
          ∙ ap (λ (v : Verdict). old ++ (verdict_text v ++ codes " " ++ last)) (sym c.in_ok-put_decision.ensures.verdict)
          ∙ sym (append_assoc old (verdict_text c.in_ok-put_decision.field-0 ++ codes " ") last),
    )
