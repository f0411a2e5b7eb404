use Rattle.std.proofs.Common.{◌++◌, ℕ, List, refl, sym, ap, ◌∙◌}
use Rattle.filter_explain.specs.Asking.{question_of}
use Rattle.cli_answers.specs.Objects.{question_json}
use Rattle.cli_answers.proofs.json.put_meaning.Goals as goal

pub returns : goal.returns
returns c =
    let last = question_of c.decide-asked.result in
    let text = question_json last in
    rw (sym c.packet.view_is) (
      text,
      record { answers = c.answer-verdict.ensures ∙ sym c.decide-asked.ensures.decides; last = last; decides = c.decide-asked.ensures.last; told = refl },
      c.in_ok-put_asked.ensures ∙ ap (λ (t : List ℕ). t ++ text) c.in_ok-put_verdict.ensures,
    )
