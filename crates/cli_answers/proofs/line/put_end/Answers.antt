use Rattle.std.proofs.Common.{◌++◌, ℕ, List, refl, ap, ◌∙◌}
use Rattle.cli_answers.specs.Printed.{end_text}
use Rattle.cli_answers.proofs.line.put_end.Goals as goal

pub returns : goal.returns
returns c =
    let end = c.end_of_run-end.result in
    let text = end_text end.number end.place end.insn in (
      text,
      record { number = end.number; place = end.place; insn = end.insn; ends = c.end_of_run-end.ensures; answers = c.ended_as-verdict.ensures; told = refl },
      c.in_ok-put_number.ensures ∙ ap (λ (t : List ℕ). t ++ text) c.in_ok-put_verdict.ensures,
    )
