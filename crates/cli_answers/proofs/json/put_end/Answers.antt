use Rattle.std.proofs.Common.{◌++◌, ℕ, List, refl, ap, ◌∙◌, append_assoc, string_bytes}
use Rattle.cli_answers.specs.Objects.{end_json, instruction_json, run_json, verdict_json}
use Rattle.cli_answers.proofs.json.put_end.Goals as goal

pub returns : goal.returns
returns c =
    let end = c.end_of_run-end.result in
    let run = run_json end.number end.place in
    let instruction = instruction_json end.insn in (
      end_json end.number end.place end.insn,
      record { number = end.number; place = end.place; insn = end.insn; ends = c.end_of_run-end.ensures; answers = c.ended_as-verdict.ensures; told = refl },
      c.in_ok-put_instruction.ensures
          ∙ ap (λ (t : List ℕ). t ++ instruction) (c.in_ok-put_number.ensures ∙ ap (λ (t : List ℕ). t ++ run) c.in_ok-put_verdict.ensures)
          ∙ append_assoc (string_bytes c.args.line.now ++ verdict_json c.ended_as-verdict.result) run instruction,
    )
