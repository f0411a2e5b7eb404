use Rattle.std.proofs.Common.{◌++◌, ℕ, List, ap, ◌∙◌, append_assoc, codes, string_bytes}
use Rattle.bpfvm.specs.Images.{brief_text}
use Rattle.line_text.specs.Strings.{json_string}
use Rattle.cli_answers.proofs.json.put_instruction.Goals as goal

pub returns : goal.returns
returns c =
    let name = c.as_str.ensures.value ∙ c.in_ok-put_name.ensures in
    let quoted = json_string (brief_text c.args.insn.now) in
    c.in_ok-put_string.ensures ∙ ap (λ (s : List ℕ). string_bytes c.push_str.new.self ++ json_string s) name
    ∙ ap (λ (t : List ℕ). t ++ quoted) c.in_ok-push_str.ensures.bytes ∙ append_assoc (string_bytes c.args.line.now) (codes "\"instruction\":") quoted
