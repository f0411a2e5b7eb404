use Rattle.std.proofs.Common.{◌++◌, ℕ, List, ap, ◌∙◌, append_assoc, string_bytes}
use Rattle.cli_answers.specs.Objects.{at_json, returned_json}
use Rattle.cli_answers.proofs.json.put_number.Goals as goal

pub returns : goal.returns
returns c =
    let returned = returned_json c.args.number in
    let at = at_json c.args.place in
    c.in_ok-put_at.ensures ∙ ap (λ (t : List ℕ). t ++ at) c.in_ok-put_returned.ensures ∙ append_assoc (string_bytes c.args.line.now) returned at
