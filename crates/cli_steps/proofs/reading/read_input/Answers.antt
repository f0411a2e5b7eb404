use Rattle.std.proofs.Common.{◌∙◌}
use Rattle.std.proofs.lemmas.Result.{err_from_is_err_and}
use Rattle.cli_steps.proofs.Reasons.{captures_unread, input_of, listeners_unread, script_unread}
use Rattle.cli_steps.proofs.reading.read_input.Goals as goal

pub returns-in_err-listeners-clause-refused : goal.returns-in_err-listeners-clause-refused
returns-in_err-listeners-clause-refused g c tells =
    let p = err_from_is_err_and c.from_residual.result c.from_residual.ensures.1 in
    let F = g.F.FileStore in
    let old = c.args.files.now in
    rw (p.1, p.2) (listeners_unread (F.place old) (F.text old) (F.printed old) (F.failed c.read_text.new.files) (F.denied c.read_text.new.files) c.args.words.now c.in_err-listeners.field-0.0 (c.in_err-listeners.ensures.refused tells))

pub returns-in_err-script-clause-refused : goal.returns-in_err-script-clause-refused
returns-in_err-script-clause-refused g c tells =
    let p = err_from_is_err_and c.from_residual-in_err-script.result c.from_residual-in_err-script.ensures.1 in
    let F = g.F.FileStore in
    let old = c.args.files.now in
    let mid = c.read_text.new.files in
    let kept = c.in_ok-listeners.ensures.kept in
    rw (p.1, p.2) (script_unread (F.place old) (F.place mid) (F.text old) (F.text mid) (F.printed old) (F.failed c.read_text-2.new.files) (F.denied c.read_text-2.new.files) c.args.words.now c.in_err-script.field-0.0
    kept.0 kept.1 (c.in_err-script.ensures.refused tells))

pub returns-in_err-captures-clause-refused : goal.returns-in_err-captures-clause-refused
returns-in_err-captures-clause-refused g c tells =
    let p = err_from_is_err_and c.from_residual-in_err-captures.result c.from_residual-in_err-captures.ensures.1 in
    let F = g.F.FileStore in
    let old = c.args.files.now in
    let places = c.in_ok-check_paths.ensures.kept.0 ∙ c.in_ok-script.ensures.kept.0 ∙ c.in_ok-listeners.ensures.kept.0 in
    rw (p.1, p.2) (captures_unread (F.place old) (F.place c.check_paths.new.files) (F.text old) (F.printed old) (F.failed c.read_captures.new.files) (F.denied c.read_captures.new.files) c.args.words.now
    c.in_err-captures.field-0.0 places (rw c.as_slice-3.ensures.value at (c.in_err-captures.ensures.refused tells)))

pub returns-clause-input : goal.returns-clause-input
returns-clause-input g c tells =
    let F = g.F.FileStore in
    let old = c.args.files.now in
    let one = c.read_text.new.files in
    let two = c.read_text-2.new.files in
    let three = c.check_paths.new.files in
    let kept-1 = c.in_ok-listeners.ensures.kept in
    let kept-2 = c.in_ok-script.ensures.kept in
    let kept-3 = c.in_ok-check_paths.ensures.kept in
    input_of (F.place old) (F.place one) (F.place two) (F.place three) (F.text old) (F.text one) (F.text two) (F.text three) (F.printed old) (F.printed two) c.args.words.now _ _ _ _
    kept-1.0 kept-1.1 (kept-2.0 ∙ kept-1.0) (kept-2.1 ∙ kept-1.1) (c.in_ok-script.ensures.printed ∙ c.in_ok-listeners.ensures.printed) (kept-3.0 ∙ kept-2.0 ∙ kept-1.0) (kept-3.1 ∙ kept-2.1 ∙ kept-1.1)
    c.as_slice.ensures.value c.as_slice-2.ensures.value c.as_slice-3.ensures.value
    (c.in_ok-listeners.ensures.text tells) (c.in_ok-script.ensures.text tells) (c.in_ok-captures.ensures.texts tells) c.in-Ok.ensures.listeners c.in-Ok.ensures.script (c.in_ok-check_paths.ensures.apart tells)
