use Rattle.std.proofs.Common.{◌≡◌, ◌≢◌, ◌++◌, ◌∙◌, [], List, All, map, refl, subst, sym}
use Rattle.std.specs.List.{AllZip}
use Rattle.cli_split.specs.Opened.{IsLate}
use Rattle.cli_cut.specs.Captures.{IsUnopened}
use Rattle.cli_cut.specs.Cutting.{SparesListing}
use Rattle.cli_cut.proofs.Several.{cut_all, opened_apart, unopened_all}
use Rattle.cli_cut.proofs.captures.cut_several.Goals as goal

pub cut_opened-requires : goal.cut_opened-requires
cut_opened-requires g c κs =
    let L = g.F.Input.Source.left in
    let B = g.F.Input.Source.failures in
    let words = c.args.words.now in
    let inputs = words.inputs.items in
    let place = g.F.FileStore.place in
    let checked = c.check_paths.new.files in
    let opened = c.open_captures.new.files in
    let text = g.F.FileStore.text in
    let second = c.in_ok-check_paths.ensures.kept in
    let third = c.in-Ok.ensures.kept in (
      (refl, tt),
      (
        (λ tells. subst (λ t. AllZip (IsLate L B (place opened) t) inputs c.in-Ok.captures.items) (sym third.1)
            (subst (λ pl. AllZip (IsLate L B pl (text checked)) inputs c.in-Ok.captures.items) (sym third.0)
            (subst (λ ps. AllZip (IsLate L B (place checked) (text checked)) ps c.in-Ok.captures.items) c.as_slice.ensures.value (c.in-Ok.ensures.late tells)))),
        (λ tells. opened_apart (place opened) (g.F.FileStore.opened opened) (g.F.FileStore.opened checked) inputs (place opened words.output.now)
            (c.in_ok-check_paths.ensures.opened ∙ c.in_ok-program.ensures.opened ∙ c.requires.none_open)
            (subst (λ pl. g.F.FileStore.opened opened ≡ g.F.FileStore.opened checked ++ map (λ path. pl path.now) inputs) (sym third.0)
            (subst (λ ps. g.F.FileStore.opened opened ≡ g.F.FileStore.opened checked ++ map (λ path. place checked path.now) ps) c.as_slice.ensures.value (c.in-Ok.ensures.opened tells)))
            (subst (λ pl. All (λ input. pl input.now ≢ pl words.output.now) inputs) (sym (third.0 ∙ second.0)) (c.in_ok-check_paths.ensures.apart tells))),
      ),
    )

pub returns-in-Ok-clause-cuts : goal.returns-in-Ok-clause-cuts
returns-in-Ok-clause-cuts g c tells =
    let words = c.args.words.now in
    let place = g.F.FileStore.place in
    let text = g.F.FileStore.text in
    let old = c.args.files.now in
    let opened = c.open_captures.new.files in
    let new = c.cut_opened.new.files in
    let first = c.in_ok-program.ensures.kept in
    let second = c.in_ok-check_paths.ensures.kept in
    let third = c.in-Ok.ensures.kept in
    cut_all (g.F.FileStore.failed new) (g.F.FileStore.denied new) words (place old) (place opened) (text old) (text opened) (text new) c.cut_opened.result c.in_ok-program.program
    (third.0 ∙ second.0 ∙ first.0) (third.1 ∙ second.1 ∙ first.1) (c.in_ok-program.ensures.given tells)
    (subst (λ pl. All (λ input. pl input.now ≢ pl words.output.now) words.inputs.items) first.0 (c.in_ok-check_paths.ensures.apart tells))
    (subst (λ pl. SparesListing pl words) first.0 (c.in_ok-check_paths.ensures.spares tells))
    (c.cut_opened.ensures.others tells) (c.cut_opened.ensures.cuts tells) (c.cut_opened.ensures.refused tells)

pub returns-in-Err-clause-cuts : goal.returns-in-Err-clause-cuts
returns-in-Err-clause-cuts g c tells =
    let words = c.args.words.now in
    let place = g.F.FileStore.place in
    let text = g.F.FileStore.text in
    let old = c.args.files.now in
    let checked = c.check_paths.new.files in
    let new = c.open_captures.new.files in
    let first = c.in_ok-program.ensures.kept in
    let second = c.in_ok-check_paths.ensures.kept in
    let third = c.in-Err.ensures.kept in
    unopened_all (g.F.FileStore.failed new) (g.F.FileStore.denied new) words (place old) (place checked) (text old) (text new) c.in-Err.refusal (second.0 ∙ first.0) (third.1 ∙ second.1 ∙ first.1)
    (subst (λ ps. IsUnopened (place checked) (g.F.FileStore.denied new) ps c.in-Err.refusal) c.as_slice.ensures.value (c.in-Err.ensures.refused tells))
