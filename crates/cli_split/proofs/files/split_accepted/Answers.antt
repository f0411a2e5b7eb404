use Rattle.std.proofs.Common.{◌∙◌, ap, refl, subst, sym}
use Rattle.std.proofs.lemmas.Result.{err_from_is_err_and}
use Rattle.cli_store.specs.Files.{Places, Texts}
use Rattle.cli_split.specs.SplitFiles.{AreApart, AreUnprinted, HaveOwnFiles}
use Rattle.cli_split.proofs.Parting.{asked-by, planned-into, shared-files, unmade-files, unread-files}
use Rattle.cli_split.proofs.files.split_accepted.Goals as goal

pub split_planned-requires : goal.split_planned-requires
split_planned-requires g c κs =
    let place = g.F.FileStore.place in
    let found = c.read_lines_text.new.files in
    let words = c.args.words.now in
    let lines = c.in-Ok.plan.lines.items in
    let same = c.as_slice.ensures.value in
    let second = c.in_ok-check_paths.ensures.kept in (
      (refl, tt),
      (
        c.in_ok-check_paths.ensures.opened ∙ c.in_ok-text.ensures.opened ∙ c.requires.none_open,
        (
          c.in-Ok.ensures.all,
          (
            c.in-Ok.ensures.programs,
            (
              (λ tells. subst (λ (pl : Places). AreApart pl words lines) (sym second.0) (subst (λ ls. AreApart (place found) words ls) same (c.in_ok-check_paths.ensures.apart tells))),
              (λ tells. subst (λ (pl : Places). HaveOwnFiles pl lines) (sym second.0) (subst (λ ls. HaveOwnFiles (place found) ls) same (c.in_ok-check_paths.ensures.own tells))),
            ),
          ),
        ),
      ),
    )

pub returns-in_err-text-clause-refused : goal.returns-in_err-text-clause-refused
returns-in_err-text-clause-refused g c tells =
    let p = err_from_is_err_and c.from_residual.result c.from_residual.ensures.1 in
    let found = c.read_lines_text.new.files in
    rw (p.1, p.2) (unread-files (g.F.FileStore.place c.args.files.now) (g.F.FileStore.text c.args.files.now) (g.F.FileStore.text found) (g.F.FileStore.printed c.args.files.now) (g.F.FileStore.failed found)
    (g.F.FileStore.denied found) c.args.words.now c.in_err-text.field-0.0 c.in_err-text.ensures.kept.1 (c.in_err-text.ensures.refused tells))

pub returns-in-Err-clause-refused : goal.returns-in-Err-clause-refused
returns-in-Err-clause-refused g c tells = ((c.in_ok-text.ensures.text tells, c.in-Err.ensures.fault), (λ p. ap (λ (t : Texts). t p) c.in_ok-text.ensures.kept.1))

pub returns-in_err-check_paths-clause-refused : goal.returns-in_err-check_paths-clause-refused
returns-in_err-check_paths-clause-refused g c tells =
    let p = err_from_is_err_and c.from_residual-in_err-check_paths.result c.from_residual-in_err-check_paths.ensures.1 in
    let place = g.F.FileStore.place c.args.files.now in
    let text = g.F.FileStore.text c.args.files.now in
    let found = c.read_lines_text.new.files in
    let checked = c.check_paths.new.files in
    let words = c.args.words.now in
    let lines = c.in-Ok.plan.lines.items in
    let first = c.in_ok-text.ensures.kept in
    rw (p.1, p.2) (shared-files place (g.F.FileStore.place found) text (g.F.FileStore.text checked) (g.F.FileStore.printed c.args.files.now) (g.F.FileStore.printed found) (g.F.FileStore.failed checked)
    (g.F.FileStore.denied checked) words lines c.in_err-check_paths.field-0.0 first.0 (c.in_err-check_paths.ensures.kept.1 ∙ first.1) c.in_ok-text.ensures.printed
    (asked-by place text words c.in_ok-text.text.now lines (c.in_ok-text.ensures.text tells) c.in-Ok.ensures.lines c.in-Ok.ensures.few) (rw c.as_slice.ensures.value at (c.in_err-check_paths.ensures.refused tells)))

pub returns-clause-split : goal.returns-clause-split
returns-clause-split g c tells =
    let first = c.in_ok-text.ensures.kept in
    let second = c.in_ok-check_paths.ensures.kept in
    let place = g.F.FileStore.place c.args.files.now in
    let lines = c.in-Ok.plan.lines.items in
    let words = c.args.words.now in
    let same = c.as_slice.ensures.value in
    planned-into place (g.F.FileStore.place c.check_paths.new.files) (g.F.FileStore.text c.args.files.now) (g.F.FileStore.text c.check_paths.new.files) (g.F.FileStore.text c.split_planned.new.files)
    (g.F.FileStore.printed c.args.files.now) (g.F.FileStore.failed c.split_planned.new.files) words lines c.split_planned.result (second.0 ∙ first.0) (second.1 ∙ first.1)
    (asked-by place (g.F.FileStore.text c.args.files.now) words c.in_ok-text.text.now lines (c.in_ok-text.ensures.text tells) c.in-Ok.ensures.lines c.in-Ok.ensures.few)
    (subst (λ (pl : Places). AreApart pl words lines) first.0 (subst (λ ls. AreApart (g.F.FileStore.place c.read_lines_text.new.files) words ls) same (c.in_ok-check_paths.ensures.apart tells)))
    (subst (λ (pl : Places). HaveOwnFiles pl lines) first.0 (subst (λ ls. HaveOwnFiles (g.F.FileStore.place c.read_lines_text.new.files) ls) same (c.in_ok-check_paths.ensures.own tells)))
    (subst (λ pr. AreUnprinted place pr words lines) c.in_ok-text.ensures.printed
    (subst (λ (pl : Places). AreUnprinted pl (g.F.FileStore.printed c.read_lines_text.new.files) words lines) first.0
    (subst (λ ls. AreUnprinted (g.F.FileStore.place c.read_lines_text.new.files) (g.F.FileStore.printed c.read_lines_text.new.files) words ls) same (c.in_ok-check_paths.ensures.unprinted tells))))
    c.split_planned.ensures.lines (c.split_planned.ensures.split tells)

pub returns-clause-closed : goal.returns-clause-closed
returns-clause-closed g c tells = c.split_planned.ensures.closed tells ∙ c.in_ok-check_paths.ensures.kept.2 ∙ c.in_ok-text.ensures.kept.2

pub returns-clause-refused : goal.returns-clause-refused
returns-clause-refused g c tells =
    let first = c.in_ok-text.ensures.kept in
    let second = c.in_ok-check_paths.ensures.kept in
    let place = g.F.FileStore.place c.args.files.now in
    let lines = c.in-Ok.plan.lines.items in
    unmade-files place (g.F.FileStore.place c.check_paths.new.files) (g.F.FileStore.text c.args.files.now) (g.F.FileStore.text c.check_paths.new.files) (g.F.FileStore.text c.split_planned.new.files)
    (g.F.FileStore.printed c.args.files.now) (g.F.FileStore.failed c.split_planned.new.files) (g.F.FileStore.denied c.split_planned.new.files) c.args.words.now lines c.split_planned.result
    (second.0 ∙ first.0) (second.1 ∙ first.1)
    (asked-by place (g.F.FileStore.text c.args.files.now) c.args.words.now c.in_ok-text.text.now lines (c.in_ok-text.ensures.text tells) c.in-Ok.ensures.lines c.in-Ok.ensures.few) (c.split_planned.ensures.refused tells)
