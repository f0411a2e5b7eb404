use Rattle.std.proofs.Common.{◌≡◌, ◌∙◌, ◌++◌, List, ap, arith, length, map, refl, subst, sym, ℕ}
use Rattle.std.specs.List.{AllZip}
use Rattle.std.proofs.lemmas.Result.{err_from_is_err_and}
use Rattle.cli_store.specs.Files.{Places}
use Rattle.cli_split.specs.Opened.{IsLate}
use Rattle.cli_split.specs.SplitFiles.{HaveOwnFiles}
use Rattle.cli_split.specs.declared.outcome.Refusal.TheVariants as refusal
use Rattle.cli_split.proofs.Parting.{inputs-unmade, late-kept, opened-apart, outputs-unmade, space-of, split-kept}
use Rattle.cli_split.proofs.files.split_planned.Goals as goal

pub split_captures-requires : goal.split_captures-requires
split_captures-requires g c κs =
    let place = g.F.FileStore.place c.args.files.now in
    let here = g.F.FileStore.place c.late_captures.new.files in
    let text = g.F.FileStore.text c.args.files.now in
    let opened = g.F.FileStore.opened c.late_captures.new.files in
    let words = c.args.words.now in
    let lines = c.args.plan.lines.items in
    let kept = c.in_ok-captures.ensures.kept in
    let paths = c.as_slice.ensures.value in (
      (refl, tt),
      (
        space-of c.len.result (length c.in_ok-captures.captures.items) (length c.as_slice-2.result.now) (length lines) c.in_ok-space.space (omega (arith, c.len.ensures, c.in_ok-captures.captures.ok))
            (ap length c.as_slice-2.ensures.value) c.in_ok-space.ensures,
        (
          c.requires.all,
          (
            c.requires.programs,
            (
              (λ tells. late-kept g.F.Input.Source.left g.F.Input.Source.failures place here text (g.F.FileStore.text c.late_captures.new.files) words.inputs.items c.in_ok-captures.captures.items kept.0 kept.1
                  (subst (λ ps. AllZip (IsLate g.F.Input.Source.left g.F.Input.Source.failures place text) ps c.in_ok-captures.captures.items) paths (c.in_ok-captures.ensures.late tells))),
              (
                (λ tells. opened-apart place here words lines (g.F.FileStore.opened c.args.files.now) opened kept.0 c.requires.none_open
                    (subst (λ ps. opened ≡ g.F.FileStore.opened c.args.files.now ++ map (λ path. place path.now) ps) paths (c.in_ok-captures.ensures.opened tells)) (c.requires.apart tells)),
                (λ tells. subst (λ (pl : Places). HaveOwnFiles pl lines) (sym kept.0) (c.requires.own tells)),
              ),
            ),
          ),
        ),
      ),
    )

pub returns-in_err-captures-clause-refused : goal.returns-in_err-captures-clause-refused
returns-in_err-captures-clause-refused g c tells =
    let p = err_from_is_err_and c.from_residual.result c.from_residual.ensures.1 in
    rw (p.1, p.2) (inputs-unmade (g.F.FileStore.place c.args.files.now) (g.F.FileStore.text c.args.files.now) (g.F.FileStore.text c.late_captures.new.files) (g.F.FileStore.denied c.late_captures.new.files) c.args.words.now
    c.args.plan.lines.items c.in_err-captures.field-0.0 c.in_err-captures.ensures.kept.1 (rw c.as_slice.ensures.value at (c.in_err-captures.ensures.refused tells)))

pub returns-in_err-space-clause-refused : goal.returns-in_err-space-clause-refused
returns-in_err-space-clause-refused g c tells =
    let p = err_from_is_err_and c.from_residual-in_err-space.result c.from_residual-in_err-space.ensures.1 in
    rw (p.1, p.2) (inputs-unmade (g.F.FileStore.place c.args.files.now) (g.F.FileStore.text c.args.files.now) (g.F.FileStore.text c.late_captures.new.files) (g.F.FileStore.denied c.late_captures.new.files) c.args.words.now
    c.args.plan.lines.items refusal.NoMemory c.in_ok-captures.ensures.kept.1 tt)

pub returns-clause-split : goal.returns-clause-split
returns-clause-split g c tells =
    let kept = c.in_ok-captures.ensures.kept in
    split-kept (g.F.FileStore.place c.args.files.now) (g.F.FileStore.place c.late_captures.new.files) (g.F.FileStore.text c.args.files.now) (g.F.FileStore.text c.late_captures.new.files)
    (g.F.FileStore.text c.split_captures.new.files) (g.F.FileStore.failed c.split_captures.new.files) c.args.words.now c.args.plan.lines.items c.split_captures.result kept.0 kept.1 (c.split_captures.ensures.split tells)

pub returns-clause-closed : goal.returns-clause-closed
returns-clause-closed g c tells = c.split_captures.ensures.closed tells ∙ c.in_ok-captures.ensures.kept.2

pub returns-clause-refused : goal.returns-clause-refused
returns-clause-refused g c tells =
    let kept = c.in_ok-captures.ensures.kept in
    outputs-unmade (g.F.FileStore.place c.args.files.now) (g.F.FileStore.place c.late_captures.new.files) (g.F.FileStore.text c.args.files.now) (g.F.FileStore.text c.late_captures.new.files)
    (g.F.FileStore.text c.split_captures.new.files) (g.F.FileStore.denied c.split_captures.new.files) c.args.words.now c.args.plan.lines.items c.split_captures.result kept.0 kept.1 (c.split_captures.ensures.refused tells)
