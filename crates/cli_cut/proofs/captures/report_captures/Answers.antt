use Rattle.std.proofs.Common.{◌≡◌, ◌∙◌, [], ◌∷◌, false, refl, subst, sym}
use Rattle.std.proofs.lemmas.Bool.{false≢true}
use Rattle.line_text.specs.declared.form.LineForm.{LineForm}
use Rattle.fault_report.specs.Reports.{Tells}
use Rattle.cli_split.proofs.Telling.{faults-quiet}
use Rattle.cli_split.specs.declared.plan.SplitLine.{SplitLine}
use Rattle.cli_cut.specs.Captures.{total_told}
use Rattle.cli_cut.proofs.captures.report_captures.Goals as goal

pub returns-then-words-clause-told : goal.returns-then-words-clause-told
returns-then-words-clause-told g c =
    let H = g.E.FaultSink.takes_hints in
    let B = g.E.FaultSink.failed in
    let C = g.E.Write.contents in
    let F = g.E.FaultSink.fault_form in
    let line : SplitLine = record { snap = c.args.words.now.snap; output = c.args.words.now.output; expression = c.unwrap_or.result } in
    let mid = c.hint_ended.new.err in (
      mid,
      (λ well off. let silent = c.report_faults-status.ensures.silent well in c.hint_ended.ensures.quiet (subst (λ e. H e ≡ false) (sym silent) off) ∙ silent),
      (line, refl, faults-quiet H B C F (line ∷ []) c.args.words.now.inputs.items c.args.end.now c.args.err.now _ _ (rw c.as_slice.ensures.value at c.report_faults-status.ensures.told) c.hint_ended.ensures.quiet),
      (
        (λ asked. subst (λ (form : LineForm). Tells H B C F mid c.report_total.new.err (total_told form c.args.end.now)) c.asked.ensures c.report_total.ensures.told),
        (λ unasked. absurd (false≢true (sym unasked ∙ c.if-words.true))),
      ),
    )

pub returns-else-words-clause-told : goal.returns-else-words-clause-told
returns-else-words-clause-told g c =
    let H = g.E.FaultSink.takes_hints in
    let B = g.E.FaultSink.failed in
    let C = g.E.Write.contents in
    let F = g.E.FaultSink.fault_form in
    let line : SplitLine = record { snap = c.args.words.now.snap; output = c.args.words.now.output; expression = c.unwrap_or.result } in (
      c.hint_ended.new.err,
      (λ well off. let silent = c.report_faults-status.ensures.silent well in c.hint_ended.ensures.quiet (subst (λ e. H e ≡ false) (sym silent) off) ∙ silent),
      (line, refl, faults-quiet H B C F (line ∷ []) c.args.words.now.inputs.items c.args.end.now c.args.err.now _ _ (rw c.as_slice.ensures.value at c.report_faults-status.ensures.told) c.hint_ended.ensures.quiet),
      ((λ asked. absurd (false≢true (sym c.if-words.false ∙ asked))), (λ unasked off. refl)),
    )
