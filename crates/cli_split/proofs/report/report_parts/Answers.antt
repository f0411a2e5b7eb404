use Rattle.std.proofs.Common.{ap, fold, refl, sym, subst, ◌∙◌, take}
use Rattle.std.specs.Prelude.{IsOk}
use Rattle.std.proofs.lemmas.List.{take_all}
use Rattle.std.proofs.lemmas.List.Sums.{fold_more}
use Rattle.cli_text.specs.Status.{greater}
use Rattle.cli_text.specs.declared.status.Status.TheVariants.{Clean}
use Rattle.cli_split.specs.Statuses.{written_status}
use Rattle.cli_split.proofs.Telling.{next-part}
use Rattle.cli_split.proofs.report.report_parts.Goals as goal

pub loop-n-init : goal.loop-n-init
loop-n-init g c = (refl, refl, λ well. refl)

pub loop-n-preserved : goal.loop-n-preserved
loop-n-preserved g c = (
  c.max-status.ensures
      ∙ ap (λ s. greater s c.report_part.result) c.loop-n.invariant.0
      ∙ ap (λ s. greater (fold (λ status part. greater status (written_status part.written)) Clean (take c.loop-n.n c.args.parts.now)) s) c.report_part.ensures.status
      ∙ ap (λ part. greater (fold (λ status part. greater status (written_status part.written)) Clean (take c.loop-n.n c.args.parts.now)) (written_status part.written)) c.index-parts-n.is
      ∙ sym (fold_more (λ status part. greater status (written_status part.written)) Clean c.args.parts.now c.loop-n.n c.index-parts-n.result c.loop-n-test.true),
  next-part g.E.FaultSink.takes_hints g.E.FaultSink.failed g.E.Write.contents g.E.FaultSink.fault_form c.args.lines.now c.args.parts.now c.loop-n.n c.index-parts-n.result c.args.err.now _ _ c.loop-n-test.true c.index-parts-n.is c.loop-n.invariant.1 (rw c.output_at.ensures at c.report_part.ensures.told),
  λ well. c.report_part.ensures.silent (subst (λ part. IsOk part.written) (sym c.index-parts-n.is) (well c.loop-n.n c.index-parts-n.result c.loop-n-test.true)) ∙ c.loop-n.invariant.2 well,
)

pub returns-clause-status : goal.returns-clause-status
returns-clause-status g c = rw (take_all c.loop-n.n c.args.parts.now c.loop-n-test.false) at c.loop-n.invariant.0

pub returns-clause-told : goal.returns-clause-told
returns-clause-told g c = rw (take_all c.loop-n.n c.args.parts.now c.loop-n-test.false) at c.loop-n.invariant.1
