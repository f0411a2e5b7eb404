use Rattle.std.proofs.Common.{◌++◌, ◌∷◌, [], take, refl, sym, ap, ◌∙◌}
use Rattle.std.proofs.lemmas.List.{take_more}
use Rattle.std.proofs.lemmas.Option.{slice_get_read}
use Rattle.std.proofs.lemmas.Result.{err_from_is_err_and}
use Rattle.tap.specs.Filters.{IsReadAs}
use Rattle.tap.specs.Opening.{Opened}
use Rattle.tap.proofs.Headline.{zip_more, stand_opened, refuses_one}
use Rattle.tap.proofs.open.open_all.Goals as goal

pub returns-in_err-one-clause-err : goal.returns-in_err-one-clause-err
returns-in_err-one-clause-err c =
    let p = err_from_is_err_and c.from_residual-in_err-one.result c.from_residual-in_err-one.ensures.1 in
    let specs = c.args.specs.now in
    rw (p.1, p.2) (refuses_one specs c.loop-l.l c.index-specs-l.result _ (slice_get_read specs _ c.loop-l.l c.index-specs-l.result refl c.loop-l-test.true c.index-specs-l.is) (stand_opened c.args.traced _ _ c.loop-l.invariant.0) c.in_err-one.ensures.err)

pub loop-l-preserved : goal.loop-l-preserved
loop-l-preserved c =
    let specs = c.args.specs.now in
    let spec = c.index-specs-l.result in
    let more = take_more specs c.loop-l.l spec c.loop-l-test.true ∙ ap (λ s. take c.loop-l.l specs ++ s ∷ []) (sym c.index-specs-l.is) in (
      zip_more (Opened c.args.traced) _ _ _ spec _ _ c.loop-l.invariant.0 c.in_ok-one.ensures.ok more c.in_ok-push.ensures.items,
      zip_more (λ s. IsReadAs s.filter) _ _ _ spec _ _ c.loop-l.invariant.1 c.in_ok-one.ensures.expr more c.in_ok-push-2.ensures.items,
    )
