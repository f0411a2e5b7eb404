use Rattle.std.proofs.Common.{◌≡◌, ◌<◌, [], ◌∷◌, ◌++◌, ap, ◌∙◌, inl, inr, length, rules, refl, arith}
use Rattle.std.specs.Iterator.Adapters.{zip_first, zip_second}
use Rattle.std.specs.Slice.Iter.{iter_rest}
use Rattle.std.specs.Vec.Iter.{into_iter_items}
use Rattle.cli_run.proofs.Laid.{begun, next_there, laid_on, all_laid}
use Rattle.cli_run.proofs.layout.interfaces_of.Goals as goal

pub loop-line-init : goal.loop-line-init
loop-line-init g c =
    let start = c.into_iter-line-iterator.result in
    let lines : iter_rest (zip_first (zip_first start)) ≡ c.args.lines.now = search rules in
    let programs : into_iter_items (zip_second (zip_first start)) ≡ c.args.programs.items = search rules in
    let sinks : into_iter_items (zip_second start) ≡ c.args.sinks.items = search rules in (
      ((tt, tt), tt),
      tt,
      begun c.args.captures.items c.in_ok-interfaces.interfaces.items c.args.lines.now _ c.args.programs.items _ c.args.sinks.items _ lines programs sinks
          c.in_ok-interfaces.ensures c.requires.programs c.requires.sinks c.requires.there,
    )

pub index_mut-requires : goal.index_mut-requires
index_mut-requires g c =
    let there : c.in-Some.line.now.interface < length c.loop-line.interfaces.items =
    next_there _ _ _ c.loop-line.interfaces.items _ _ _ c.in-Some.line.now _ c.in-Some.ensures.steps.0.0 c.loop-line.invariant.2 in
    search rules

pub loop-line-preserved : goal.loop-line-preserved
loop-line-preserved g c =
    let steps = c.in-Some.ensures.steps in
    let pushed = c.in_ok-push.ensures.items ∙ ap (λ task. c.index_mut.result.now.tasks.items ++ task ∷ []) c.task_of-task.ensures in (
      ((tt, tt), tt),
      tt,
      laid_on _ _ _ c.loop-line.interfaces.items _ _ c.index_mut.result.now _ _ _ c.in-Some.line.now _ c.in-Some.program _ c.in-Some.sink _
          steps.0.0 steps.0.1.0 steps.1.0 c.loop-line.invariant.2 refl c.index_mut.ensures.value refl pushed,
    )

pub returns : goal.returns
returns g c =
    let laying = c.loop-line.invariant.2 in
    let none : length (iter_rest (zip_first (zip_first c.loop-line.line-iterator))) ≡ 0 =
    elim c.in-None.ensures.steps as (λ _. length (iter_rest (zip_first (zip_first c.loop-line.line-iterator))) ≡ 0) [
      | inl w ↦ elim w.1 as (λ _. length (iter_rest (zip_first (zip_first c.loop-line.line-iterator))) ≡ 0) [
        | inl v ↦ v.1.0
        | inr v ↦
            let len : length (into_iter_items (zip_second (zip_first c.loop-line.line-iterator))) ≡ 0 = search rules in
            omega (arith, laying.programs_left)
      ]
      | inr w ↦
          let len : length (into_iter_items (zip_second c.loop-line.line-iterator)) ≡ 0 = search rules in
          omega (arith, laying.sinks_left)
    ] in
    all_laid _ _ _ _ _ _ _ laying none
