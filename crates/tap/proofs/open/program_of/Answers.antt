use Rattle.std.proofs.Common.{◌≡◌, ℕ, List, Some, inr, refl, sym, subst, ◌⊎◌}
use Rattle.filterlang.specs.Trees.{Tree, tree_of}
use Rattle.filterlang.specs.Texts.{ReadsAs, IsRefusalOf}
use Rattle.tap.specs.declared.fault.Fault.TheVariants.{NoMemory, Compile}
use Rattle.tap_steps.specs.declared.filters.Filter.{Filter}
use Rattle.tap.specs.Filters.{IsReadAs}
use Rattle.tap.specs.Refusals.{FilterIsRight, RefusesFilter}
use Rattle.tap.specs.Opening.{ProgramOf}
use Rattle.tap.proofs.Refusing.{misread_refuses, not_deep, refuses_compile, is_expression}
use Rattle.tap.proofs.open.program_of.Goals as goal

pub returns-in-Err : goal.returns-in-Err
returns-in-Err c = record {
  ok = tt;
  expr = tt;
  stands = tt;
  err = subst (λ f. (c.misread.result ≡ NoMemory) ⊎ RefusesFilter c.args.l f c.args.spec.now.snap c.misread.result) (sym c.in-Text.is)
      (misread_refuses c.args.l c.args.spec.now.snap c.in-Text.text c.in-Err.fault _ (subst (λ t. IsRefusalOf t c.in-Err.fault) c.as_str.ensures.value c.in-Err.ensures.refused) c.misread.ensures);
}

pub returns-in-Ok-compile-clause-ok : goal.returns-in-Ok-compile-clause-ok
returns-in-Ok-compile-clause-ok c =
    let tree : Tree = tree_of c.in-Ok.expr in
    let text = c.as_str.ensures.value in
    subst (λ f. ProgramOf f c.args.spec.now.snap c.in-Ok-compile.program) (sym c.in-Text.is) (
      tree,
      record { reads = subst (λ t. ReadsAs t tree) text c.in-Ok.ensures.reads; only = λ other r. c.in-Ok.ensures.only other (subst (λ t. ReadsAs t other) (sym text) r) },
      c.in-Ok-compile.ensures.program,
    )

pub returns-in-Ok-compile-clause-expr : goal.returns-in-Ok-compile-clause-expr
returns-in-Ok-compile-clause-expr c =
    subst (λ (f : Filter). IsReadAs f (Some c.in-Ok.expr)) (sym c.in-Text.is)
    (subst (λ (t : List ℕ). ReadsAs t (tree_of c.in-Ok.expr)) c.as_str.ensures.value c.in-Ok.ensures.reads)

pub returns-in-Ok-compile-clause-stands : goal.returns-in-Ok-compile-clause-stands
returns-in-Ok-compile-clause-stands c =
    subst (λ f. FilterIsRight f c.args.spec.now.snap) (sym c.in-Text.is) (
      is_expression c.in-Text.text _ _ c.as_str.ensures.value (λ h. let e = c.in-Ok.ensures.too_long.1 h in absurd (cc)) c.in-Ok.ensures.reads,
      (λ bad. let e = c.in-Ok-compile.ensures.bad_snap.1 bad in absurd (cc)),
      not_deep c.args.spec.now.snap _ _ (λ bad. let e = c.in-Ok-compile.ensures.bad_snap.1 bad in absurd (cc)) (λ d. absurd (cc)) c.in-Ok-compile.ensures.too_deep,
    )

pub returns : goal.returns
returns c = record {
  ok = tt;
  expr = tt;
  stands = tt;
  err = inr (subst (λ f. RefusesFilter c.args.l f c.args.spec.now.snap (Compile c.args.l c.in-Err-compile.refusal)) (sym c.in-Text.is)
      (refuses_compile c.args.l c.args.spec.now.snap c.in-Text.text
      (is_expression c.in-Text.text _ _ c.as_str.ensures.value (λ h. let e = c.in-Ok.ensures.too_long.1 h in absurd (cc)) c.in-Ok.ensures.reads)
      _ c.in-Err-compile.refusal refl c.in-Err-compile.ensures.bad_snap c.in-Err-compile.ensures.too_deep c.in-Err-compile.ensures.too_long c.in-Err-compile.ensures.no_memory));
}
