use Rattle.std.proofs.Common.{rules, Ok, ◌+◌, arith, ◌∙◌, ◌++◌, ◌∷◌, [], ap, length-append}
use Rattle.std.proofs.KnownBytes.{Consumes-trans}
use Rattle.cli_answers.proofs.Reading.{still-works}
use Rattle.cli_explain.proofs.Printing.{goes-to}
use Rattle.cli_explain.proofs.one.go_to.Goals as goal

pub loop-passed-preserved : goal.loop-passed-preserved
loop-passed-preserved g c = record {
  gives = λ from header given.
      let (packets, many, gives) = c.loop-passed.invariant.gives from header given in
      let p = c.advance.new.self.lent in (
        packets ++ p ∷ [],
        length-append packets (p ∷ []) ∙ ap (λ n. n + 1) many,
        c.in-Ok-true.ensures.packet from header packets gives (ap Ok c.in-Ok-true.field-0-test),
      );
  few = search rules;
  taken =
      let (before, took) = c.loop-passed.invariant.taken in
      let (further, goes) = c.in-Ok-true.ensures.taken in
      (before ++ further, Consumes-trans _ _ _ before further took goes);
  source_works = still-works _ _ _ c.advance.result c.advance.ensures.device.1 (c.in-Ok-true.is ∙ ap Ok c.in-Ok-true.field-0-test) c.loop-passed.invariant.source_works;
}

pub returns-in-Ok-false-clause-goes : goal.returns-in-Ok-false-clause-goes
returns-in-Ok-false-clause-goes g c = λ from header given.
    let (packets, many, gives) = c.loop-passed.invariant.gives from header given in
    (packets, omega (arith, many, c.loop-passed.invariant.few), c.in-Ok-false.ensures.end from header packets gives (ap Ok c.in-Ok-false.field-0-test))

pub returns-in-Ok-false-clause-taken : goal.returns-in-Ok-false-clause-taken
returns-in-Ok-false-clause-taken g c =
    let (before, took) = c.loop-passed.invariant.taken in
    let (further, goes) = c.in-Ok-false.ensures.taken in
    (before ++ further, Consumes-trans _ _ _ before further took goes)

pub returns-in-Err-clause-goes : goal.returns-in-Err-clause-goes
returns-in-Err-clause-goes g c = λ from header given.
    let (packets, many, gives) = c.loop-passed.invariant.gives from header given in
    (packets, omega (arith, many, c.loop-passed.invariant.few), c.in-Err.ensures.cause from header packets gives)

pub returns-in-Err-clause-taken : goal.returns-in-Err-clause-taken
returns-in-Err-clause-taken g c =
    let (before, took) = c.loop-passed.invariant.taken in
    let (further, goes) = c.in-Err.ensures.taken in
    (before ++ further, Consumes-trans _ _ _ before further took goes)

pub returns-clause-goes : goal.returns-clause-goes
returns-clause-goes g c = λ from header given.
    let (packets, many, gives) = c.loop-passed.invariant.gives from header given in
    goes-to g.R.Source.left from header c.args.place packets c.advance-2.new.self c.advance-2.result
    (search rules) (c.advance-2.ensures.packet from header packets gives) (c.advance-2.ensures.end from header packets gives) (c.advance-2.ensures.cause from header packets gives)

pub returns-clause-taken : goal.returns-clause-taken
returns-clause-taken g c =
    let (before, took) = c.loop-passed.invariant.taken in
    let (further, goes) = c.advance-2.ensures.taken in
    (before ++ further, Consumes-trans _ _ _ before further took goes)
