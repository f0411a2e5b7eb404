use Rattle.std.proofs.Common.{arith, Ok, ◌∙◌, ◌++◌, ◌∷◌, [], sym, ap, subst, refl, List, length-append, append_assoc}
use Rattle.std.proofs.lemmas.List.{append-nil}
use Rattle.std.proofs.KnownBytes.{Consumes-nil, Consumes-trans}
use Rattle.savefile.specs.declared.packet.Packet.{Packet}
use Rattle.savefile.specs.Reader.{HasGiven}
use Rattle.cli_explain.specs.Explained.{PrintsWhole}
use Rattle.cli_answers.proofs.Reading.{still-works, works-on}
use Rattle.cli_explain.proofs.Printing.{lends-it}
use Rattle.cli_explain.proofs.Ranging.{each-last, whole-one, range-broken, range-whole, range-ended, range-stopped}
use Rattle.cli_explain.proofs.range.print_range.Goals as goal

pub loop-places-init : goal.loop-places-init
loop-places-init g c = record {
  prints = λ from header before given.
      ([], omega arith, subst (λ (ps : List Packet). HasGiven g.R.Source.left from header (ps ++ c.args.reader.now.lent ∷ []) c.args.reader.now) (sym (append-nil before)) given, refl);
  lends = c.requires;
  above = omega arith;
  within = omega arith;
  taken = ([], Consumes-nil _);
  source_works = refl;
}

pub loop-places-preserved : goal.loop-places-preserved
loop-places-preserved g c = record {
  prints = λ from header before given.
      let (shown, here, gives, each) = c.loop-places.invariant.prints from header before given in
      let p = c.loop-places.reader.lent in
      let q = c.advance.new.self.lent in
      let one = whole-one c.args.printer.now.form c.args.printer.now.filter.now c.loop-places.place p (g.O.Write.contents c.loop-places.out) (g.O.Write.contents c.print_whole-printed.new.out) c.print_whole-printed.result (sym c.is_err.ensures.value ∙ c.if-is_err.false)
      (subst (λ (r : Packet). PrintsWhole c.args.printer.now.form c.args.printer.now.filter.now c.loop-places.place r (g.O.Write.contents c.loop-places.out) (g.O.Write.contents c.print_whole-printed.new.out) c.print_whole-printed.result) c.packet.ensures c.print_whole-printed.ensures.prints) in (
        shown ++ p ∷ [],
        omega (arith, length-append shown (p ∷ []), here),
        subst (λ (ps : List Packet). HasGiven g.R.Source.left from header (ps ++ q ∷ []) c.advance.new.self) (append_assoc before shown (p ∷ []))
            (c.in-Ok-true.ensures.packet from header ((before ++ shown) ++ p ∷ []) gives (ap Ok c.in-Ok-true.field-0-test)),
        each-last c.args.printer.now.form c.args.printer.now.filter.now c.args.places.first c.loop-places.place shown p (g.O.Write.contents c.args.out.now) (g.O.Write.contents c.loop-places.out) (g.O.Write.contents c.print_whole-printed.new.out) here each one,
      );
  lends = lends-it _ _ c.advance.result c.advance.ensures.leaves (c.in-Ok-true.is ∙ ap Ok c.in-Ok-true.field-0-test);
  above = omega (arith, c.loop-places.invariant.above);
  within = omega (arith, c.loop-places.invariant.above, c.loop-places.invariant.within);
  taken =
      let (before, took) = c.loop-places.invariant.taken in
      let (further, goes) = c.in-Ok-true.ensures.taken in
      (before ++ further, Consumes-trans _ _ _ before further took goes);
  source_works = still-works _ _ _ c.advance.result c.advance.ensures.device.1 (c.in-Ok-true.is ∙ ap Ok c.in-Ok-true.field-0-test) c.loop-places.invariant.source_works;
}

pub returns-then-is_err-clause-prints : goal.returns-then-is_err-clause-prints
returns-then-is_err-clause-prints g c = λ from header before length given.
    let (shown, here, gives, each) = c.loop-places.invariant.prints from header before given in
    let p = c.loop-places.reader.lent in
    range-broken from _ header c.args.printer.now.form c.args.printer.now.filter.now c.args.places.first c.args.places.last c.loop-places.place before shown p (g.O.Write.contents c.args.out.now) (g.O.Write.contents c.loop-places.out) (g.O.Write.contents c.print_whole-printed.new.out) _ _ c.print_whole-printed.result
    c.outcome.ensures.read c.outcome.ensures.printed (sym c.is_err.ensures.value ∙ c.if-is_err.true) here each
    (subst (λ (r : Packet). PrintsWhole c.args.printer.now.form c.args.printer.now.filter.now c.loop-places.place r (g.O.Write.contents c.loop-places.out) (g.O.Write.contents c.print_whole-printed.new.out) c.print_whole-printed.result) c.packet.ensures c.print_whole-printed.ensures.prints)
    (c.given_so_far.ensures from header ((before ++ shown) ++ p ∷ []) gives)

pub returns-then-place-places-clause-prints : goal.returns-then-place-places-clause-prints
returns-then-place-places-clause-prints g c = λ from header before length given.
    let (shown, here, gives, each) = c.loop-places.invariant.prints from header before given in
    let p = c.loop-places.reader.lent in
    let one = whole-one c.args.printer.now.form c.args.printer.now.filter.now c.loop-places.place p (g.O.Write.contents c.loop-places.out) (g.O.Write.contents c.print_whole-printed.new.out) c.print_whole-printed.result (sym c.is_err.ensures.value ∙ c.if-is_err.false)
    (subst (λ (r : Packet). PrintsWhole c.args.printer.now.form c.args.printer.now.filter.now c.loop-places.place r (g.O.Write.contents c.loop-places.out) (g.O.Write.contents c.print_whole-printed.new.out) c.print_whole-printed.result) c.packet.ensures c.print_whole-printed.ensures.prints) in
    range-whole from _ header c.args.printer.now.form c.args.printer.now.filter.now c.args.places.first c.args.places.last c.loop-places.place before shown p (g.O.Write.contents c.args.out.now) (g.O.Write.contents c.loop-places.out) (g.O.Write.contents c.print_whole-printed.new.out) _ _ _
    c.outcome-then-place-places.ensures.read c.outcome-then-place-places.ensures.printed here c.if-place-places.true c.loop-places.invariant.within each one
    (c.given_so_far.ensures from header ((before ++ shown) ++ p ∷ []) gives)

pub returns-in-Ok-false-clause-prints : goal.returns-in-Ok-false-clause-prints
returns-in-Ok-false-clause-prints g c = λ from header before length given.
    let (shown, here, gives, each) = c.loop-places.invariant.prints from header before given in
    let p = c.loop-places.reader.lent in
    let one = whole-one c.args.printer.now.form c.args.printer.now.filter.now c.loop-places.place p (g.O.Write.contents c.loop-places.out) (g.O.Write.contents c.print_whole-printed.new.out) c.print_whole-printed.result (sym c.is_err.ensures.value ∙ c.if-is_err.false)
    (subst (λ (r : Packet). PrintsWhole c.args.printer.now.form c.args.printer.now.filter.now c.loop-places.place r (g.O.Write.contents c.loop-places.out) (g.O.Write.contents c.print_whole-printed.new.out) c.print_whole-printed.result) c.packet.ensures c.print_whole-printed.ensures.prints) in
    range-ended from _ header c.args.printer.now.form c.args.printer.now.filter.now c.args.places.first c.args.places.last c.loop-places.place before shown p (g.O.Write.contents c.args.out.now) (g.O.Write.contents c.loop-places.out) (g.O.Write.contents c.print_whole-printed.new.out) _ _ _
    c.outcome-in-Ok-false.ensures.read c.outcome-in-Ok-false.ensures.printed here c.if-place-places.false each one
    (c.in-Ok-false.ensures.end from header ((before ++ shown) ++ p ∷ []) gives (ap Ok c.in-Ok-false.field-0-test))

pub returns-in-Ok-false-clause-taken : goal.returns-in-Ok-false-clause-taken
returns-in-Ok-false-clause-taken g c =
    let (before, took) = c.loop-places.invariant.taken in
    let (further, goes) = c.in-Ok-false.ensures.taken in
    (before ++ further, Consumes-trans _ _ _ before further took goes)

pub returns-in-Err-clause-prints : goal.returns-in-Err-clause-prints
returns-in-Err-clause-prints g c = λ from header before length given.
    let (shown, here, gives, each) = c.loop-places.invariant.prints from header before given in
    let p = c.loop-places.reader.lent in
    let one = whole-one c.args.printer.now.form c.args.printer.now.filter.now c.loop-places.place p (g.O.Write.contents c.loop-places.out) (g.O.Write.contents c.print_whole-printed.new.out) c.print_whole-printed.result (sym c.is_err.ensures.value ∙ c.if-is_err.false)
    (subst (λ (r : Packet). PrintsWhole c.args.printer.now.form c.args.printer.now.filter.now c.loop-places.place r (g.O.Write.contents c.loop-places.out) (g.O.Write.contents c.print_whole-printed.new.out) c.print_whole-printed.result) c.packet.ensures c.print_whole-printed.ensures.prints) in
    range-stopped from _ header c.args.printer.now.form c.args.printer.now.filter.now c.args.places.first c.args.places.last c.loop-places.place before shown p (g.O.Write.contents c.args.out.now) (g.O.Write.contents c.loop-places.out) (g.O.Write.contents c.print_whole-printed.new.out) _ _ c.in-Err.fault _
    c.outcome-in-Err.ensures.read c.outcome-in-Err.ensures.printed here c.if-place-places.false each one
    (c.in-Err.ensures.cause from header ((before ++ shown) ++ p ∷ []) gives)

pub returns-in-Err-clause-taken : goal.returns-in-Err-clause-taken
returns-in-Err-clause-taken g c =
    let (before, took) = c.loop-places.invariant.taken in
    let (further, goes) = c.in-Err.ensures.taken in
    (before ++ further, Consumes-trans _ _ _ before further took goes)
