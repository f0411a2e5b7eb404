use Rattle.std.proofs.Common.{ℕ, List, sym, subst, ap, ◌∙◌, arith}
use Rattle.std.specs.Str.Parse.{digits_value}
use Rattle.bpfvm.specs.Listing.{IsNumber}
use Rattle.line_text.specs.Fields.{IsSnap, IsCapacity}
use Rattle.line_text.proofs.Cuts.{if_none}
use Rattle.cli_filter.specs.Plan.{AreLastFields}
use Rattle.cli_run.specs.declared.plan.RunLine.{RunLine}
use Rattle.cli_run.specs.Listeners.{IsRunLine}
use Rattle.cli_run.proofs.Fielded.{fields_one, output_once}
use Rattle.cli_run.proofs.plan.RunLinePlanLine.read.Goals as goal

-- a line that says no listener
abbrev SaysNone : ℕ → List ℕ → Type 0
SaysNone interfaces line = (asked : RunLine) → IsRunLine interfaces line asked → ⊥

pub returns-in_err-fields-clause-none : goal.returns-in_err-fields-clause-none
returns-in_err-fields-clause-none c = if_none _ (SaysNone c.args.interfaces c.args.line.now) (λ asked is.
    c.in_err-fields.ensures.none is.interface is.flush_every is.snap is.capacity is.spares is.rest is.numbers)

-- the fields that were cut are those of any listener that the line says
pub returns-in_err-interface-clause-none : goal.returns-in_err-interface-clause-none
returns-in_err-interface-clause-none c = if_none _ (SaysNone c.args.interfaces c.args.line.now) (λ asked is.
    let one = fields_one c.args.line.now _ _ _ _ _ _ _ _ _ _ _ _ c.in_ok-fields.ensures.some is.numbers in
    c.in_err-interface.ensures.none asked.interface (subst (λ (t : List ℕ). IsNumber 18446744073709551615 t asked.interface) (sym one.interface) is.interface_is))

pub returns-then-interface-interfaces-clause-none : goal.returns-then-interface-interfaces-clause-none
returns-then-interface-interfaces-clause-none c = λ asked is.
    let one = fields_one c.args.line.now _ _ _ _ _ _ _ _ _ _ _ _ c.in_ok-fields.ensures.some is.numbers in
    let there = is.there in
    let same = c.in_ok-interface.ensures.some.is ∙ ap (digits_value 10) one.interface ∙ sym is.interface_is.is in
    absurd (omega arith)

pub returns-in_err-flush_every-clause-none : goal.returns-in_err-flush_every-clause-none
returns-in_err-flush_every-clause-none c = if_none _ (SaysNone c.args.interfaces c.args.line.now) (λ asked is.
    let one = fields_one c.args.line.now _ _ _ _ _ _ _ _ _ _ _ _ c.in_ok-fields.ensures.some is.numbers in
    let none = rw c.from.ensures at c.in_err-flush_every.ensures.none in
    none asked.flush_every (subst (λ (t : List ℕ). IsNumber 4294967295 t asked.flush_every) (sym one.flush_every) is.flush_every_is))

pub returns-in_err-snap-clause-none : goal.returns-in_err-snap-clause-none
returns-in_err-snap-clause-none c = if_none _ (SaysNone c.args.interfaces c.args.line.now) (λ asked is.
    let one = fields_one c.args.line.now _ _ _ _ _ _ _ _ _ _ _ _ c.in_ok-fields.ensures.some is.numbers in
    c.in_err-snap.ensures.none asked.snap (subst (λ (t : List ℕ). IsSnap t asked.snap) (sym one.snap) is.snap_is))

pub returns-in_err-capacity-clause-none : goal.returns-in_err-capacity-clause-none
returns-in_err-capacity-clause-none c = if_none _ (SaysNone c.args.interfaces c.args.line.now) (λ asked is.
    let one = fields_one c.args.line.now _ _ _ _ _ _ _ _ _ _ _ _ c.in_ok-fields.ensures.some is.numbers in
    c.in_err-capacity.ensures.none asked.capacity asked.mode (subst (λ (t : List ℕ). IsCapacity t asked.capacity asked.mode) (sym one.capacity) is.capacity_is))

pub returns-in_err-spares-clause-none : goal.returns-in_err-spares-clause-none
returns-in_err-spares-clause-none c = if_none _ (SaysNone c.args.interfaces c.args.line.now) (λ asked is.
    let one = fields_one c.args.line.now _ _ _ _ _ _ _ _ _ _ _ _ c.in_ok-fields.ensures.some is.numbers in
    c.in_err-spares.ensures.none asked.spares (subst (λ (t : List ℕ). IsNumber 18446744073709551615 t asked.spares) (sym one.spares) is.spares_is))

pub returns-in_err-output-clause-none : goal.returns-in_err-output-clause-none
returns-in_err-output-clause-none c = if_none _ (SaysNone c.args.interfaces c.args.line.now) (λ asked is.
    let one = fields_one c.args.line.now _ _ _ _ _ _ _ _ _ _ _ _ c.in_ok-fields.ensures.some is.numbers in
    c.in_err-output.ensures.none asked.output.now asked.expression.now (subst (λ (t : List ℕ). AreLastFields t asked.output.now asked.expression.now) (sym one.rest) is.last))

pub returns-clause-one_output : goal.returns-clause-one_output
returns-clause-one_output c =
    output_once c.args.interfaces c.args.line.now _ _ _ _ _ _ _ _ c.in_ok-fields.ensures.some c.in_ok-output.ensures.some
