use Rattle.std.proofs.Common.{ℕ, List, sym, subst}
use Rattle.std.specs.Str.{IsUtf8}
use Rattle.line_text.specs.Fields.{IsSnap, IsCapacity}
use Rattle.tap_text.proofs.Fielded.{AreFields-one}
use Rattle.tap_text.proofs.listeners.spec_of.Goals as goal

pub returns-in_default-clause-none : goal.returns-in_default-clause-none
returns-in_default-clause-none c = λ spec is. c.in_default.ensures.none is.snap is.capacity is.expression is.fields

pub returns-in_default-snapshot_length-clause-none : goal.returns-in_default-snapshot_length-clause-none
returns-in_default-snapshot_length-clause-none c = λ spec is.
    let one = AreFields-one c.args.line.now _ _ _ _ _ _ c.in-Some.ensures.some is.fields in
    c.in_default-snapshot_length.ensures.none spec.snap (subst (λ (t : List ℕ). IsSnap t spec.snap) (sym one.0) is.snap_is)

pub returns-in_default-capacity_and_mode-clause-none : goal.returns-in_default-capacity_and_mode-clause-none
returns-in_default-capacity_and_mode-clause-none c = λ spec is.
    let one = AreFields-one c.args.line.now _ _ _ _ _ _ c.in-Some.ensures.some is.fields in
    c.in_default-capacity_and_mode.ensures.none spec.capacity spec.mode (subst (λ (t : List ℕ). IsCapacity t spec.capacity spec.mode) (sym one.1) is.capacity_is)

pub returns-in_default-from_utf8-clause-none : goal.returns-in_default-from_utf8-clause-none
returns-in_default-from_utf8-clause-none c = λ spec is.
    let one = AreFields-one c.args.line.now _ _ _ _ _ _ c.in-Some.ensures.some is.fields in
    c.in_default-from_utf8.ensures.cases.0 (subst IsUtf8 (sym one.2) is.text)
