use Rattle.std.proofs.Common.{Err, ap, ◌∙◌, arith}
use Rattle.std.proofs.lemmas.Result.{err_from_is_err_and}
use Rattle.savefile.specs.declared.header.Order.TheVariants.{Little, Big}
use Rattle.savefile.proofs.Headers.{header_by, one_fault, refused_is_none, refuses_by}
use Rattle.savefile.proofs.header.header_of.Goals as goal

pub returns-in_err-snap-clause-refused : goal.returns-in_err-snap-clause-refused
returns-in_err-snap-clause-refused c = λ fault r.
    let text = c.args.text.now in
    let told = err_from_is_err_and c.from_residual.result c.from_residual.ensures.1 in
    let why = refuses_by text Little c.in-Some.unit _ (omega (arith, c.if-text-lt-HEADER_LEN.false)) c.in-Some.ensures.some c.in_err-snap.ensures.err in
    told.1 ∙ ap Err (told.2 ∙ one_fault text c.in_err-snap.field-0.0 fault (λ i. omega (arith, c.type_inv.text i)) why r)

pub returns-in-Some-clause-refused : goal.returns-in-Some-clause-refused
returns-in-Some-clause-refused c = λ fault r.
    let text = c.args.text.now in
    let header = header_by text Little c.in-Some.unit c.in_ok-snap.snap (omega (arith, c.if-text-lt-HEADER_LEN.false)) c.in-Some.ensures.some c.in_ok-snap.ensures.ok in
    absurd (refused_is_none text fault Little c.in-Some.unit c.in_ok-snap.snap (λ i. omega (arith, c.type_inv.text i)) r header)

pub returns-in_err-snap-2-clause-refused : goal.returns-in_err-snap-2-clause-refused
returns-in_err-snap-2-clause-refused c = λ fault r.
    let text = c.args.text.now in
    let told = err_from_is_err_and c.from_residual-in_err-snap-2.result c.from_residual-in_err-snap-2.ensures.1 in
    let why = refuses_by text Big c.in-Some-unit_of.unit _ (omega (arith, c.if-text-lt-HEADER_LEN.false)) c.in-Some-unit_of.ensures.some c.in_err-snap-2.ensures.err in
    told.1 ∙ ap Err (told.2 ∙ one_fault text c.in_err-snap-2.field-0.0 fault (λ i. omega (arith, c.type_inv.text i)) why r)

pub returns-in-Some-unit_of-clause-refused : goal.returns-in-Some-unit_of-clause-refused
returns-in-Some-unit_of-clause-refused c = λ fault r.
    let text = c.args.text.now in
    let header = header_by text Big c.in-Some-unit_of.unit c.in_ok-snap-2.snap (omega (arith, c.if-text-lt-HEADER_LEN.false)) c.in-Some-unit_of.ensures.some c.in_ok-snap-2.ensures.ok in
    absurd (refused_is_none text fault Big c.in-Some-unit_of.unit c.in_ok-snap-2.snap (λ i. omega (arith, c.type_inv.text i)) r header)

pub returns-in_err-snap-clause-err : goal.returns-in_err-snap-clause-err
returns-in_err-snap-clause-err c =
    let text = c.args.text.now in
    let told = err_from_is_err_and c.from_residual.result c.from_residual.ensures.1 in
    rw (told.1, told.2) (refuses_by text Little c.in-Some.unit _ (omega (arith, c.if-text-lt-HEADER_LEN.false)) c.in-Some.ensures.some c.in_err-snap.ensures.err)

pub returns-in-Some-clause-ok : goal.returns-in-Some-clause-ok
returns-in-Some-clause-ok c =
    header_by c.args.text.now Little c.in-Some.unit c.in_ok-snap.snap (omega (arith, c.if-text-lt-HEADER_LEN.false)) c.in-Some.ensures.some c.in_ok-snap.ensures.ok

pub returns-in_err-snap-2-clause-err : goal.returns-in_err-snap-2-clause-err
returns-in_err-snap-2-clause-err c =
    let text = c.args.text.now in
    let told = err_from_is_err_and c.from_residual-in_err-snap-2.result c.from_residual-in_err-snap-2.ensures.1 in
    rw (told.1, told.2) (refuses_by text Big c.in-Some-unit_of.unit _ (omega (arith, c.if-text-lt-HEADER_LEN.false)) c.in-Some-unit_of.ensures.some c.in_err-snap-2.ensures.err)

pub returns-in-Some-unit_of-clause-ok : goal.returns-in-Some-unit_of-clause-ok
returns-in-Some-unit_of-clause-ok c =
    header_by c.args.text.now Big c.in-Some-unit_of.unit c.in_ok-snap-2.snap (omega (arith, c.if-text-lt-HEADER_LEN.false)) c.in-Some-unit_of.ensures.some c.in_ok-snap-2.ensures.ok
