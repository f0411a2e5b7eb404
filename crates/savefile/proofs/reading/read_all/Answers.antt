use Rattle.std.proofs.Common.{rules, ◌≡◌, inl, inr, refl, sym, subst, arith}
use Rattle.savefile.specs.Savefile.{RefusesHeader}
use Rattle.savefile.proofs.Headers.{one_fault, refused_is_none}
use Rattle.savefile.proofs.reading.read_all.Goals as goal

pub returns-in_err-_header-clause-refused : goal.returns-in_err-_header-clause-refused
returns-in_err-_header-clause-refused c = λ fault r.
    let same : c.in_err-_header.field-0.0 ≡ fault = one_fault c.args.text.now c.in_err-_header.field-0.0 fault (λ i. omega (arith, c.type_inv.text i)) c.in_err-_header.ensures.err r in
    search (rules, same)

pub returns-in-Err-clause-refused : goal.returns-in-Err-clause-refused
returns-in-Err-clause-refused c = λ fault r.
    let h = c.in_ok-_header._header in
    absurd (refused_is_none c.args.text.now fault h.order h.unit h.snap (λ i. omega (arith, c.type_inv.text i)) r c.in_ok-_header.ensures.ok)

pub returns-in-Err-clause-only : goal.returns-in-Err-clause-only
returns-in-Err-clause-only c = elim c.in-Err.ensures.refused [
  | inl w ↦ inl (subst (λ t. RefusesHeader t c.in-Err.fault) (sym w.told) w.refused)
  | inr other ↦ elim other [
    | inl device ↦ absurd (c.in-Err.ensures.device.0 device refl)
    | inr memory ↦ inr memory
  ]
]

pub returns-in_err-packets-clause-refused : goal.returns-in_err-packets-clause-refused
returns-in_err-packets-clause-refused c = λ fault r.
    let h = c.in_ok-_header._header in
    absurd (refused_is_none c.args.text.now fault h.order h.unit h.snap (λ i. omega (arith, c.type_inv.text i)) r c.in_ok-_header.ensures.ok)

pub returns-clause-refused : goal.returns-clause-refused
returns-clause-refused c = λ fault r.
    let h = c.in_ok-_header._header in
    absurd (refused_is_none c.args.text.now fault h.order h.unit h.snap (λ i. omega (arith, c.type_inv.text i)) r c.in_ok-_header.ensures.ok)
