use Rattle.std.proofs.Common.{◌+◌, List, Ok, arith, refl, sym, ap, subst, ◌∙◌}
use Rattle.bpfvm.specs.declared.insn.Insn.{Insn}
use Rattle.bpfvm.specs.declared.fault.ListingFault.TheVariants.{BadLine, Count, Program}
use Rattle.bpfvm.specs.Validity.{IsValidProgram}
use Rattle.bpfvm.specs.Listing.{IsListing, IsRefusedListing}
use Rattle.bpfvm.proofs.Listings.{refused-first, refused-line, refused-count, listed, listed-kept, IsListing-one, IsRefusedListing-none, refused-listing-exactly, accepted-listing-exactly}
use Rattle.bpfvm.proofs.listing.read_listing.Goals as goal

pub returns-in_default-clause-fault : goal.returns-in_default-clause-fault
returns-in_default-clause-fault c = λ fault.
    refused-listing-exactly c.args.text.now (BadLine 1) fault
    (refused-first c.args.text.now c.first_line.result.0.now _ c.first_line.ensures.first c.in_default.ensures.none)

bad-line : (c : goal.In-Err) → IsRefusedListing c.args.text.now (BadLine (c.in-Err.good + 2))
bad-line c = refused-line c.args.text.now c.first_line.result.0.now _ c.first_line.ensures.first c.in-Some.count c.in-Err.good c.in-Some.ensures.some c.in-Err.ensures.bad

pub returns-in-Err-clause-only : goal.returns-in-Err-clause-only
returns-in-Err-clause-only c = λ p listing valid. absurd (IsRefusedListing-none c.args.text.now (BadLine (c.in-Err.good + 2)) p (bad-line c) listing valid)

pub returns-in-Err-clause-fault : goal.returns-in-Err-clause-fault
returns-in-Err-clause-fault c = λ fault. refused-listing-exactly c.args.text.now _ fault (bad-line c)

differs : (c : goal.Then-listed-count) → IsRefusedListing c.args.text.now Count
differs c =
    let ok = c.in-Ok.ensures.ok in
    refused-count c.args.text.now c.first_line.result.0.now _ c.first_line.ensures.first c.in-Some.count ok.0 c.in-Some.ensures.some ok.1
    (λ same. c.if-listed-count.true (ok.2 ∙ sym same))

pub returns-then-listed-count-clause-only : goal.returns-then-listed-count-clause-only
returns-then-listed-count-clause-only c = λ p listing valid. absurd (IsRefusedListing-none c.args.text.now Count p (differs c) listing valid)

pub returns-then-listed-count-clause-fault : goal.returns-then-listed-count-clause-fault
returns-then-listed-count-clause-fault c = λ fault. refused-listing-exactly c.args.text.now _ fault (differs c)

pub returns-then-listed-gt-MAX_INSNS-clause-fault : goal.returns-then-listed-gt-MAX_INSNS-clause-fault
returns-then-listed-gt-MAX_INSNS-clause-fault c =
    let ok = c.in-Ok.ensures.ok in
    let counted = ok.2 in
    let listing = listed c.args.text.now c.first_line.result.0.now _ c.first_line.ensures.first c.in-Some.count ok.0 c.in-Some.ensures.some ok.1 (omega arith) in
    λ fault. refused-listing-exactly c.args.text.now _ fault (ok.0, listing, omega arith)

-- what was kept is the listing's program
kept-Ok : (c : goal.In-Ok-new) → IsListing c.args.text.now c.in-Ok-new.program × IsValidProgram c.in-Ok-new.program
kept-Ok c =
    let ok = c.in-Ok.ensures.ok in
    let counted = ok.2 in
    let same = c.if-listed-count.false in
    let few = c.if-listed-gt-MAX_INSNS.false in
    let kept = c.in-Ok-new.ensures.ok in
    let valid = c.in-Ok-new.ensures.valid.0 refl in (
      listed-kept c.args.text.now c.first_line.result.0.now _ c.first_line.ensures.first c.in-Some.count ok.0 c.in-Ok-new.program c.in-Some.ensures.some ok.1
          (omega arith) (omega arith) (kept ∙ c.deref.ensures.0 ∙ ok.3),
      subst IsValidProgram (sym kept) valid,
    )

kept-Err : (c : goal.In-Err-new) → IsRefusedListing c.args.text.now (Program c.in-Err-new.fault)
kept-Err c =
    let ok = c.in-Ok.ensures.ok in
    let counted = ok.2 in
    let same = c.if-listed-count.false in
    let few = c.if-listed-gt-MAX_INSNS.false in (
      c.deref.result.now,
      listed-kept c.args.text.now c.first_line.result.0.now _ c.first_line.ensures.first c.in-Some.count ok.0 c.deref.result.now c.in-Some.ensures.some ok.1
          (omega arith) (omega arith) (c.deref.ensures.0 ∙ ok.3),
      (c.in-Err-new.ensures.fault c.in-Err-new.fault).0 refl,
    )

pub returns-in-Ok-new-clause-ok : goal.returns-in-Ok-new-clause-ok
returns-in-Ok-new-clause-ok c = kept-Ok c

pub returns-in-Ok-new-clause-only : goal.returns-in-Ok-new-clause-only
returns-in-Ok-new-clause-only c = λ p listing valid. ap (λ (q : List Insn). Ok q) (IsListing-one c.args.text.now c.in-Ok-new.program p (kept-Ok c).0 listing)

pub returns-in-Ok-new-clause-fault : goal.returns-in-Ok-new-clause-fault
returns-in-Ok-new-clause-fault c = λ fault. accepted-listing-exactly c.args.text.now c.in-Ok-new.program c.in-Ok-new.program fault (kept-Ok c).0 (kept-Ok c).1

pub returns-in-Err-new-clause-only : goal.returns-in-Err-new-clause-only
returns-in-Err-new-clause-only c = λ p listing valid. absurd (IsRefusedListing-none c.args.text.now (Program c.in-Err-new.fault) p (kept-Err c) listing valid)

pub returns-in-Err-new-clause-fault : goal.returns-in-Err-new-clause-fault
returns-in-Err-new-clause-fault c = λ fault. refused-listing-exactly c.args.text.now (Program c.in-Err-new.fault) fault (kept-Err c)
