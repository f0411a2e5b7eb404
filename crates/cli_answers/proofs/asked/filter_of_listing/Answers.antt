use Rattle.std.proofs.Common.{◌≡◌, ◌∙◌, ℕ, suc, List, Option, Some, None, inl, ap, arith, refl, subst, sym}
use Rattle.bpfvm.specs.declared.insn.Insn.{Insn}
use Rattle.cli_files.specs.declared.reading.TheConstants.{MAX_TEXT}
use Rattle.cli_filter.specs.Filter.{IsFilter}
use Rattle.cli_answers.specs.declared.filter.AskedFilter.{AskedFilter}
use Rattle.cli_answers.specs.declared.filter.AskedFilter.TheVariants.{Expression, Program}
use Rattle.cli_answers.specs.Asked.{IsOfListing}
use Rattle.cli_answers.specs.Filter.{IsOfProgram}
use Rattle.cli_answers.proofs.Opening.{long_front, short_front}
use Rattle.cli_answers.proofs.asked.filter_of_listing.Goals as goal

-- the filter that the program of a listing is
of-listing : (text : Option (List ℕ)) (listing : List ℕ) (program : List Insn) (asked : AskedFilter) → text ≡ Some listing → IsFilter (Some listing) None 0 program → IsOfProgram program asked →
    IsOfListing text asked
of-listing text listing program (Expression expr) is found one = absurd one
of-listing text listing program (Program boxed) is found one = (listing, is, subst (IsFilter (Some listing) None 0) (sym one) found)

pub returns-in-Ok-clause-refused : goal.returns-in-Ok-clause-refused
returns-in-Ok-clause-refused g c tells =
    let (whole, is, front) = c.in-Ok.ensures.bytes tells in
    (refl, (whole, is, long_front MAX_TEXT (suc MAX_TEXT) c.as_slice.result.now whole (c.as_slice.ensures.value ∙ front) c.if-as_slice-gt-MAX_TEXT.true))

pub returns-in-Ok-of_program-clause-given : goal.returns-in-Ok-of_program-clause-given
returns-in-Ok-of_program-clause-given g c tells =
    let (whole, is, front) = c.in-Ok.ensures.bytes tells in
    let slice = c.as_slice-in-Ok-2 in
    let text = short_front MAX_TEXT slice.result.now whole (slice.ensures.value ∙ front) (omega (arith, c.as_slice.ensures.len, slice.ensures.len, c.if-as_slice-gt-MAX_TEXT.false)) in
    of-listing _ slice.result.now c.in-Ok-filter.program c.in-Ok-of_program.filter (is ∙ ap Some text) c.in-Ok-filter.ensures.found c.in-Ok-of_program.ensures

pub returns-in-Ok-filter-clause-refused : goal.returns-in-Ok-filter-clause-refused
returns-in-Ok-filter-clause-refused g c tells = (refl, inl c.no_memory.ensures)

pub returns-clause-refused : goal.returns-clause-refused
returns-clause-refused g c tells =
    let (whole, is, front) = c.in-Ok.ensures.bytes tells in
    let slice = c.as_slice-in-Ok-2 in (
      slice.result.now,
      is ∙ ap Some (short_front MAX_TEXT slice.result.now whole (slice.ensures.value ∙ front) (omega (arith, c.as_slice.ensures.len, slice.ensures.len, c.if-as_slice-gt-MAX_TEXT.false))),
      c.in-Err-filter.ensures.fault,
    )
