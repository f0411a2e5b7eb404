use Rattle.std.proofs.Common.{◌≡◌, ◌≢◌, ℕ, List, [], ◌∷◌, arith, rules, sym, ◌∙◌, subst}
use Rattle.bpfvm.specs.declared.insn.Insn.{Insn}
use Rattle.bpfvm.specs.Listing.{further_lines, lines_of}
use Rattle.bpfvm.proofs.Lines.{lines_of-some}
use Rattle.bpfvm.proofs.Reading.{IsRead, IsRead-none, IsRead-more, StopsAfter-read}
use Rattle.bpfvm.proofs.listing.read_lines.Goals as goal

pub loop-rest-init : goal.loop-rest-init
loop-rest-init c = record { read = IsRead-none (further_lines c.args.text.now) c.new.result.items c.new.ensures; short = omega arith }

-- with the next line taken from what is left
next : (all : List (List ℕ)) (rest line after : List ℕ) (kept : List Insn) (count : ℕ) → rest ≢ [] → lines_of rest ≡ line ∷ further_lines after → IsRead all (further_lines rest) kept count → IsRead all (line ∷ further_lines after) kept count
next all rest line after kept count some first read =
    subst (λ (left : List (List ℕ)). IsRead all left kept count) (sym (lines_of-some rest some) ∙ first) read

pub returns-in_default-clause-bad : goal.returns-in_default-clause-bad
returns-in_default-clause-bad c =
    let rest : c.loop-rest.rest.now ≢ [] = search rules in
    let read = next (further_lines c.args.text.now) c.loop-rest.rest.now c.first_line.result.0.now c.first_line.result.1.now _ c.loop-rest.listed.count rest c.first_line.ensures.first c.loop-rest.invariant.read in
    StopsAfter-read (further_lines c.args.text.now) (further_lines c.first_line.result.1.now) _ c.loop-rest.listed.count c.first_line.result.0.now read c.in_default.ensures.none

pub loop-rest-preserved : goal.loop-rest-preserved
loop-rest-preserved c =
    let rest : c.loop-rest.rest.now ≢ [] = search rules in
    let read = next (further_lines c.args.text.now) c.loop-rest.rest.now c.first_line.result.0.now c.first_line.result.1.now _ c.loop-rest.listed.count rest c.first_line.ensures.first c.loop-rest.invariant.read in
    let shorter = c.first_line.ensures.shorter rest in
    let short = c.loop-rest.invariant.short in
    record {
      read = IsRead-more (further_lines c.args.text.now) (further_lines c.first_line.result.1.now) _ _ c.loop-rest.listed.count c.first_line.result.0.now c.in-Some.insn read c.in-Some.ensures.some c.keep.ensures;
      short = omega arith;
    }
