use Rattle.std.proofs.Common.{◌≡◌, ◌+◌, true, sym, ◌∙◌, ap, arith}
use Rattle.filter_meaning.specs.Meaning.{protocol_number}
use Rattle.filtergen_facts.specs.Facts.{has_first_fragment}
use Rattle.filtergen_code.specs.Parts.{of_transport}
use Rattle.filtergen_code.proofs.Knowing.{number-from, first-from}
use Rattle.filtergen_code.proofs.Narrowed.{given-more, given-first, given-number, ports-after-first, ports-known}
use Rattle.filtergen_code.proofs.code.Code.emit_fragment_guard_given.Goals as goal

pub returns-then-has_first_fragment : goal.returns-then-has_first_fragment
returns-then-has_first_fragment c =
    let t = c.args.transport in
    let asked = c.args.asked in
    let known = c.args.context.known in
    let first : has_first_fragment known (protocol_number t) ≡ true = ap (has_first_fragment known) (sym c.protocol_number.ensures) ∙ sym c.if-has_first_fragment.ensures in
    rw c.at.ensures
    (record {
      guards = λ most test exits before are of_yes of_no tested.
          given-more (most + 4) (omega arith)
          (given-first known t (of_transport asked test) c.args.context.targets of_yes of_no
          (λ p holds. first-from known (protocol_number t) p holds first)
          (λ p holds. ports-after-first t asked test p (first-from known (protocol_number t) p holds first) c.requires.asked)
          tested);
    })

pub returns : goal.returns
returns c =
    let t = c.args.transport in
    let asked = c.args.asked in
    let known = c.args.context.known in
    rw c.at-entry.ensures
    (record {
      guards = λ most test exits before are of_yes of_no tested.
          given-number known t (of_transport asked test) c.args.context.targets are of_yes of_no
          (λ p holds. number-from known (protocol_number t) p holds c.requires.known)
          (λ p holds. ports-known t asked test p (number-from known (protocol_number t) p holds c.requires.known) c.requires.asked)
          tested c.emit_fragment_test.ensures;
    })
