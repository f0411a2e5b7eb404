use Rattle.std.proofs.Common.{◌%◌, ◌^◌}
use Rattle.filter_bdd.specs.Diagrams.{answer, Gives, Grew}
use Rattle.filter_bdd.specs.Fields.{number_of, by_order}
use Rattle.filter_bdd.proofs.diagrams.Diagrams.compare_at.Given as goal

abbrev pub invariant-loop-bit : goal.invariant-loop-bit
invariant-loop-bit l = record {
  grew : Grew l.fn.self l.self;
  gives : Gives l.self (λ v. by_order (number_of v l.field.last l.field.mask l.bit) (l.number % 2 ^ l.bit)
      (answer l.fn.self v l.less) (answer l.fn.self v l.fn.places.equal) (answer l.fn.self v l.greater)) l.equal;
}
