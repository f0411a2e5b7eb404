use Rattle.filter_symbols.specs.Symbols.{Extends}
use Rattle.filter_same.specs.Same.{IsCaptured}
use Rattle.filter_same.specs.Findings.{KeepsNo}
use Rattle.filter_same.proofs.cut.cut.Given as goal

abbrev pub invariant-loop-leaf : goal.invariant-loop-leaf
invariant-loop-leaf l = record {
  extends : Extends l.fn.builder.symbols l.builder.symbols;
  keeps : KeepsNo IsCaptured l.fn.builder.symbols.words.diagrams l.place l.builder.symbols.words.diagrams l.cut;
}
