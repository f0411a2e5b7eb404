use Rattle.filter_symbols.specs.Symbols.{Extends}
use Rattle.filter_diagrams.specs.States.{AreWords, IsInitial}
use Rattle.filter_diagrams.specs.Walks.{AreNodes, AreSpots}
use Rattle.filter_diagrams.proofs.builder.Builder.walk.Given as goal

abbrev pub invariant-loop : goal.invariant-loop
invariant-loop l = record {
  extends : Extends l.fn.self.symbols l.self.symbols;
  nodes : AreNodes l.self.symbols l.insns l.spots;
  waiting : AreSpots l.self.symbols.words.diagrams l.waiting.items;
  spot : AreWords l.self.symbols.words.diagrams l.spot.state;
  start : IsInitial l.self.symbols.words.diagrams l.start.state;
}
