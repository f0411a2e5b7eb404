use Rattle.std.proofs.Common.{sym, subst}
use Rattle.std.specs.Prelude.{IfSome}
use Rattle.filter_diagrams.specs.States.{AreWords}
use Rattle.filter_diagrams.specs.Walks.{AreNodes, AreSpots}
use Rattle.filter_diagrams.proofs.Builders.{extends_more}
use Rattle.filter_diagrams.proofs.States.{initial_grown}
use Rattle.filter_diagrams.proofs.builder.Builder.walk.Goals as goal

pub loop-init : goal.loop-init
loop-init c =
    let b = c.initial.new.self.symbols in
    record {
      extends = c.initial.ensures.extends;
      nodes = subst (AreNodes b c.args.insns.now) (sym c.in_ok-spots.ensures) tt;
      waiting = subst (AreSpots b.words.diagrams) (sym c.new-waiting.ensures.items) tt;
      spot = c.in_ok-state.ensures.initial.words;
      start = c.in_ok-state.ensures.initial;
    }

pub loop-preserved : goal.loop-preserved
loop-preserved c =
    let a = c.args.self.now.symbols in
    let b = c.loop.self.symbols in
    let d = c.next_spot.new.self.symbols in
    let holds = c.loop.invariant in
    record {
      extends = extends_more a b d holds.extends c.next_spot.ensures.extends;
      nodes = c.in_ok-next.ensures.spots;
      waiting = c.in_ok-next.ensures.waiting;
      spot = subst (λ m. IfSome m (λ s. AreWords d.words.diagrams s.state)) c.in-Some.is c.in_ok-next.ensures.next;
      start = initial_grown b.words.diagrams d.words.diagrams c.in_ok-state.state c.next_spot.ensures.extends.grew holds.start;
    }

pub whole-requires-clause-initial : goal.whole-requires-clause-initial
whole-requires-clause-initial c =
    initial_grown c.loop.self.symbols.words.diagrams c.next_spot.new.self.symbols.words.diagrams c.in_ok-state.state c.next_spot.ensures.extends.grew c.loop.invariant.start
