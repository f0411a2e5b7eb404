-- The code of the right end of an expression.
use Rattle.std.proofs.Common.{ℕ, ◌+◌, ◌≤◌, List, length, Some, None, refl, arith}
use Rattle.bpfvm.specs.declared.insn.Insn.{Insn}
use Rattle.filter_tree.specs.Trees.{Tree, both, either}
use Rattle.filter_meaning.specs.Meaning.{meaning}
use Rattle.filtergen_facts.specs.declared.packet_facts.PacketFacts.{PacketFacts}
use Rattle.filtergen_facts.specs.declared.lists.Chain.{Chain}
use Rattle.filtergen_facts.specs.declared.lists.Chain.TheVariants as chains
use Rattle.filtergen_facts.specs.Weights.{weight, need}
use Rattle.filtergen_facts.specs.Facts.{after_expr, LOOK_BACK}
use Rattle.filtergen_facts.specs.Lists.{size, after_left}
use Rattle.filtergen_code.specs.declared.entries.Entry.{Entry}
use Rattle.filtergen_code.specs.declared.entries.Targets.{Targets}
use Rattle.filtergen_code.specs.declared.compiler.KeptTargets.{KeptTargets}
use Rattle.filtergen_code.specs.Emission.{Extends}
use Rattle.filtergen_code.specs.Entries.{AreTargets, RelaysBoth, DecidesGiven}
use Rattle.filtergen_code.specs.ValueLists.{EmitsList}
use Rattle.filtergen_code.specs.Ends.{chain_of, left_targets, kept_targets, kept_with_end, Leaves}
use Rattle.filtergen_code.proofs.Runs.{extends-both}
use Rattle.filtergen_code.proofs.Leading.{relays-both, relays-either}
use Rattle.filtergen_code.proofs.Taking.{emits-both, emits-either}

-- the last link of a chain is a list of its own
pub emits-link : {t u : Tree} {targets relayed : Targets} {entry : Entry} {a b : List Insn} (known : PacketFacts) (chain : Chain)
    → DecidesGiven (after_left chain known t) (weight u) (meaning u) targets entry a b × RelaysBoth targets relayed a b
    → EmitsList (after_left chain known t) chain t u (Some t) targets relayed entry a b
emits-link {t} {u} known chain made = record {
  test = meaning u;
  most = weight u;
  same = λ p. refl;
  fits = omega arith;
  smaller = omega arith;
  needs = omega arith;
  decides = made.0;
  relays = made.1;
}

-- what a list leaves of its chain
pub leaves-either : {known : PacketFacts} {t u w : Tree} {targets relayed : Targets} {entry : Entry} {a b : List Insn} → EmitsList known chains.AnyOf t u (Some w) targets relayed entry a b
    → Leaves known (either t u) w targets relayed entry a b
leaves-either list = record {
  most = list.most;
  extends = list.decides.extends;
  fits = omega (arith, list.fits);
  smaller = omega (arith, list.smaller);
  needs = omega (arith, list.needs);
  here = (list.relays.yes.here, list.decides.here);
  decides = λ first later decides. emits-either list decides;
  relays = list.relays;
}

pub leaves-both : {known : PacketFacts} {t u w : Tree} {targets relayed : Targets} {entry : Entry} {a b : List Insn} → EmitsList (after_expr LOOK_BACK known w) chains.NoneOf t u (Some w) targets relayed entry a b
    → Leaves known (both t u) w targets relayed entry a b
leaves-both list = record {
  most = list.most;
  extends = list.decides.extends;
  fits = omega (arith, list.fits);
  smaller = omega (arith, list.smaller);
  needs = omega (arith, list.needs);
  here = (list.decides.here, list.relays.no.here);
  decides = λ first later decides. emits-both list decides;
  relays = list.relays;
}

-- the code of right ends, the one in front of the other: what decides the rest decides the whole
pub record Continues (known : PacketFacts) (whole rest : Tree) (targets on : Targets) (kept : KeptTargets) (old new : List Insn) : Type 0 where
  pub fits : length new + weight rest ≤ length old + weight whole
  pub smaller : size rest ≤ size whole
  pub needs : need rest ≤ need whole
  pub here : AreTargets new on
  pub decides : (first : Entry) (later : List Insn) → DecidesGiven known (weight rest) (meaning rest) on first new later
      → DecidesGiven known (weight whole) (meaning whole) targets first old later
  pub relays : (k : ℕ) (relayed : Targets) (later : List Insn) → Extends k new later → RelaysBoth on relayed new later → RelaysBoth targets (kept_targets kept relayed) old later

pub continues-none : (known : PacketFacts) (t : Tree) (targets : Targets) (a : List Insn) → AreTargets a targets → Continues known t t targets targets (record { yes = None; no = None }) a a
continues-none known t targets a are = record {
  fits = omega arith;
  smaller = omega arith;
  needs = omega arith;
  here = are;
  decides = λ first later decides. decides;
  relays = λ k relayed later extends relays. relays;
}

pub continues-more : {known : PacketFacts} {t u w : Tree} {targets on relayed : Targets} {kept : KeptTargets} {entry : Entry} {a b c : List Insn} → Continues known t u targets on kept a b
    → Leaves known u w on relayed entry b c → Continues known t w targets (left_targets (chain_of u) entry relayed) (kept_with_end (chain_of u) kept relayed) a c
continues-more {known} {t} {u} {w} {targets} {on} {relayed} {kept} {entry} {a} {b} {c} before end = record {
  fits = omega (arith, before.fits, end.fits, end.extends.within);
  smaller = omega (arith, before.smaller, end.smaller);
  needs = omega (arith, before.needs, end.needs);
  here = end.here;
  decides = λ first later decides. before.decides first later (end.decides first later decides);
  relays = λ k last later extends relays. by_chain (chain_of u) k last later extends relays;
}
  where
    by_chain : (chain : Chain) (k : ℕ) (last : Targets) (later : List Insn) → Extends k c later → RelaysBoth (left_targets chain entry relayed) last c later
        → RelaysBoth targets (kept_targets (kept_with_end chain kept relayed) last) a later
    by_chain chains.AnyOf k last later extends relays = before.relays _ _ later (extends-both end.extends extends) (relays-either extends end.relays relays)
    by_chain chains.NoneOf k last later extends relays = before.relays _ _ later (extends-both end.extends extends) (relays-both extends end.relays relays)
