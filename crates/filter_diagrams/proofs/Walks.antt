-- Programs that are walked.
use Rattle.std.proofs.Common.{◌≡◌, ℕ, zero, suc, ◌+◌, ◌<◌, inl, inr, Bool, true, false, List, [], ◌∷◌, ◌++◌, length, drop, refl, sym, ap, ◌∙◌, arith, subst}
use Rattle.std.specs.Prelude.{Option, Some, None, IfSome, nat_lt, if◌then◌else◌, option_to_list}
use Rattle.std.specs.List.{slice_get}
use Rattle.std.proofs.lemmas.Option.{get_or_from_slice_get, slice_get_within}
use Rattle.bpfvm.specs.declared.insn.Insn.{Insn}
use Rattle.bpfvm.specs.Codes.{operation_of}
use Rattle.bpfvm.specs.Machine.{Registers, Goes, effect, initial}
use Rattle.filter_meaning.specs.declared.verdict.Verdict.TheVariants.{Abort}
use Rattle.filter_meaning.specs.Meaning.{Packet, Test, and_then, and_test, decided}
use Rattle.filter_symbols.specs.declared.symbol.Symbols.{Symbols}
use Rattle.filter_symbols.specs.Packets.{verdict_at}
use Rattle.filter_symbols.specs.Symbols.{SaysOf, Extends}
use Rattle.filter_diagrams.specs.declared.actions.Action.{Action}
use Rattle.filter_diagrams.specs.declared.state.State.{State}
use Rattle.filter_diagrams.specs.declared.spots.Spot.{Spot}
use Rattle.filter_diagrams.specs.declared.steps.Step.TheVariants.{On, Branch, End}
use Rattle.filter_diagrams.specs.Actions.{IsAction, effect_by}
use Rattle.filter_diagrams.specs.Programs.{run_test, program_test}
use Rattle.filter_diagrams.specs.States.{AreWords, IsStateOf, IsPart, IsInitial}
use Rattle.filter_diagrams.specs.Walks.{IsStepOf, Follows, IsNodeOf, AreNodes, AreSpots}
use Rattle.filter_diagrams.proofs.Builders.{verdict-grown, head-back, inside_extended}
use Rattle.filter_diagrams.proofs.Runs.{run-goes, run-ends}
use Rattle.filter_diagrams.proofs.States.{words_grown, state-back, part-state}

-- ---- Spots

follows-grown : (a b : Symbols) (insns : List Insn) (state : State) (i : ℕ) → Extends a b → Follows a insns state i → Follows b insns state i
follows-grown a b insns state i g h = record {
  inside = inside_extended a b i g h.inside;
  words = words_grown a.words.diagrams b.words.diagrams state g.grew h.words;
  says = λ p ok head r is.
      verdict-grown a b i p g h.inside ∙ h.says p ok (head-back a b p g head) r (state-back a.words.diagrams b.words.diagrams state p r g.grew h.words is);
}

pub nodes_grown : (a b : Symbols) (insns : List Insn) (es : List (Spot × ℕ)) → Extends a b → AreNodes a insns es → AreNodes b insns es
nodes_grown a b insns [] g h = tt
nodes_grown a b insns (e ∷ es) g h = (follows-grown a b (drop e.0.place insns) e.0.state e.1 g h.0, nodes_grown a b insns es g h.1)

node-at : (b : Symbols) (insns : List Insn) (es : List (Spot × ℕ)) (place : ℕ) (e : Spot × ℕ) → AreNodes b insns es → slice_get es place ≡ Some e → IsNodeOf b insns e.0 e.1
node-at b insns [] place e h found = absurd (omega (arith, slice_get_within [] place e found))
node-at b insns (f ∷ es) zero e h found =
    let same : f ≡ e = get_or_from_slice_get (f ∷ es) 0 e f found in
    subst (λ (x : Spot × ℕ). IsNodeOf b insns x.0 x.1) same h.0
node-at b insns (f ∷ es) (suc place) e h found = node-at b insns es place e h.1 found

-- what was found is the node of the spot that it was walked for
pub node-found : (b : Symbols) (insns : List Insn) (es : List (Spot × ℕ)) (place : ℕ) (e : Spot × ℕ) (walked spot : Spot) (node : ℕ) → AreNodes b insns es → slice_get es place ≡ Some e
    → e.0 ≡ walked → e.1 ≡ node → walked ≡ spot → IsNodeOf b insns spot node
node-found b insns es place e walked spot node h found first second same =
    subst (λ s. IsNodeOf b insns s node) (first ∙ same) (subst (IsNodeOf b insns e.0) second (node-at b insns es place e h found))

-- a node is kept after the others
nodes-push : (b : Symbols) (insns : List Insn) (es : List (Spot × ℕ)) (k : Spot) (i : ℕ) → AreNodes b insns es → IsNodeOf b insns k i → AreNodes b insns (es ++ (k, i) ∷ [])
nodes-push b insns [] k i h n = (n, tt)
nodes-push b insns (e ∷ es) k i h n = (h.0, nodes-push b insns es k i h.1 n)

pub nodes-kept : (b : Symbols) (insns : List Insn) (old new : List (Spot × ℕ)) (k : Spot) (i : ℕ)
    → new ≡ old ++ (k, i) ∷ [] → AreNodes b insns old → IsNodeOf b insns k i → AreNodes b insns new
nodes-kept b insns old new k i is h n = subst (AreNodes b insns) (sym is) (nodes-push b insns old k i h n)

-- a node of a spot of which less is kept
pub node-read : (b : Symbols) (insns : List Insn) (spot here : Spot) (i : ℕ) → here.place ≡ spot.place → IsPart spot.state here.state → AreWords b.words.diagrams spot.state
    → IsNodeOf b insns here i → IsNodeOf b insns spot i
node-read b insns spot here i same less words h = record {
  inside = h.inside;
  words = words;
  says = λ p ok head r is.
      h.says p ok head r (part-state b.words.diagrams spot.state here.state p r less is) ∙ ap (λ place. run_test (drop place insns) 0 r p) same;
}

-- ---- Spots that wait

pub spots_grown : (a b : Symbols) (ss : List Spot) → Extends a b → AreSpots a.words.diagrams ss → AreSpots b.words.diagrams ss
spots_grown a b [] g h = tt
spots_grown a b (s ∷ ss) g h = (words_grown a.words.diagrams b.words.diagrams s.state g.grew h.0, spots_grown a b ss g h.1)

spots-push : (b : Symbols) (ss : List Spot) (s : Spot) → AreSpots b.words.diagrams ss → AreWords b.words.diagrams s.state → AreSpots b.words.diagrams (ss ++ s ∷ [])
spots-push b [] s h w = (w, tt)
spots-push b (t ∷ ss) s h w = (h.0, spots-push b ss s h.1 w)

pub spots-pushed : (b : Symbols) (old new : List Spot) (s : Spot) → new ≡ old ++ s ∷ [] → AreSpots b.words.diagrams old → AreWords b.words.diagrams s.state → AreSpots b.words.diagrams new
spots-pushed b old new s is h w = subst (AreSpots b.words.diagrams) (sym is) (spots-push b old s h w)

spots-pop : (b : Symbols) (ss : List Spot) (s : Spot) → AreSpots b.words.diagrams (ss ++ s ∷ []) → AreSpots b.words.diagrams ss × AreWords b.words.diagrams s.state
spots-pop b [] s h = (tt, h.0)
spots-pop b (t ∷ ss) s h = let rest = spots-pop b ss s h.1 in ((h.0, rest.0), rest.1)

-- ---- Spots, by what their instructions do

effect-is : (i : Insn) (a : Action) (p : Packet) (r : Registers) → IsAction (operation_of i.code) a → effect p.captured p.wire i r ≡ effect_by a p.captured p.wire i r
unfolding effect
effect-is i a p r is = is.effect p.captured p.wire i r

-- what a node says that goes on where a guard says Yes
pub walk-on : (g h k : Symbols) (insns : List Insn) (here next : Spot) (insn : Insn) (action : Action) (guard passed rest i : ℕ) → Extends g h → Extends h k
    → slice_get insns here.place ≡ Some insn → next.place ≡ here.place + 1 + passed → AreWords g.words.diagrams here.state → IsAction (operation_of insn.code) action
    → IsStepOf g h here.state insn action (On guard passed next.state) → IsNodeOf h insns next rest
    → ((t u : Test) → SaysOf h t guard → SaysOf h u rest → SaysOf k (and_test t u) i) → IsNodeOf k insns here i
walk-on g h k insns here next insn action guard passed rest i grew more at place words act step after both =
    let whole = both (verdict_at h.words.diagrams guard) (verdict_at h.words.diagrams rest)
    (record { inside = step.inside.0; says = λ p ok head. refl }) (record { inside = after.inside; says = λ p ok head. refl }) in
    let words_h = words_grown g.words.diagrams h.words.diagrams here.state grew.grew words in
    record {
      inside = whole.inside;
      words = words_grown h.words.diagrams k.words.diagrams here.state more.grew words_h;
      says = λ p ok head r is.
          let head_h = head-back h k p more head in
          let is_h = state-back h.words.diagrams k.words.diagrams here.state p r more.grew words_h is in
          let is_g = state-back g.words.diagrams h.words.diagrams here.state p r grew.grew words is_h in
          whole.says p ok head ∙ elim (step.does p ok head_h r is_g) [
            | inl (always, (r', goes, then')) ↦
                ap (λ v. and_then v (verdict_at h.words.diagrams rest p)) always
                ∙ after.says p ok head_h r' then'
                ∙ ap (λ n. run_test (drop n insns) 0 r' p) place
                ∙ sym (run-goes insns here.place insn r p passed r' at (effect-is insn action p r act ∙ goes))
            | inr (abort, ends, other) ↦
                ap (λ v. and_then v (verdict_at h.words.diagrams rest p)) abort
                ∙ sym (ap (λ b. if b then decided (nat_lt 0 0) else Abort) (act.returns ∙ other))
                ∙ sym (run-ends insns here.place insn r p 0 at (effect-is insn action p r act ∙ ends))
          ];
    }

-- what a node says that goes on on one of two ways
pub walk-branch : (g h k : Symbols) (insns : List Insn) (here one other : Spot) (insn : Insn) (action : Action) (test held failed i : ℕ) → Extends g h → Extends h k
    → slice_get insns here.place ≡ Some insn → one.place ≡ here.place + 1 + insn.jt → one.state ≡ here.state → other.place ≡ here.place + 1 + insn.jf → other.state ≡ here.state
    → AreWords g.words.diagrams here.state → IsAction (operation_of insn.code) action → IsStepOf g h here.state insn action (Branch test)
    → IsNodeOf h insns one held → IsNodeOf h insns other failed → i < length k.words.diagrams
    → ((p : Packet) → (b : Bool) → verdict_at h.words.diagrams test p ≡ decided b
    → verdict_at k.words.diagrams i p ≡ (if b then verdict_at h.words.diagrams held p else verdict_at h.words.diagrams failed p))
    → IsNodeOf k insns here i
walk-branch g h k insns here one other insn action test held failed i grew more at place1 state1 place2 state2 words act step y n inside chosen =
    let words_h = words_grown g.words.diagrams h.words.diagrams here.state grew.grew words in
    record {
      inside = inside;
      words = words_grown h.words.diagrams k.words.diagrams here.state more.grew words_h;
      says = λ p ok head r is.
          let head_h = head-back h k p more head in
          let is_h = state-back h.words.diagrams k.words.diagrams here.state p r more.grew words_h is in
          let is_g = state-back g.words.diagrams h.words.diagrams here.state p r grew.grew words is_h in
          let does = step.does p ok head_h r is_g in
          let goes = effect-is insn action p r act ∙ does.2 in
          let by : (b : Bool) → does.0 ≡ b → (if does.0 then verdict_at h.words.diagrams held p else verdict_at h.words.diagrams failed p) ≡ run_test (drop here.place insns) 0 r p =
          λ b. elim b as (λ b. does.0 ≡ b → (if does.0 then verdict_at h.words.diagrams held p else verdict_at h.words.diagrams failed p) ≡ run_test (drop here.place insns) 0 r p) [
            | true ↦ λ e.
                ap (λ t. if t then verdict_at h.words.diagrams held p else verdict_at h.words.diagrams failed p) e
                ∙ y.says p ok head_h r (subst (λ s. IsStateOf h.words.diagrams s p r) (sym state1) is_h)
                ∙ ap (λ m. run_test (drop m insns) 0 r p) place1
                ∙ sym (run-goes insns here.place insn r p insn.jt r at (goes ∙ ap (λ t. Goes (if t then insn.jt else insn.jf) r) e))
            | false ↦ λ e.
                ap (λ t. if t then verdict_at h.words.diagrams held p else verdict_at h.words.diagrams failed p) e
                ∙ n.says p ok head_h r (subst (λ s. IsStateOf h.words.diagrams s p r) (sym state2) is_h)
                ∙ ap (λ m. run_test (drop m insns) 0 r p) place2
                ∙ sym (run-goes insns here.place insn r p insn.jf r at (goes ∙ ap (λ t. Goes (if t then insn.jt else insn.jf) r) e))
          ] in
          chosen p does.0 does.1 ∙ by does.0 refl;
    }

pub walk-end : (g h : Symbols) (insns : List Insn) (here : Spot) (insn : Insn) (action : Action) (node : ℕ) → Extends g h → slice_get insns here.place ≡ Some insn
    → AreWords g.words.diagrams here.state → IsAction (operation_of insn.code) action → IsStepOf g h here.state insn action (End node) → IsNodeOf h insns here node
walk-end g h insns here insn action node grew at words act step = record {
  inside = step.inside;
  words = words_grown g.words.diagrams h.words.diagrams here.state grew.grew words;
  says = λ p ok head r is.
      let does = step.does p ok head r (state-back g.words.diagrams h.words.diagrams here.state p r grew.grew words is) in
      does.2
      ∙ sym (ap (λ b. if b then decided (nat_lt 0 does.0) else Abort) act.returns)
      ∙ sym (run-ends insns here.place insn r p does.0 at (effect-is insn action p r act ∙ does.1));
}

-- what the node of the first spot says a program says
pub program-means : (b : Symbols) (insns : List Insn) (spot : Spot) (i : ℕ) → spot.place ≡ 0 → IsInitial b.words.diagrams spot.state → IsNodeOf b insns spot i
    → SaysOf b (program_test insns) i
program-means b insns spot i place first h = record {
  inside = h.inside;
  says = λ p ok head. h.says p ok head initial (first.is p) ∙ ap (λ n. run_test (drop n insns) 0 initial p) place;
}

-- the spots that still wait after one was taken
pub spots-left : (b : Symbols) (xs ys : List Spot) → AreSpots b.words.diagrams (xs ++ ys) → AreSpots b.words.diagrams xs
spots-left b [] ys h = tt
spots-left b (x ∷ xs) ys h = (h.0, spots-left b xs ys h.1)

pub spots-rest : (b : Symbols) (old new taken : List Spot) → old ≡ new ++ taken → AreSpots b.words.diagrams old → AreSpots b.words.diagrams new
spots-rest b old new taken is h = spots-left b new taken (subst (AreSpots b.words.diagrams) is h)

pub spots-next : (b : Symbols) (old new : List Spot) (m : Option Spot) → old ≡ new ++ option_to_list m → AreSpots b.words.diagrams old → IfSome m (λ s. AreWords b.words.diagrams s.state)
spots-next b old new None is h = tt
spots-next b old new (Some s) is h = (spots-pop b new s (subst (AreSpots b.words.diagrams) is h)).1
