-- What the two ends' seats keep over the steps of a call.
use Rattle.std.proofs.Common.{◌≡◌, ◌≢◌, ℕ, zero, suc, ◌≤◌, Bool, true, false, List, [], ◌∷◌, ◌++◌, Some, None, get_or, refl, sym, ap, ◌∙◌, subst, arith, append-nil, append_assoc}
use Rattle.atomic_table.specs.Table.{rest}
use Rattle.listener.specs.declared.message.Message.{Message}
use Rattle.listener.specs.Buffers.{Filled, filled}
use Rattle.listener.specs.Laws.{store_after}
use Rattle.handover.specs.declared.calls.Feed.{Feed}
use Rattle.handover.specs.declared.calls.Take.{Take}
use Rattle.handover.specs.declared.calls.Take.TheVariants as take
use Rattle.handover.specs.declared.calls.Word.TheVariants as word
use Rattle.handover.specs.declared.calls.WordStep.{WordStep}
use Rattle.handover.specs.declared.calls.WordStep.TheVariants.{Load, Store, Give}
use Rattle.handover.specs.declared.view.Role.TheVariants.{Drains}
use Rattle.handover.specs.History.{event_of, fed, finds}
use Rattle.handover.specs.Own.{store_from, store_of}
use Rattle.handover.specs.Rule.{Sat, bit, idle, with_feeds, with_takes, saw_end, ended_by, closed_by, looked_ended, looked_turn, cleared, IsLegalWithReads}
use Rattle.handover.specs.Seated.{IsFeeder, IsGiving, Went, IsDrain}
use Rattle.handover.specs.Steps.{GrewByRead}

pub store_from-append : (xs : List Message) (fs gs : List Feed) → store_from xs (fs ++ gs) ≡ store_from (store_from xs fs) gs
store_from-append xs [] gs = refl
store_from-append xs (f ∷ fs) gs = store_from-append (store_after xs (event_of (fed f))) fs gs

-- the store after one more call
abbrev pub after_call : Filled → Feed → Filled
after_call b f = filled b.capacity (store_after b.messages (event_of (fed f)))

-- ---- The feeder's seat

-- a call that one step ended
pub one_step : (m n : Sat) (b c : Filled) (f : Feed) (e : WordStep) → IsFeeder m b false → n ≡ (with_feeds m.0 (f ∷ []) e false, m.1) → IsLegalWithReads n.0 → c ≡ after_call b f
    → Went m n c f (e ∷ [])
one_step m n b c f e h is owned new =
    let store : c ≡ filled m.0.profile.capacity (store_of (m.0.feeds ++ f ∷ [])) =
    new ∙ (ap (λ (x : Filled). after_call x f) h.store ∙ ap (filled m.0.profile.capacity) (sym (store_from-append [] m.0.feeds (f ∷ [])))) in
    subst (λ (u : Sat). Went m u c f (e ∷ [])) (sym is) (record {
      feeder = record { role = h.role; calm = refl; ended = h.ended; home = h.home; store = store; owned = subst (λ (u : Sat). IsLegalWithReads u.0) is owned };
      profile = refl;
      feeds = refl;
      steps = refl;
    })

-- a step that ended no call
pub looked : (m n : Sat) (b : Filled) (e : WordStep) → IsFeeder m b false → n ≡ (with_feeds m.0 [] e false, m.1) → IsLegalWithReads n.0 → IsFeeder n b false
looked m n b e h is owned =
    let store : b ≡ filled m.0.profile.capacity (store_of (m.0.feeds ++ [])) = h.store ∙ ap (λ (l : List Feed). filled m.0.profile.capacity (store_of l)) (sym (append-nil m.0.feeds)) in
    subst (λ (u : Sat). IsFeeder u b false) (sym is)
    (record { role = h.role; calm = refl; ended = h.ended; home = h.home; store = store; owned = subst (λ (u : Sat). IsLegalWithReads u.0) is owned })

-- no call was found closed by it
pub looked_unclosed : (m n : Sat) (e : WordStep) → n ≡ (with_feeds m.0 [] e false, m.1) → finds m.0.feeds ≡ false → finds n.0.feeds ≡ false
looked_unclosed m n e is none = ap (λ (u : Sat). finds u.0.feeds) is ∙ ap finds (append-nil m.0.feeds) ∙ none

-- a step that ended no call, before the others
pub longer : (m n o : Sat) (c : Filled) (f : Feed) (e : WordStep) (es : List WordStep) → n ≡ (with_feeds m.0 [] e false, m.1) → Went n o c f es → Went m o c f (e ∷ es)
longer m n o c f e es is w = record {
  feeder = w.feeder;
  profile = w.profile ∙ ap (λ (u : Sat). u.0.profile) is;
  feeds = w.feeds ∙ (ap (λ (u : Sat). u.0.feeds ++ f ∷ []) is ∙ ap (λ (l : List Feed). l ++ f ∷ []) (append-nil m.0.feeds));
  steps = w.steps ∙ (ap (λ (u : Sat). u.0.feed_steps ++ es) is ∙ append_assoc m.0.feed_steps (e ∷ []) es);
}

-- the seat has the slot, with what was put into it
pub record Holds (n p : Sat) (b x : Filled) : Type 0 where
  pub giving : IsGiving p x
  pub store : store_of p.0.feeds ≡ b.messages
  pub profile : p.0.profile ≡ n.0.profile
  pub capacity : b.capacity ≡ p.0.profile.capacity

pub holds : (n o p : Sat) (b x : Filled) → IsFeeder n b false → finds n.0.feeds ≡ false
    → o ≡ (with_feeds n.0 [] (Load word.Turn 0) true, (0, filled n.0.profile.capacity []) ∷ n.1) → p ≡ (o.0, (0, x) ∷ []) → Holds n p b x
holds n o p b x h none taken swapped =
    subst (λ (u : Sat). Holds n u b x) (sym swapped) (subst (λ (u : Sat). Holds n (u.0, (0, x) ∷ []) b x) (sym taken) (record {
      giving = record { role = h.role; busy = refl; ended = h.ended; unclosed = ap finds (append-nil n.0.feeds) ∙ none; slot = refl };
      store = ap store_of (append-nil n.0.feeds) ∙ ap (λ (k : Filled). k.messages) (sym h.store);
      profile = refl;
      capacity = ap (λ (k : Filled). k.capacity) h.store;
    }))

-- the empty buffer that came out of the slot
pub came_out : (n o : Sat) (b c : Filled) → IsFeeder n b false → o ≡ (with_feeds n.0 [] (Load word.Turn 0) true, (0, filled n.0.profile.capacity []) ∷ n.1)
    → c ≡ filled o.0.profile.capacity [] → c ≡ filled b.capacity []
came_out n o b c h taken is = is ∙ (ap (λ (u : Sat). filled u.0.profile.capacity []) taken ∙ ap (λ (k : Filled). filled k.capacity []) (sym h.store))

-- a call that made the store the hold
pub gave_turn : (n o p q : Sat) (b x c : Filled) (f : Feed) (given : List Message) → IsFeeder n b false
    → o ≡ (with_feeds n.0 [] (Load word.Turn 0) true, (0, filled n.0.profile.capacity []) ∷ n.1) → p ≡ (o.0, (0, x) ∷ [])
    → q ≡ (with_feeds p.0 (f ∷ []) (Give given) false, rest p.1) → IsLegalWithReads q.0 → c ≡ after_call b f
    → Went n q c f (Load word.Turn 0 ∷ Give given ∷ [])
gave_turn n o p q b x c f given h taken swapped gave owned new =
    let P : Sat → Type 0 = λ u. IsLegalWithReads u.0 → Went n u c f (Load word.Turn 0 ∷ Give given ∷ []) in
    let Q : Sat → Type 0 = λ u. P (with_feeds u.0 (f ∷ []) (Give given) false, rest u.1) in
    let store : c ≡ filled n.0.profile.capacity (store_of ((n.0.feeds ++ []) ++ f ∷ [])) =
    new ∙ (ap (λ (k : Filled). after_call k f) h.store ∙ ap (filled n.0.profile.capacity)
    (sym (store_from-append [] (n.0.feeds ++ []) (f ∷ []) ∙ ap (λ (l : List Feed). store_after (store_of l) (event_of (fed f))) (append-nil n.0.feeds)))) in
    subst P (sym gave) (subst Q (sym swapped) (subst (λ (u : Sat). Q (u.0, (0, x) ∷ [])) (sym taken) (λ (o' : IsLegalWithReads (with_feeds (with_feeds n.0 [] (Load word.Turn 0) true) (f ∷ []) (Give given) false)). record {
      feeder = record { role = h.role; calm = refl; ended = h.ended; home = refl; store = store; owned = o' };
      profile = refl;
      feeds = ap (λ (l : List Feed). l ++ f ∷ []) (append-nil n.0.feeds);
      steps = append_assoc n.0.feed_steps (Load word.Turn 0 ∷ []) (Give given ∷ []);
    }))) owned

-- ---- The drain's seat

-- A read went: this is the answer, and the steps are its own.
pub record Took (m n : Sat) (t : Take) : Type 0 where
  pub drain : IsDrain n false
  pub profile : n.0.profile ≡ m.0.profile
  pub takes : n.0.takes ≡ m.0.takes ++ t ∷ []
  pub steps : GrewByRead t m.0.take_steps n.0.take_steps

-- what the drain found in `ended`
pub ended_seen : (m n : Sat) (found : ℕ) → looked_ended m found n → (seen : Bool) × (found ≡ bit seen) × (n ≡ (saw_end m.0 seen, m.1))
ended_seen m n zero h = (false, refl, h.0 refl)
ended_seen m n (suc k) h = let t = h.1 (λ e. absurd (omega arith)) in (true, t.0, t.1)

-- the steps of a read of an empty hold
idle_steps : (seen : Bool) (old : List WordStep) → GrewByRead (idle seen) old ((old ++ Load word.Ended (bit seen) ∷ []) ++ Load word.Turn 0 ∷ [])
idle_steps false old = (0, refl, append_assoc old (Load word.Ended 0 ∷ []) (Load word.Turn 0 ∷ []))
idle_steps true old = (1, refl, append_assoc old (Load word.Ended 1 ∷ []) (Load word.Turn 0 ∷ []))

-- the seat once it looked at `ended`
pub saw_ended : (m n : Sat) (seen : Bool) → IsDrain m false → n ≡ (saw_end m.0 seen, m.1) → IsDrain n false
saw_ended m n seen h is = subst (λ (u : Sat). IsDrain u false) (sym is) (record { role = h.role; calm = h.calm; closed = h.closed; home = h.home })

-- the hold was empty
pub took_nothing : (m n o : Sat) (seen : Bool) → IsDrain m false → n ≡ (saw_end m.0 seen, m.1)
    → o ≡ (with_takes n.0 (idle n.0.sees_end ∷ []) (Load word.Turn 0) None, n.1) → Took m o (idle seen)
took_nothing m n o seen h looked is =
    subst (λ (u : Sat). Took m u (idle seen)) (sym is) (subst (λ (u : Sat). Took m (with_takes u.0 (idle u.0.sees_end ∷ []) (Load word.Turn 0) None, u.1) (idle seen)) (sym looked) (record {
      drain = record { role = h.role; calm = refl; closed = h.closed; home = h.home };
      profile = refl;
      takes = refl;
      steps = idle_steps seen m.0.take_steps;
    }))

-- the seat has the slot, with the empty buffer that was brought
pub record Brought (m p : Sat) (batch : List Message) : Type 0 where
  pub role : p.0.role ≡ Drains
  pub closed : p.0.closed ≡ false
  pub taking : p.0.taking ≡ Some batch
  pub slot : p.1 ≡ (0, filled p.0.profile.capacity []) ∷ []

pub brought : (m n o p : Sat) (seen : Bool) (b : Filled) (batch : List Message) → IsDrain m false → b ≡ filled m.0.profile.capacity [] → n ≡ (saw_end m.0 seen, m.1)
    → o ≡ (with_takes n.0 [] (Load word.Turn 1) (Some batch), (0, filled n.0.profile.capacity batch) ∷ n.1) → p ≡ (o.0, (0, b) ∷ rest o.1) → Brought m p batch
brought m n o p seen b batch h empty looked took swapped =
    let P : Sat → Type 0 = λ u. Brought m u batch in
    let Q : Sat → Type 0 = λ u. P (u.0, (0, b) ∷ rest u.1) in
    let R : Sat → Type 0 = λ u. Q (with_takes u.0 [] (Load word.Turn 1) (Some batch), (0, filled u.0.profile.capacity batch) ∷ u.1) in
    subst P (sym swapped) (subst Q (sym took) (subst R (sym looked)
    (record { role = h.role; closed = h.closed; taking = refl; slot = λ i. (0, empty i) ∷ h.home i })))

bit_small : (b : Bool) → bit b ≤ 1
bit_small false = omega arith
bit_small true = omega arith

-- the hold was read, and it is what was handed over last
took_hold : (m n o p q : Sat) (seen : Bool) (b : Filled) (given batch : List Message) → IsDrain m false → b ≡ filled m.0.profile.capacity [] → n ≡ (saw_end m.0 seen, m.1)
    → o ≡ (with_takes n.0 [] (Load word.Turn 1) (Some batch), (0, filled n.0.profile.capacity batch) ∷ n.1) → p ≡ (o.0, (0, b) ∷ rest o.1) → cleared given p 0 q
    → Took m q (take.Full batch) × (batch ≡ given)
took_hold m n o p q seen b given batch h empty looked took swapped gave =
    let P : Sat → Type 0 = λ u. Took m u (take.Full batch) in
    let Q : Sat → Type 0 = λ u. P (with_takes u.0 (take.Full batch ∷ []) (Store word.Turn 0) None, rest u.1) in
    let R : Sat → Type 0 = λ u. Q (u.0, (0, b) ∷ rest u.1) in
    let S : Sat → Type 0 = λ u. R (with_takes u.0 [] (Load word.Turn 1) (Some batch), (0, filled u.0.profile.capacity batch) ∷ u.1) in
    let at = brought m n o p seen b batch h empty looked took swapped in
    let steps : GrewByRead (take.Full batch) m.0.take_steps (((m.0.take_steps ++ Load word.Ended (bit seen) ∷ []) ++ Load word.Turn 1 ∷ []) ++ Store word.Turn 0 ∷ []) =
    (bit seen, bit_small seen, append_assoc (m.0.take_steps ++ Load word.Ended (bit seen) ∷ []) (Load word.Turn 1 ∷ []) (Store word.Turn 0 ∷ []) ∙ append_assoc m.0.take_steps (Load word.Ended (bit seen) ∷ []) (Load word.Turn 1 ∷ Store word.Turn 0 ∷ [])) in
    let cleared_so = gave batch at.taking in (
      subst P (sym cleared_so.1) (subst Q (sym swapped) (subst R (sym took) (subst S (sym looked) (record {
        drain = record { role = h.role; calm = refl; closed = h.closed; home = h.home };
        profile = refl;
        takes = ap (λ (l : List Take). l ++ take.Full batch ∷ []) (append-nil m.0.takes);
        steps = steps;
      })))),
      cleared_so.0,
    )

pub took_none : (m n o : Sat) (found full : ℕ) → IsDrain m false → looked_ended m found n → looked_turn n full o → full ≡ 0 → found ≡ 0 → Took m o take.Nothing
took_none m n o found full h ended turn none is = took_nothing m n o false h (ended.0 is) (turn.0 none)

pub took_end : (m n o : Sat) (found full : ℕ) → IsDrain m false → looked_ended m found n → looked_turn n full o → full ≡ 0 → found ≢ 0 → Took m o take.Ended
took_end m n o found full h ended turn none ne = took_nothing m n o true h (ended.1 ne).1 (turn.0 none)

-- a seat that has ended or closed
pub ended_seat : (m n : Sat) (b : Filled) → IsFeeder m b false → n ≡ (ended_by m.0, m.1) → IsLegalWithReads n.0 → IsFeeder n b true
ended_seat m n b h is owned = subst (λ (u : Sat). IsFeeder u b true) (sym is)
    (record { role = h.role; calm = h.calm; ended = refl; home = h.home; store = h.store; owned = subst (λ (u : Sat). IsLegalWithReads u.0) is owned })

pub closed_seat : (m n : Sat) → IsDrain m false → n ≡ (closed_by m.0, m.1) → IsDrain n true
closed_seat m n h is = subst (λ (u : Sat). IsDrain u true) (sym is) (record { role = h.role; calm = h.calm; closed = refl; home = h.home })

-- the hold came out of the slot, and is what was read
pub took_full : (m n o p q : Sat) (found full : ℕ) (given : List Message) (empty hold : Filled) → IsDrain m false → empty ≡ filled m.0.profile.capacity []
    → looked_ended m found n → looked_turn n full o → full ≢ 0 → o.1 ≡ (0, hold) ∷ rest o.1 → p ≡ (o.0, (0, empty) ∷ rest o.1) → cleared given p 0 q
    → Took m q (take.Full hold.messages) × (hold.capacity ≡ m.0.profile.capacity) × (hold.messages ≡ given)
took_full m n o p q found full given empty hold h none ended turn ne out swapped gave =
    let seen = ended_seen m n found ended in
    let t = (turn.1 ne).1 in
    let slot : (0, hold) ∷ rest o.1 ≡ (0, filled n.0.profile.capacity t.0) ∷ n.1 = sym out ∙ ap (λ (u : Sat). u.1) t.1 in
    let is : hold ≡ filled n.0.profile.capacity t.0 = ap (λ (l : List (ℕ × Filled)). (get_or l 0 (0, hold)).1) slot in
    let same : n.0.profile.capacity ≡ m.0.profile.capacity = ap (λ (u : Sat). u.0.profile.capacity) seen.2 in
    let was = took_hold m n o p q seen.0 empty given t.0 h none seen.2 t.1 swapped gave in (
      subst (λ (l : List Message). Took m q (take.Full l)) (sym (ap (λ (b : Filled). b.messages) is)) was.0,
      ap (λ (b : Filled). b.capacity) is ∙ same,
      ap (λ (b : Filled). b.messages) is ∙ was.1,
    )
