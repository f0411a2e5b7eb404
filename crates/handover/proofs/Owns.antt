-- The feeder's own run is right wherever the merged one is.
use Rattle.std.proofs.Common.{◌≡◌, ℕ, ◌<◌, Bool, true, false, true≢false, cond, List, [], ◌∷◌, ◌++◌, map, Some, None, length, drop, refl, sym, ap, ◌∙◌, arith, inl, inr, length-append}
use Rattle.listener.specs.declared.answer.Fed.TheVariants.{Passed, Stored, Held, Rotated, Dropped, Closed}
use Rattle.listener.specs.declared.mode.Mode.{Mode}
use Rattle.listener.specs.declared.mode.Mode.TheVariants.{Buffered, Immediate}
use Rattle.listener.specs.declared.message.Message.{Message}
use Rattle.listener.specs.Messages.{room}
use Rattle.listener.specs.PlainList.{Terms, PlainList, empty, closed, stored, IsRight, Legal, StaysStored, IsHandedOver, next, run, flushed}
use Rattle.listener.specs.Laws.{HeldIsWithin}
use Rattle.handover.specs.declared.calls.Feed.{Feed}
use Rattle.handover.specs.declared.calls.Feed.TheVariants.{Arrive, Flush, FlushClosed}
use Rattle.handover.specs.declared.calls.Take.{Take}
use Rattle.handover.specs.History.{Happening, fed, got, shut, event_of, events, feeds_in, plain, stores, finds_closed, kind, by_kind, reads_of, turns_of, first_turn, later_turns, deal, merge}
use Rattle.handover.specs.Own.{reads_hold, own_from, own, store_from, store_of}
use Rattle.handover.specs.Allowed.{AllFit}
use Rattle.handover.proofs.Runs.{legal_back, within_next, stored_run, fed_open, got_open, full_list}
use Rattle.handover.proofs.Merges.{feeds_fed}

-- a state that waits for no read has nothing held, and any other has
abbrev Holds : Bool → PlainList → Type 0
Holds true s = 0 < s.in_hold
Holds false s = s.in_hold ≡ 0

-- Two open states with one store: the first is after reads that the second has not made.
pub record Twin (after : Bool) (s u : PlainList) : Type 0 where
  pub left : HeldIsWithin s
  pub right : HeldIsWithin u
  pub same : stored s ≡ stored u
  pub idle : after ≡ false → s.in_hold ≡ 0
  pub holds : Holds after u
  pub left_open : s.closed ≡ false
  pub right_open : u.closed ≡ false

stays_held : (mode : Mode) (u : PlainList) → 0 < u.in_hold → StaysStored mode u
stays_held Buffered u h = tt
stays_held Immediate u h = h

stays_alike : (mode : Mode) (s u : PlainList) → s.in_hold ≡ 0 → StaysStored mode s → StaysStored mode u
stays_alike Buffered s u z h = tt
stays_alike Immediate s u z h = absurd (omega (arith, z, h))

handed_alike : (mode : Mode) (s u : PlainList) → u.in_hold ≡ 0 → IsHandedOver mode s → IsHandedOver mode u
handed_alike Buffered s u z h = absurd h
handed_alike Immediate s u z h = z

flush_alike : (t : Terms) (s u : PlainList) → Twin false s u → IsRight t s (flushed false) → IsRight t u (flushed false)
flush_alike t s u w (inl c) = absurd (true≢false (sym c ∙ w.left_open))
flush_alike t s u w (inr (inl p)) = absurd (omega (arith, p, w.idle refl))
flush_alike t s u w (inr (inr e)) = inr (inr (ap (λ (n : ℕ). drop n u.pending) (sym w.holds) ∙ (sym w.same ∙ (ap (λ (n : ℕ). drop n s.pending) (w.idle refl) ∙ e))))

-- a call that neither stores 1 nor finds the pair closed
plain_step : (t : Terms) (after : Bool) (s u : PlainList) (f : Feed) → kind f ≡ plain → Twin after s u → IsRight t s (event_of (fed f))
    → IsRight t u (event_of (fed f)) × Holds after (next u (event_of (fed f))) × (after ≡ false → (next s (event_of (fed f))).in_hold ≡ 0)
plain_step t true s u (Arrive None Passed) is w h = (w.right_open, w.holds, w.idle)
plain_step t true s u (Arrive None Stored) is w h = absurd h
plain_step t true s u (Arrive None Held) is w h = absurd (cc)
plain_step t true s u (Arrive None Rotated) is w h = absurd (cc)
plain_step t true s u (Arrive None Dropped) is w h = absurd h
plain_step t true s u (Arrive None Closed) is w h = absurd (cc)
plain_step t true s u (Arrive (Some m) Passed) is w h = absurd h
plain_step t true s u (Arrive (Some m) Stored) is w h = let e : room (stored s) ≡ room (stored u) = ap room w.same in ((w.right_open, omega (arith, e, h.1), stays_held t.mode u w.holds), w.holds, w.idle)
plain_step t true s u (Arrive (Some m) Held) is w h = absurd (cc)
plain_step t true s u (Arrive (Some m) Rotated) is w h = absurd (cc)
plain_step t true s u (Arrive (Some m) Dropped) is w h = let e : room (stored s) ≡ room (stored u) = ap room w.same in ((w.right_open, omega (arith, e, h.1), w.holds), w.holds, w.idle)
plain_step t true s u (Arrive (Some m) Closed) is w h = absurd (cc)
plain_step t true s u (Flush true) is w h = absurd (cc)
plain_step t true s u (Flush false) is w h = (inr (inl w.holds), w.holds, w.idle)
plain_step t true s u FlushClosed is w h = absurd (cc)
plain_step t false s u (Arrive None Passed) is w h = (w.right_open, w.holds, w.idle)
plain_step t false s u (Arrive None Stored) is w h = absurd h
plain_step t false s u (Arrive None Held) is w h = absurd (cc)
plain_step t false s u (Arrive None Rotated) is w h = absurd (cc)
plain_step t false s u (Arrive None Dropped) is w h = absurd h
plain_step t false s u (Arrive None Closed) is w h = absurd (cc)
plain_step t false s u (Arrive (Some m) Passed) is w h = absurd h
plain_step t false s u (Arrive (Some m) Stored) is w h = let e : room (stored s) ≡ room (stored u) = ap room w.same in ((w.right_open, omega (arith, e, h.1), stays_alike t.mode s u (w.idle refl) h.2), w.holds, w.idle)
plain_step t false s u (Arrive (Some m) Held) is w h = absurd (cc)
plain_step t false s u (Arrive (Some m) Rotated) is w h = absurd (cc)
plain_step t false s u (Arrive (Some m) Dropped) is w h = absurd (omega (arith, w.idle refl, h.2))
plain_step t false s u (Arrive (Some m) Closed) is w h = absurd (cc)
plain_step t false s u (Flush true) is w h = absurd (cc)
plain_step t false s u (Flush false) is w h = (flush_alike t s u w h, w.holds, w.idle)
plain_step t false s u FlushClosed is w h = absurd (cc)

-- a call that stores 1
store_step : (t : Terms) (s u : PlainList) (f : Feed) → kind f ≡ stores → stored s ≡ stored u → u.in_hold ≡ 0 → u.closed ≡ false → AllFit t.capacity (f ∷ []) → IsRight t s (event_of (fed f))
    → IsRight t u (event_of (fed f)) × (0 < (next u (event_of (fed f))).in_hold)
store_step t s u (Arrive None Passed) is same z o fit h = absurd (cc)
store_step t s u (Arrive None Stored) is same z o fit h = absurd h
store_step t s u (Arrive None Held) is same z o fit h = absurd h
store_step t s u (Arrive None Rotated) is same z o fit h = absurd h
store_step t s u (Arrive None Dropped) is same z o fit h = absurd h
store_step t s u (Arrive None Closed) is same z o fit h = absurd (cc)
store_step t s u (Arrive (Some m) Passed) is same z o fit h = absurd h
store_step t s u (Arrive (Some m) Stored) is same z o fit h = absurd (cc)
store_step t s u (Arrive (Some m) Held) is same z o fit h = let e : room (stored s) ≡ room (stored u) = ap room same in let k : room (stored u) ≡ room u.pending = ap (λ (x : ℕ). room (drop x u.pending)) z in ((o, omega (arith, e, h.1), handed_alike t.mode s u z h.2), omega (arith, length-append u.pending (m ∷ [])))
store_step t s u (Arrive (Some m) Rotated) is same z o fit h = let e : room (stored s) ≡ room (stored u) = ap room same in let k : room (stored u) ≡ room u.pending = ap (λ (x : ℕ). room (drop x u.pending)) z in ((o, omega (arith, e, h.1), z), full_list u.pending (omega (arith, e, k, h.1, fit.0)))
store_step t s u (Arrive (Some m) Dropped) is same z o fit h = absurd (cc)
store_step t s u (Arrive (Some m) Closed) is same z o fit h = absurd (cc)
store_step t s u (Flush true) is same z o fit h = let l : length (stored s) ≡ length (stored u) = ap length same in let j : length (stored u) ≡ length u.pending = ap (λ (x : ℕ). length (drop x u.pending)) z in let n : length (stored s) ≡ length s.pending = ap (λ (x : ℕ). length (drop x s.pending)) h.1 in ((o, z, omega (arith, l, j, n, h.2)), omega (arith, l, j, n, h.2))
store_step t s u (Flush false) is same z o fit h = absurd (cc)
store_step t s u FlushClosed is same z o fit h = absurd (cc)

-- the answers of a closed list are those of any other
closed_alike : (t : Terms) (s u : PlainList) (f : Feed) → s.closed ≡ true → u.closed ≡ true → IsRight t s (event_of (fed f)) → IsRight t u (event_of (fed f))
closed_alike t s u (Arrive None Passed) c d h = absurd (true≢false (sym c ∙ h))
closed_alike t s u (Arrive None Stored) c d h = absurd h
closed_alike t s u (Arrive None Held) c d h = absurd h
closed_alike t s u (Arrive None Rotated) c d h = absurd h
closed_alike t s u (Arrive None Dropped) c d h = absurd h
closed_alike t s u (Arrive None Closed) c d h = d
closed_alike t s u (Arrive (Some m) Passed) c d h = absurd h
closed_alike t s u (Arrive (Some m) Stored) c d h = absurd (true≢false (sym c ∙ h.0))
closed_alike t s u (Arrive (Some m) Held) c d h = absurd (true≢false (sym c ∙ h.0))
closed_alike t s u (Arrive (Some m) Rotated) c d h = absurd (true≢false (sym c ∙ h.0))
closed_alike t s u (Arrive (Some m) Dropped) c d h = absurd (true≢false (sym c ∙ h.0))
closed_alike t s u (Arrive (Some m) Closed) c d h = d
closed_alike t s u (Flush true) c d h = absurd (true≢false (sym c ∙ h.0))
closed_alike t s u (Flush false) c d h = inl d
closed_alike t s u FlushClosed c d h = inl d

all_closed : (t : Terms) (fs : List Feed) (s u : PlainList) → s.closed ≡ true → u.closed ≡ true → Legal t s (events (map fed fs)) → Legal t u (events (map fed fs))
all_closed t [] s u c d h = tt
all_closed t (f ∷ fs) s u c d h = (
  closed_alike t s u f c d h.0,
  all_closed t fs (next s (event_of (fed f))) (next u (event_of (fed f))) (fed_open s f ∙ c) (fed_open u f ∙ d) h.1,
)

feeds_in_reads : (ts : List Take) → feeds_in (map got ts) ≡ []
feeds_in_reads [] = refl
feeds_in_reads (t ∷ ts) = feeds_in_reads ts

reads_store : (t : Terms) (s : PlainList) (ts : List Take) → HeldIsWithin s → Legal t s (events (map got ts)) → stored (run s (events (map got ts))) ≡ stored s
reads_store t s ts w legal = stored_run t s (map got ts) w legal ∙ ap (λ (l : List Feed). store_from (stored s) l) (feeds_in_reads ts)

reads_within : (s : PlainList) (ts : List Take) → HeldIsWithin s → HeldIsWithin (run s (events (map got ts)))
reads_within s [] w = w
reads_within s (t ∷ ts) w = reads_within (next s (event_of (got t))) ts (within_next s (event_of (got t)) w)

reads_open : (s : PlainList) (ts : List Take) → s.closed ≡ false → (run s (events (map got ts))).closed ≡ false
reads_open s [] o = o
reads_open s (t ∷ ts) o = reads_open (next s (event_of (got t))) ts (got_open s t ∙ o)

reads_legal : (t : Terms) (s : PlainList) (ts : List Take) (hs : List Happening) → Legal t s (events (map got ts ++ hs)) → Legal t s (events (map got ts))
reads_legal t s [] hs h = tt
reads_legal t s (r ∷ ts) hs h = (h.0, reads_legal t (next s (event_of (got r))) ts hs h.1)

stored_state : (t : Terms) (s u : PlainList) (f : Feed) → HeldIsWithin s → HeldIsWithin u → stored s ≡ stored u → IsRight t s (event_of (fed f)) → IsRight t u (event_of (fed f))
    → stored (next s (event_of (fed f))) ≡ stored (next u (event_of (fed f)))
stored_state t s u f w v e p q =
    stored_run t s (fed f ∷ []) w (p, tt) ∙ (ap (λ (l : List Message). store_from l (f ∷ [])) e ∙ sym (stored_run t u (fed f ∷ []) v (q, tt)))

fits_head : (capacity : ℕ) (f : Feed) (fs : List Feed) → AllFit capacity (f ∷ fs) → AllFit capacity (f ∷ []) × AllFit capacity fs
fits_head capacity (Arrive (Some m) answer) fs fits = ((fits.0, tt), fits.1)
fits_head capacity (Arrive None answer) fs fits = (tt, fits)
fits_head capacity (Flush full) fs fits = (tt, fits)
fits_head capacity FlushClosed fs fits = (tt, fits)

-- after a call that stores 1, from the states z and v
twin : (t : Terms) (f : Feed) (z v : PlainList) → HeldIsWithin z → HeldIsWithin v → stored z ≡ stored v → z.closed ≡ false → v.closed ≡ false → IsRight t z (event_of (fed f))
    → IsRight t v (event_of (fed f)) → 0 < (next v (event_of (fed f))).in_hold → Twin true (next z (event_of (fed f))) (next v (event_of (fed f)))
twin t f z v w x e o q a b p = record {
  left = within_next z (event_of (fed f)) w;
  right = within_next v (event_of (fed f)) x;
  same = stored_state t z v f w x e a b;
  idle = λ y. absurd (true≢false y);
  holds = p;
  left_open = fed_open z f ∙ o;
  right_open = fed_open v f ∙ q;
}

-- what the rest of the calls owes, after a call that stores 1
abbrev More : Terms → List Feed → List (List Take) → Type 0
More t fs us = (z v : PlainList) → Twin true z v → Legal t z (events (deal us fs)) → Legal t v (events (own_from true v fs))

-- the own list of a call that stores 1 and the calls after it
abbrev own_storing : Bool → PlainList → Feed → List Feed → List Happening
own_storing after u f fs = cond after
    (reads_hold u ∷ fed f ∷ own_from true (next (next u (event_of (reads_hold u))) (event_of (fed f))) fs)
    (fed f ∷ own_from true (next u (event_of (fed f))) fs)

storing : (t : Terms) (after : Bool) (f : Feed) (fs : List Feed) (us : List (List Take)) (s u : PlainList) → AllFit t.capacity (f ∷ []) → More t fs (later_turns us) → Twin after s u → kind f ≡ stores
    → Legal t s (events (map got (first_turn us) ++ fed f ∷ deal (later_turns us) fs)) → Legal t u (events (own_storing after u f fs))
storing t true f fs us s u fit more w is k =
    let turn : List Take = first_turn us in
    let z : PlainList = run s (events (map got turn)) in
    let r = legal_back t s (map got turn) (fed f ∷ deal (later_turns us) fs) k in
    let x : HeldIsWithin z = reads_within s turn w.left in
    let v : PlainList = next u (event_of (reads_hold u)) in
    let y : HeldIsWithin v = within_next u (event_of (reads_hold u)) w.right in
    let e : stored z ≡ stored v = reads_store t s turn w.left (reads_legal t s turn _ k) ∙ w.same in
    let o : z.closed ≡ false = reads_open s turn w.left_open in
    let p = store_step t z v f is e refl w.right_open fit r.0 in
    ((w.right_open, w.holds, refl), (p.0, more (next z (event_of (fed f))) (next v (event_of (fed f))) (twin t f z v x y e o w.right_open r.0 p.0 p.1) r.1))
storing t false f fs us s u fit more w is k =
    let turn : List Take = first_turn us in
    let z : PlainList = run s (events (map got turn)) in
    let r = legal_back t s (map got turn) (fed f ∷ deal (later_turns us) fs) k in
    let x : HeldIsWithin z = reads_within s turn w.left in
    let e : stored z ≡ stored u = reads_store t s turn w.left (reads_legal t s turn _ k) ∙ w.same in
    let o : z.closed ≡ false = reads_open s turn w.left_open in
    let p = store_step t z u f is e w.holds w.right_open fit r.0 in
    (p.0, more (next z (event_of (fed f))) (next u (event_of (fed f))) (twin t f z u x w.right e o w.right_open r.0 p.0 p.1) r.1)

closing : (t : Terms) (f : Feed) (fs : List Feed) (ts : List Take) (s u : PlainList) → Legal t s (events (map got ts ++ shut ∷ fed f ∷ map fed fs))
    → Legal t u (events (shut ∷ fed f ∷ map fed fs))
closing t f fs ts s u k =
    let z : PlainList = run s (events (map got ts)) in
    let r = legal_back t s (map got ts) (shut ∷ fed f ∷ map fed fs) k in
    (tt, all_closed t (f ∷ fs) (next z closed) (next u closed) refl refl r.1)

owns : (t : Terms) (after : Bool) (fs : List Feed) (us : List (List Take)) (s u : PlainList) → AllFit t.capacity fs → Twin after s u → Legal t s (events (deal us fs)) → Legal t u (events (own_from after u fs))
owns t after [] us s u fits w h = tt
owns t after (f ∷ fs) us s u fits w h =
    let fit = fits_head t.capacity f fs fits in
    elim (kind f) as (λ b. kind f ≡ b
    → Legal t s (events (by_kind b (fed f ∷ deal us fs) (map got (first_turn us) ++ fed f ∷ deal (later_turns us) fs) (map got (reads_of us) ++ shut ∷ fed f ∷ map fed fs)))
    → Legal t u (events (by_kind b (fed f ∷ own_from after (next u (event_of (fed f))) fs) (own_storing after u f fs) (shut ∷ map fed (f ∷ fs))))) [
      | plain ↦ λ is k. let p = plain_step t after s u f is w k.0 in (
        p.0,
        owns t after fs us (next s (event_of (fed f))) (next u (event_of (fed f))) fit.1 (record {
          left = within_next s (event_of (fed f)) w.left;
          right = within_next u (event_of (fed f)) w.right;
          same = stored_state t s u f w.left w.right w.same k.0 p.0;
          idle = p.2;
          holds = p.1;
          left_open = fed_open s f ∙ w.left_open;
          right_open = fed_open u f ∙ w.right_open;
        }) k.1,
      )
      | stores ↦ λ is k. storing t after f fs us s u fit.0 (λ z v. owns t true fs (later_turns us) z v fit.1) w is k
      | finds_closed ↦ λ is k. closing t f fs (reads_of us) s u k
    ] refl h

pub own_legal : (t : Terms) (fs : List Feed) (ts : List Take) → AllFit t.capacity fs → Legal t empty (events (merge fs ts)) → Legal t empty (events (own fs))
own_legal t fs ts fits h = owns t false fs (turns_of ts) empty empty fits (record { left = omega arith; right = omega arith; same = refl; idle = λ _. refl; holds = refl; left_open = refl; right_open = refl }) h

pub feeds_in-own : (after : Bool) (s : PlainList) (fs : List Feed) → feeds_in (own_from after s fs) ≡ fs
feeds_in-own after s [] = refl
feeds_in-own true s (f ∷ fs) = elim (kind f) as (λ b. feeds_in (by_kind b (fed f ∷ own_from true (next s (event_of (fed f))) fs) (own_storing true s f fs) (shut ∷ map fed (f ∷ fs))) ≡ f ∷ fs) [
  | plain ↦ ap (λ (l : List Feed). f ∷ l) (feeds_in-own true (next s (event_of (fed f))) fs)
  | stores ↦ ap (λ (l : List Feed). f ∷ l) (feeds_in-own true (next (next s (event_of (reads_hold s))) (event_of (fed f))) fs)
  | finds_closed ↦ feeds_fed (f ∷ fs)
]
feeds_in-own false s (f ∷ fs) = elim (kind f) as (λ b. feeds_in (by_kind b (fed f ∷ own_from false (next s (event_of (fed f))) fs) (own_storing false s f fs) (shut ∷ map fed (f ∷ fs))) ≡ f ∷ fs) [
  | plain ↦ ap (λ (l : List Feed). f ∷ l) (feeds_in-own false (next s (event_of (fed f))) fs)
  | stores ↦ ap (λ (l : List Feed). f ∷ l) (feeds_in-own true (next s (event_of (fed f))) fs)
  | finds_closed ↦ feeds_fed (f ∷ fs)
]

-- the store of the own run is the one that the calls give
pub own_store : (t : Terms) (fs : List Feed) → Legal t empty (events (own fs)) → stored (run empty (events (own fs))) ≡ store_of fs
own_store t fs legal = stored_run t empty (own fs) (omega arith) legal ∙ ap (λ (l : List Feed). store_from [] l) (feeds_in-own false empty fs)
