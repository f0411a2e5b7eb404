-- Facts on runs of the plain list over histories.
use Rattle.std.proofs.Common.{◌≡◌, ℕ, zero, suc, ◌+◌, ◌<◌, true, false, ◌⊎◌, List, [], ◌∷◌, ◌++◌, map, Some, None, length, drop, refl, sym, ap, ◌∙◌, subst, arith, inl, inr, length-append}
use Rattle.std.proofs.lemmas.List.{drop-append-le, take-append-le, take_all}
use Rattle.std.proofs.lemmas.Grind.{common_steps}
use Rattle.std.proofs.Math.Seq.{take-append_seam}
use Rattle.listener.specs.declared.answer.Fed.TheVariants.{Passed, Stored, Held, Rotated, Dropped, Closed}
use Rattle.listener.specs.declared.mode.Mode.{Mode}
use Rattle.listener.specs.declared.message.Message.{Message}
use Rattle.listener.specs.Messages.{room}
use Rattle.listener.specs.PlainList.{Terms, PlainList, plain, empty, Event, read, stored, IsRight, Legal, StaysStored, IsHandedOver, next, run}
use Rattle.listener.specs.Laws.{HeldIsWithin, hold_of}
use Rattle.listener.proofs.Events.{held_stays, buffers_follow}
use Rattle.listener.proofs.Rooms.{room_nil}
use Rattle.handover.specs.declared.calls.Feed.{Feed}
use Rattle.handover.specs.declared.calls.Feed.TheVariants.{Arrive, Flush, FlushClosed}
use Rattle.handover.specs.declared.calls.Take.{Take}
use Rattle.handover.specs.declared.calls.Take.TheVariants.{Full, Nothing, Ended}
use Rattle.handover.specs.History.{Happening, fed, got, shut, event_of, events, feeds_in, kind, finds_closed}
use Rattle.handover.specs.Own.{store_from}
use Rattle.handover.specs.Allowed.{Quiet, Busy, Loud, handed}

pub run_more : (s : PlainList) (hs gs : List Happening) → run s (events (hs ++ gs)) ≡ run (run s (events hs)) (events gs)
run_more s [] gs = refl
run_more s (h ∷ hs) gs = run_more (next s (event_of h)) hs gs

pub legal_join : (t : Terms) (s : PlainList) (hs gs : List Happening) → Legal t s (events hs) → Legal t (run s (events hs)) (events gs) → Legal t s (events (hs ++ gs))
legal_join t s [] gs p q = q
legal_join t s (h ∷ hs) gs p q = (p.0, legal_join t (next s (event_of h)) hs gs p.1 q)

pub legal_front : (t : Terms) (s : PlainList) (hs gs : List Happening) → Legal t s (events (hs ++ gs)) → Legal t s (events hs)
legal_front t s [] gs p = tt
legal_front t s (h ∷ hs) gs p = (p.0, legal_front t (next s (event_of h)) hs gs p.1)

pub legal_back : (t : Terms) (s : PlainList) (hs gs : List Happening) → Legal t s (events (hs ++ gs)) → Legal t (run s (events hs)) (events gs)
legal_back t s [] gs p = p
legal_back t s (h ∷ hs) gs p = legal_back t (next s (event_of h)) hs gs p.1

pub within_next : (s : PlainList) (e : Event) → HeldIsWithin s → HeldIsWithin (next s e)
within_next s e w = held_stays s (e ∷ []) w

pub within_run : (hs : List Happening) → HeldIsWithin (run empty (events hs))
within_run hs = held_stays empty (events hs) (omega arith)

-- the feeder's calls determine the store
stored_next : (t : Terms) (s : PlainList) (h : Happening) (hs : List Happening) → HeldIsWithin s → IsRight t s (event_of h)
    → store_from (stored (next s (event_of h))) (feeds_in hs) ≡ store_from (stored s) (feeds_in (h ∷ hs))
stored_next t s (fed f) hs w is_right = ap (λ (l : List Message). store_from l (feeds_in hs)) (buffers_follow t s (event_of (fed f)) w is_right).store
stored_next t s (got (Full b)) hs w is_right = ap (λ (l : List Message). store_from l (feeds_in hs)) (buffers_follow t s (read (Some b)) w is_right).store
stored_next t s (got Nothing) hs w is_right = refl
stored_next t s (got Ended) hs w is_right = refl
stored_next t s shut hs w is_right = refl

pub stored_run : (t : Terms) (s : PlainList) (hs : List Happening) → HeldIsWithin s → Legal t s (events hs) → stored (run s (events hs)) ≡ store_from (stored s) (feeds_in hs)
stored_run t s [] w legal = refl
stored_run t s (h ∷ hs) w legal = stored_run t (next s (event_of h)) hs (within_next s (event_of h) w) legal.1 ∙ stored_next t s h hs w legal.0

-- a list that is open was open before
open_next : (s : PlainList) (e : Event) → (next s e).closed ≡ false → s.closed ≡ false
open_next s e o = grind (arith, common_steps)

pub open_run : (s : PlainList) (hs : List Happening) → (run s (events hs)).closed ≡ false → s.closed ≡ false
open_run s [] o = o
open_run s (h ∷ hs) o = open_next s (event_of h) (open_run (next s (event_of h)) hs o)

-- a feeder's call and a read leave it open
pub fed_open : (s : PlainList) (f : Feed) → (next s (event_of (fed f))).closed ≡ s.closed
fed_open s f = grind (arith, common_steps)

pub got_open : (s : PlainList) (t : Take) → (next s (event_of (got t))).closed ≡ s.closed
got_open s (Full b) = refl
got_open s Nothing = refl
got_open s Ended = refl

-- ---- Calls that the store alone decides

flush_right : (ms : List Message) (h : ℕ) → drop h ms ≡ [] → (0 < h) ⊎ (ms ≡ [])
flush_right ms zero e = inr e
flush_right ms (suc h) e = inl (omega arith)

pub quiet_right : (t : Terms) (s : PlainList) (f : Feed) → s.closed ≡ false → Quiet t (stored s) f → IsRight t s (event_of (fed f))
quiet_right t s (Arrive None Passed) o q = o
quiet_right t s (Arrive (Some m) Stored) o q = (o, q.1, subst (λ (x : Mode). StaysStored x s) (sym q.0) tt)
quiet_right t s (Flush false) o q = inr (flush_right s.pending s.in_hold q)
quiet_right t s (Arrive None Stored) o q = absurd q
quiet_right t s (Arrive None Held) o q = absurd q
quiet_right t s (Arrive None Rotated) o q = absurd q
quiet_right t s (Arrive None Dropped) o q = absurd q
quiet_right t s (Arrive None Closed) o q = absurd q
quiet_right t s (Arrive (Some m) Passed) o q = absurd q
quiet_right t s (Arrive (Some m) Held) o q = absurd q
quiet_right t s (Arrive (Some m) Rotated) o q = absurd q
quiet_right t s (Arrive (Some m) Dropped) o q = absurd q
quiet_right t s (Arrive (Some m) Closed) o q = absurd q
quiet_right t s (Flush true) o q = absurd q
quiet_right t s FlushClosed o q = absurd q

-- a read, and the call that may stand before it
pub record Swaps (t : Terms) (s : PlainList) (r : Take) (f : Feed) : Type 0 where
  pub is_right : IsRight t (next s (event_of (fed f))) (event_of (got r))
  pub same : next (next s (event_of (fed f))) (event_of (got r)) ≡ next (next s (event_of (got r))) (event_of (fed f))
  pub quiet : Quiet t (stored (next s (event_of (got r)))) f

swap_one : (t : Terms) (s : PlainList) (r : Take) (f : Feed) → HeldIsWithin s → Quiet t (stored s) f → IsRight t s (event_of (got r)) → Swaps t s r f
swap_one t s (Full b) (Arrive (Some m) Stored) w q h = record {
  is_right = (h.0, h.1, h.2 ∙ sym (take-append-le s.in_hold s.pending (m ∷ []) w));
  same = λ i. plain (drop-append-le s.in_hold s.pending (m ∷ []) w i) 0 (s.received + 1) (s.matched + 1) s.dropped s.closed;
  quiet = q;
}
swap_one t s Nothing (Arrive (Some m) Stored) w q h = record { is_right = h; same = refl; quiet = q }
swap_one t s Ended (Arrive (Some m) Stored) w q h = record { is_right = h; same = refl; quiet = q }
swap_one t s (Full b) (Arrive None Passed) w q h = record { is_right = h; same = refl; quiet = q }
swap_one t s Nothing (Arrive None Passed) w q h = record { is_right = h; same = refl; quiet = q }
swap_one t s Ended (Arrive None Passed) w q h = record { is_right = h; same = refl; quiet = q }
swap_one t s (Full b) (Flush false) w q h = record { is_right = h; same = refl; quiet = q }
swap_one t s Nothing (Flush false) w q h = record { is_right = h; same = refl; quiet = q }
swap_one t s Ended (Flush false) w q h = record { is_right = h; same = refl; quiet = q }
swap_one t s r (Arrive None Stored) w q h = absurd q
swap_one t s r (Arrive None Held) w q h = absurd q
swap_one t s r (Arrive None Rotated) w q h = absurd q
swap_one t s r (Arrive None Dropped) w q h = absurd q
swap_one t s r (Arrive None Closed) w q h = absurd q
swap_one t s r (Arrive (Some m) Passed) w q h = absurd q
swap_one t s r (Arrive (Some m) Held) w q h = absurd q
swap_one t s r (Arrive (Some m) Rotated) w q h = absurd q
swap_one t s r (Arrive (Some m) Dropped) w q h = absurd q
swap_one t s r (Arrive (Some m) Closed) w q h = absurd q
swap_one t s r (Flush true) w q h = absurd q
swap_one t s r FlushClosed w q h = absurd q

pub swap_all : (t : Terms) (s : PlainList) (rs : List Take) (f : Feed) → HeldIsWithin s → Quiet t (stored s) f → Legal t s (events (map got rs))
    → Legal t (next s (event_of (fed f))) (events (map got rs)) × (run (next s (event_of (fed f))) (events (map got rs)) ≡ next (run s (events (map got rs))) (event_of (fed f)))
swap_all t s [] f w q h = (tt, refl)
swap_all t s (r ∷ rs) f w q h =
    let o = swap_one t s r f w q h.0 in
    let more = swap_all t (next s (event_of (got r))) rs f (within_next s (event_of (got r)) w) o.quiet h.1 in
    ((o.is_right, subst (λ (u : PlainList). Legal t u (events (map got rs))) (sym o.same) more.0), ap (λ (u : PlainList). run u (events (map got rs))) o.same ∙ more.1)

-- a call leaves the hold as it is
pub record Keeps (s u : PlainList) : Type 0 where
  pub in_hold : s.in_hold ≡ u.in_hold
  pub hold : hold_of s ≡ hold_of u

pub quiet_state : (t : Terms) (s : PlainList) (f : Feed) → HeldIsWithin s → Quiet t (stored s) f → Keeps s (next s (event_of (fed f)))
quiet_state t s (Arrive None Passed) w q = record { in_hold = refl; hold = refl }
quiet_state t s (Arrive (Some m) Stored) w q = record { in_hold = refl; hold = sym (take-append-le s.in_hold s.pending (m ∷ []) w) }
quiet_state t s (Flush false) w q = record { in_hold = refl; hold = refl }
quiet_state t s (Arrive None Stored) w q = absurd q
quiet_state t s (Arrive None Held) w q = absurd q
quiet_state t s (Arrive None Rotated) w q = absurd q
quiet_state t s (Arrive None Dropped) w q = absurd q
quiet_state t s (Arrive None Closed) w q = absurd q
quiet_state t s (Arrive (Some m) Passed) w q = absurd q
quiet_state t s (Arrive (Some m) Held) w q = absurd q
quiet_state t s (Arrive (Some m) Rotated) w q = absurd q
quiet_state t s (Arrive (Some m) Dropped) w q = absurd q
quiet_state t s (Arrive (Some m) Closed) w q = absurd q
quiet_state t s (Flush true) w q = absurd q
quiet_state t s FlushClosed w q = absurd q

-- ---- Calls that found the hold full

pub busy_state : (t : Terms) (s : PlainList) (f : Feed) → s.closed ≡ false → HeldIsWithin s → 0 < s.in_hold → Busy t (stored s) f
    → IsRight t s (event_of (fed f)) × Keeps s (next s (event_of (fed f)))
busy_state t s (Arrive (Some m) Stored) o w h q = ((o, q.1, subst (λ (x : Mode). StaysStored x s) (sym q.0) h), record { in_hold = refl; hold = sym (take-append-le s.in_hold s.pending (m ∷ []) w) })
busy_state t s (Arrive (Some m) Dropped) o w h q = ((o, q, h), record { in_hold = refl; hold = refl })
busy_state t s (Flush false) o w h q = (inr (inl h), record { in_hold = refl; hold = refl })
busy_state t s (Arrive None Passed) o w h q = absurd q
busy_state t s (Arrive None Stored) o w h q = absurd q
busy_state t s (Arrive None Held) o w h q = absurd q
busy_state t s (Arrive None Rotated) o w h q = absurd q
busy_state t s (Arrive None Dropped) o w h q = absurd q
busy_state t s (Arrive None Closed) o w h q = absurd q
busy_state t s (Arrive (Some m) Passed) o w h q = absurd q
busy_state t s (Arrive (Some m) Held) o w h q = absurd q
busy_state t s (Arrive (Some m) Rotated) o w h q = absurd q
busy_state t s (Arrive (Some m) Closed) o w h q = absurd q
busy_state t s (Flush true) o w h q = absurd q
busy_state t s FlushClosed o w h q = absurd q

-- ---- Calls that make the store the hold

drop_none : (s : PlainList) → s.in_hold ≡ 0 → stored s ≡ s.pending
drop_none s e = ap (λ (n : ℕ). drop n s.pending) e

pub full_list : (ms : List Message) → 0 < room ms → 0 < length ms
full_list [] r = absurd (omega (arith, room_nil))
full_list (m ∷ ms) r = omega arith

pub loud_state : (t : Terms) (s : PlainList) (f : Feed) → s.closed ≡ false → s.in_hold ≡ 0 → Loud t (stored s) f
    → IsRight t s (event_of (fed f)) × (0 < (next s (event_of (fed f))).in_hold) × (handed (stored s) f ≡ hold_of (next s (event_of (fed f))))
loud_state t s (Arrive (Some m) Held) o z q = (
  (o, q.1, subst (λ (x : Mode). IsHandedOver x s) (sym q.0) z),
  omega (arith, length-append s.pending (m ∷ [])),
  ap (λ (l : List Message). l ++ m ∷ []) (drop_none s z) ∙ sym (take_all (length (s.pending ++ m ∷ [])) (s.pending ++ m ∷ []) (omega arith)),
)
loud_state t s (Arrive (Some m) Rotated) o z q =
    let same : room (stored s) ≡ room s.pending = ap room (drop_none s z) in
    ((o, q.1, z), full_list s.pending (omega (arith, q.0, q.1, same)), drop_none s z ∙ sym (take-append_seam s.pending (m ∷ [])))
loud_state t s (Flush true) o z q =
    let some : 0 < length s.pending = omega (arith, ap length (drop_none s z), q) in
    ((o, z, some), some, drop_none s z ∙ sym (take_all (length s.pending) s.pending (omega arith)))
loud_state t s (Arrive None Passed) o z q = absurd q
loud_state t s (Arrive None Stored) o z q = absurd q
loud_state t s (Arrive None Held) o z q = absurd q
loud_state t s (Arrive None Rotated) o z q = absurd q
loud_state t s (Arrive None Dropped) o z q = absurd q
loud_state t s (Arrive None Closed) o z q = absurd q
loud_state t s (Arrive (Some m) Passed) o z q = absurd q
loud_state t s (Arrive (Some m) Stored) o z q = absurd q
loud_state t s (Arrive (Some m) Dropped) o z q = absurd q
loud_state t s (Arrive (Some m) Closed) o z q = absurd q
loud_state t s (Flush false) o z q = absurd q
loud_state t s FlushClosed o z q = absurd q

-- ---- Calls that found the pair closed

pub late_state : (t : Terms) (s : PlainList) (f : Feed) → kind f ≡ finds_closed → s.closed ≡ true → IsRight t s (event_of (fed f)) × (next s (event_of (fed f)) ≡ s)
late_state t s (Arrive None Closed) k c = (c, refl)
late_state t s (Arrive (Some m) Closed) k c = (c, refl)
late_state t s FlushClosed k c = (inl c, refl)
late_state t s (Arrive None Passed) k c = absurd (cc)
late_state t s (Arrive None Stored) k c = absurd (cc)
late_state t s (Arrive None Held) k c = absurd (cc)
late_state t s (Arrive None Rotated) k c = absurd (cc)
late_state t s (Arrive None Dropped) k c = absurd (cc)
late_state t s (Arrive (Some m) Passed) k c = absurd (cc)
late_state t s (Arrive (Some m) Stored) k c = absurd (cc)
late_state t s (Arrive (Some m) Held) k c = absurd (cc)
late_state t s (Arrive (Some m) Rotated) k c = absurd (cc)
late_state t s (Arrive (Some m) Dropped) k c = absurd (cc)
late_state t s (Flush true) k c = absurd (cc)
late_state t s (Flush false) k c = absurd (cc)
