-- What was read in a run and what pends is what looking back keeps.
use Rattle.std.proofs.Common.{◌≡◌, ℕ, ◌+◌, ◌<◌, ◌≤◌, Bool, true, false, not, ◌&&◌, ◌||◌, List, [], ◌∷◌, ◌++◌, Some, None, length, drop, refl, ap, sym, ◌∙◌, arith, lt-ltb, length-append, nat_lt, cond, inl, inr}
use Rattle.std.proofs.Common.{append_assoc, append-nil}
use Rattle.std.proofs.lemmas.List.{drop-append-le, take-append-drop}
use Rattle.std.proofs.lemmas.Bool.{le-ltb, false≢true}
use Rattle.std.proofs.Math.Seq.{drop-append_seam, drop-length}
use Rattle.listener.specs.declared.message.Message.{Message}
use Rattle.listener.specs.declared.answer.Fed.{Fed}
use Rattle.listener.specs.declared.answer.Fed.TheVariants.{Passed, Stored, Held, Rotated, Dropped, Closed}
use Rattle.listener.specs.declared.mode.Mode.{Mode}
use Rattle.listener.specs.declared.mode.Mode.TheVariants.{Buffered, Immediate}
use Rattle.listener.specs.Messages.{size_of, room}
use Rattle.listener.specs.PlainList as P
use Rattle.listener.specs.PlainList.{Terms, PlainList, plain, Event, arrived, flushed, read, closed, StaysStored, IsHandedOver, IsRight, Legal, next, run, empty, batch_in, batches, Request, Arrive, Flush, Read, Close, requests, request_of}
use Rattle.listener.specs.LookingBack.{before_close, is_immediate, is_over, drops, hands, makes_hold, size_at, is_read, load, hold_is_full, is_drop, kept_from, drops_from, count, is_arrival, is_accepted, kept, dropped, received, matched}
use Rattle.listener.specs.Laws.{joined, AllFitIn, RunsAreKept}
use Rattle.listener.proofs.Rooms.{room_nil, room_push, room_some, room_nonempty}

-- ---- The load and the hold, one step later

load_more : (t : Terms) (step : Request) (before : List Request) → load t (step ∷ before) ≡
    cond (makes_hold t (load t before) (hold_is_full t before) step) 0 (load t before)
    + cond (drops t (load t before) (hold_is_full t before) step || hands t (load t before) (hold_is_full t before) step) 0 (size_at step)
unfolding load hold_is_full
load_more t step before = refl

held_more : (t : Terms) (step : Request) (before : List Request) → hold_is_full t (step ∷ before) ≡
    (makes_hold t (load t before) (hold_is_full t before) step || (not (is_read step) && hold_is_full t before))
unfolding load hold_is_full
held_more t step before = refl

-- A state of the run, and the steps that led to it, the latest first.
record Seen (t : Terms) (s : PlainList) (before : List Request) : Type 0 where
  opened : s.closed ≡ false
  within : s.in_hold ≤ length s.pending
  load_is : P.load s ≡ load t before
  held_is : nat_lt 0 s.in_hold ≡ hold_is_full t before

-- What an accepted arrival does, by whether it is over the capacity, whether the hold is full, and the mode.
load_arrival : (t : Terms) (m : Message) (before : List Request) (over full at_once : Bool) →
    is_over t (load t before) m ≡ over → hold_is_full t before ≡ full → is_immediate t.mode ≡ at_once →
    load t (Arrive (Some m) ∷ before) ≡
    cond ((over && not full) || (at_once && (not over && not full))) 0 (load t before)
    + cond ((over && full) || (at_once && (not over && not full))) 0 (size_of m)
load_arrival t m before over full at_once o f a = load_more t (Arrive (Some m)) before ∙
    (λ i. cond ((o i && not (f i)) || (a i && (not (o i) && not (f i)))) 0 (load t before)
    + cond ((o i && f i) || (a i && (not (o i) && not (f i)))) 0 (size_of m))

held_arrival : (t : Terms) (m : Message) (before : List Request) (over full at_once : Bool) →
    is_over t (load t before) m ≡ over → hold_is_full t before ≡ full → is_immediate t.mode ≡ at_once →
    hold_is_full t (Arrive (Some m) ∷ before) ≡ (((over && not full) || (at_once && (not over && not full))) || full)
held_arrival t m before over full at_once o f a = held_more t (Arrive (Some m)) before ∙
    (λ i. ((o i && not (f i)) || (a i && (not (o i) && not (f i)))) || f i)

load_flush : (t : Terms) (before : List Request) (some full : Bool) → nat_lt 0 (load t before) ≡ some → hold_is_full t before ≡ full →
    load t (Flush ∷ before) ≡ cond ((some && not full) || false) 0 (load t before) + 0
load_flush t before some full o f = load_more t Flush before ∙ (λ i. cond ((o i && not (f i)) || false) 0 (load t before) + 0)

held_flush : (t : Terms) (before : List Request) (some full : Bool) → nat_lt 0 (load t before) ≡ some → hold_is_full t before ≡ full →
    hold_is_full t (Flush ∷ before) ≡ (((some && not full) || false) || full)
held_flush t before some full o f = held_more t Flush before ∙ (λ i. ((o i && not (f i)) || false) || f i)

-- whether an arrival is over the capacity, as the list sees it
over_is : (t : Terms) (s : PlainList) (before : List Request) (m : Message) (over : Bool) → Seen t s before →
    is_over t (P.load s) m ≡ over → is_over t (load t before) m ≡ over
over_is t s before m over seen h = ap (λ (n : ℕ). is_over t n m) (sym seen.load_is) ∙ h

stays_by : (mode : Mode) (s : PlainList) (full : Bool) → nat_lt 0 s.in_hold ≡ full → StaysStored mode s → (is_immediate mode && not full) ≡ false
stays_by Buffered s full e stored = refl
stays_by Immediate s full e stored = ap not (sym e ∙ lt-ltb _ _ stored)

-- a message that stays in the store: the list is Buffered, or the hold is full
stays : (t : Terms) (s : PlainList) (before : List Request) → Seen t s before → StaysStored t.mode s → (is_immediate t.mode && not (hold_is_full t before)) ≡ false
stays t s before seen stored = stays_by t.mode s (hold_is_full t before) seen.held_is stored

-- a message that is handed over: the list is Immediate, and the hold is empty
handed : (mode : Mode) (s : PlainList) → IsHandedOver mode s → (is_immediate mode ≡ true) × (s.in_hold ≡ 0)
handed Buffered s h = absurd h
handed Immediate s h = (refl, h)

same_load : (some : Bool) (n : ℕ) → cond ((some && not true) || false) 0 n + 0 ≡ n
same_load true n = omega arith
same_load false n = omega arith

always : (some : Bool) → (((some && not true) || false) || true) ≡ true
always true = refl
always false = refl

-- what a message that stays in the store adds
adds : (full at_once : Bool) (n size : ℕ) → (at_once && not full) ≡ false →
    cond ((false && not full) || (at_once && (not false && not full))) 0 n + cond ((false && full) || (at_once && (not false && not full))) 0 size ≡ n + size
adds full at_once n size h = λ i. cond (h i) 0 n + cond (h i) 0 size

keeps_full : (full at_once : Bool) → (at_once && not full) ≡ false → (((false && not full) || (at_once && (not false && not full))) || full) ≡ full
keeps_full full at_once h = λ i. h i || full

-- what a drop leaves
dropped_load : (at_once : Bool) (n size : ℕ) →
    cond ((true && not true) || (at_once && (not true && not true))) 0 n + cond ((true && true) || (at_once && (not true && not true))) 0 size ≡ n
dropped_load true n size = omega arith
dropped_load false n size = omega arith

dropped_held : (at_once : Bool) → (((true && not true) || (at_once && (not true && not true))) || true) ≡ true
dropped_held true = refl
dropped_held false = refl

-- what a rotation leaves
rotated_load : (at_once : Bool) (n size : ℕ) →
    cond ((true && not false) || (at_once && (not true && not false))) 0 n + cond ((true && false) || (at_once && (not true && not false))) 0 size ≡ 0 + size
rotated_load true n size = refl
rotated_load false n size = refl

plus_zero : (n : ℕ) → n + 0 ≡ n
plus_zero n = omega arith

module _ (t : Terms) (s : PlainList) (before : List Request) (seen : Seen t s before) where
  seen_passed : Seen t (next s (arrived None Passed)) (Arrive None ∷ before)
  seen_passed = record {
    opened = seen.opened;
    within = seen.within;
    load_is = seen.load_is ∙ sym (load_more t (Arrive None) before ∙ plus_zero (load t before));
    held_is = seen.held_is ∙ sym (held_more t (Arrive None) before);
  }

  seen_stored : (m : Message) → P.load s + size_of m ≤ t.capacity → StaysStored t.mode s → Seen t (next s (arrived (Some m) Stored)) (Arrive (Some m) ∷ before)
  seen_stored m fits waits =
      let o : is_over t (load t before) m ≡ false = over_is t s before m false seen (le-ltb _ _ fits) in
      let w = stays t s before seen waits in
      record {
        opened = seen.opened;
        within = omega (arith, length-append s.pending (m ∷ []), seen.within);
        load_is = ap room (drop-append-le s.in_hold s.pending (m ∷ []) seen.within) ∙ room_push (drop s.in_hold s.pending) m
            ∙ ap (λ (n : ℕ). n + size_of m) seen.load_is
            ∙ sym (load_arrival t m before false (hold_is_full t before) (is_immediate t.mode) o refl refl ∙ adds (hold_is_full t before) (is_immediate t.mode) (load t before) (size_of m) w);
        held_is = seen.held_is ∙ sym (held_arrival t m before false (hold_is_full t before) (is_immediate t.mode) o refl refl ∙ keeps_full (hold_is_full t before) (is_immediate t.mode) w);
      }

  seen_handed : (m : Message) → P.load s + size_of m ≤ t.capacity → IsHandedOver t.mode s → Seen t (next s (arrived (Some m) Held)) (Arrive (Some m) ∷ before)
  seen_handed m fits over =
      let o : is_over t (load t before) m ≡ false = over_is t s before m false seen (le-ltb _ _ fits) in
      let h = handed t.mode s over in
      let f : hold_is_full t before ≡ false = sym seen.held_is ∙ ap (nat_lt 0) h.1 in
      let some : 0 < length (s.pending ++ m ∷ []) = omega (arith, length-append s.pending (m ∷ [])) in
      record {
        opened = seen.opened;
        within = omega arith;
        load_is = ap room (drop-length (s.pending ++ m ∷ [])) ∙ room_nil ∙ sym (load_arrival t m before false false true o f h.0);
        held_is = lt-ltb _ _ some ∙ sym (held_arrival t m before false false true o f h.0);
      }

  seen_dropped : (m : Message) → t.capacity < P.load s + size_of m → 0 < s.in_hold → Seen t (next s (arrived (Some m) Dropped)) (Arrive (Some m) ∷ before)
  seen_dropped m over full =
      let o : is_over t (load t before) m ≡ true = over_is t s before m true seen (lt-ltb _ _ over) in
      let f : hold_is_full t before ≡ true = sym seen.held_is ∙ lt-ltb _ _ full in
      record {
        opened = seen.opened;
        within = seen.within;
        load_is = seen.load_is ∙ sym (load_arrival t m before true true (is_immediate t.mode) o f refl ∙ dropped_load (is_immediate t.mode) (load t before) (size_of m));
        held_is = lt-ltb _ _ full ∙ sym (held_arrival t m before true true (is_immediate t.mode) o f refl ∙ dropped_held (is_immediate t.mode));
      }

  seen_rotated : (m : Message) → t.capacity < P.load s + size_of m → s.in_hold ≡ 0 → size_of m ≤ t.capacity → Seen t (next s (arrived (Some m) Rotated)) (Arrive (Some m) ∷ before)
  seen_rotated m over none fits =
      let o : is_over t (load t before) m ≡ true = over_is t s before m true seen (lt-ltb _ _ over) in
      let f : hold_is_full t before ≡ false = sym seen.held_is ∙ ap (nat_lt 0) none in
      let l : P.load s ≡ room s.pending = ap (λ (n : ℕ). room (drop n s.pending)) none in
      let some : 0 < length s.pending = room_nonempty s.pending (omega (arith, l, over, fits)) in
      record {
        opened = seen.opened;
        within = omega (arith, length-append s.pending (m ∷ []));
        load_is = ap room (drop-append_seam s.pending (m ∷ [])) ∙ room_push [] m ∙ ap (λ (n : ℕ). n + size_of m) room_nil
            ∙ sym (load_arrival t m before true false (is_immediate t.mode) o f refl ∙ rotated_load (is_immediate t.mode) (load t before) (size_of m));
        held_is = lt-ltb _ _ some ∙ sym (held_arrival t m before true false (is_immediate t.mode) o f refl);
      }

  seen_flushed : s.in_hold ≡ 0 → 0 < length s.pending → Seen t (next s (flushed true)) (Flush ∷ before)
  seen_flushed none some =
      let f : hold_is_full t before ≡ false = sym seen.held_is ∙ ap (nat_lt 0) none in
      let l : P.load s ≡ room s.pending = ap (λ (n : ℕ). room (drop n s.pending)) none in
      let o : nat_lt 0 (load t before) ≡ true = ap (nat_lt 0) (sym seen.load_is ∙ l) ∙ lt-ltb _ _ (room_some s.pending some) in
      record {
        opened = seen.opened;
        within = omega arith;
        load_is = ap room (drop-length s.pending) ∙ room_nil ∙ sym (load_flush t before true false o f);
        held_is = lt-ltb _ _ some ∙ sym (held_flush t before true false o f);
      }

  -- a flush that finds the hold full
  seen_waits : 0 < s.in_hold → Seen t s (Flush ∷ before)
  seen_waits full =
      let f : hold_is_full t before ≡ true = sym seen.held_is ∙ lt-ltb _ _ full in
      let some : Bool = nat_lt 0 (load t before) in
      record {
        opened = seen.opened;
        within = seen.within;
        load_is = seen.load_is ∙ sym (load_flush t before some true refl f ∙ same_load some (load t before));
        held_is = lt-ltb _ _ full ∙ sym (held_flush t before some true refl f ∙ always some);
      }

  -- a flush that finds nothing
  seen_idle : s.pending ≡ [] → Seen t s (Flush ∷ before)
  seen_idle none =
      let zero_held : s.in_hold ≡ 0 = omega (arith, seen.within, ap length none) in
      let f : hold_is_full t before ≡ false = sym seen.held_is ∙ ap (nat_lt 0) zero_held in
      let l : P.load s ≡ 0 = (λ i. room (drop (zero_held i) (none i))) ∙ room_nil in
      let o : nat_lt 0 (load t before) ≡ false = ap (nat_lt 0) (sym seen.load_is ∙ l) in
      record {
        opened = seen.opened;
        within = seen.within;
        load_is = seen.load_is ∙ sym (load_flush t before false false o f ∙ plus_zero (load t before));
        held_is = ap (nat_lt 0) zero_held ∙ sym (held_flush t before false false o f);
      }

  seen_read : Seen t (plain (drop s.in_hold s.pending) 0 s.received s.matched s.dropped s.closed) (Read ∷ before)
  seen_read = record {
    opened = seen.opened;
    within = omega arith;
    load_is = seen.load_is ∙ sym (load_more t Read before ∙ plus_zero (load t before));
    held_is = sym (held_more t Read before);
  }

  seen_nothing : s.in_hold ≡ 0 → Seen t s (Read ∷ before)
  seen_nothing none = record {
    opened = seen.opened;
    within = seen.within;
    load_is = seen.load_is ∙ sym (load_more t Read before ∙ plus_zero (load t before));
    held_is = ap (nat_lt 0) none ∙ sym (held_more t Read before);
  }

-- ---- After Close nothing changes

closed_next : (t : Terms) (s : PlainList) (e : Event) → s.closed ≡ true → IsRight t s e → (batch_in e ≡ []) × (next s e ≡ s)
closed_next t s (arrived None Passed) is is_right = absurd (false≢true (sym is_right ∙ is))
closed_next t s (arrived None Closed) is is_right = (refl, refl)
closed_next t s (arrived None Stored) is is_right = absurd is_right
closed_next t s (arrived None Held) is is_right = absurd is_right
closed_next t s (arrived None Rotated) is is_right = absurd is_right
closed_next t s (arrived None Dropped) is is_right = absurd is_right
closed_next t s (arrived (Some m) Passed) is is_right = absurd is_right
closed_next t s (arrived (Some m) Closed) is is_right = (refl, refl)
closed_next t s (arrived (Some m) Stored) is is_right = absurd (false≢true (sym is_right.0 ∙ is))
closed_next t s (arrived (Some m) Held) is is_right = absurd (false≢true (sym is_right.0 ∙ is))
closed_next t s (arrived (Some m) Rotated) is is_right = absurd (false≢true (sym is_right.0 ∙ is))
closed_next t s (arrived (Some m) Dropped) is is_right = absurd (false≢true (sym is_right.0 ∙ is))
closed_next t s (flushed true) is is_right = absurd (false≢true (sym is_right.0 ∙ is))
closed_next t s (flushed false) is is_right = (refl, refl)
closed_next t s (read (Some batch)) is is_right = absurd (false≢true (sym is_right.0 ∙ is))
closed_next t s (read None) is is_right = (refl, refl)
closed_next t s closed is is_right = (refl, ap (λ (c : Bool). plain s.pending s.in_hold s.received s.matched s.dropped c) (sym is))

closed_run : (t : Terms) (s : PlainList) (es : List Event) → s.closed ≡ true → Legal t s es → (batches es ≡ []) × (run s es ≡ s)
closed_run t s [] is legal = (refl, refl)
closed_run t s (e ∷ es) is legal =
    let n = closed_next t s e is legal.0 in
    let r = closed_run t (next s e) es (ap (λ (u : PlainList). u.closed) n.1 ∙ is) legal.1 in
    ((λ i. n.0 i ++ r.0 i), r.1 ∙ n.1)

-- ---- The whole run

-- what the rest of a run shows, from a state that these steps led to
record Tells (t : Terms) (s : PlainList) (before : List Request) (es : List Event) : Type 0 where
  whole : joined (batches es) ++ (run s es).pending ≡ s.pending ++ kept_from t before (before_close (requests es))
  all_received : (run s es).received ≡ s.received + count is_arrival (before_close (requests es))
  all_matched : (run s es).matched ≡ s.matched + count is_accepted (before_close (requests es))
  all_dropped : (run s es).dropped ≡ s.dropped + drops_from t before (before_close (requests es))

-- a closed listener's run shows what was there
tells_closed : (t : Terms) (s : PlainList) (before : List Request) (es : List Event) → (batches es ≡ []) → run (next s closed) es ≡ next s closed → Tells t s before (closed ∷ es)
tells_closed t s before es none same = record {
  whole = (λ i. joined (none i) ++ (same i).pending) ∙ sym (append-nil s.pending);
  all_received = let e = ap (λ (u : PlainList). u.received) same in omega arith;
  all_matched = let e = ap (λ (u : PlainList). u.matched) same in omega arith;
  all_dropped = let e = ap (λ (u : PlainList). u.dropped) same in omega arith;
}

-- one message more
keeps : (t : Terms) (s : PlainList) (before : List Request) (m : Message) (es : List Event) (u : PlainList) →
    u.pending ≡ s.pending ++ m ∷ [] → u.received ≡ s.received + 1 → u.matched ≡ s.matched + 1 → u.dropped ≡ s.dropped → is_drop t before (Arrive (Some m)) ≡ false →
    Tells t u (Arrive (Some m) ∷ before) es → (fed : Fed) → next s (arrived (Some m) fed) ≡ u → Tells t s before (arrived (Some m) fed ∷ es)
keeps t s before m es u p r a d stays more fed is =
    let later : List Request = before_close (requests es) in
    let k : List Message = kept_from t (Arrive (Some m) ∷ before) later in
    let e : ◌≡◌ {A = ℕ} (cond (is_drop t before (Arrive (Some m))) 1 0) 0 = ap (λ (b : Bool). cond {A = ℕ} b 1 0) stays in
    record {
      whole = ap (λ (v : PlainList). joined (batches es) ++ (run v es).pending) is ∙ more.whole ∙ ap (λ (l : List Message). l ++ k) p ∙ append_assoc s.pending (m ∷ []) k
          ∙ ap (λ b. s.pending ++ (cond b [] (m ∷ []) ++ k)) (sym stays);
      all_received = let f = ap (λ (v : PlainList). (run v es).received) is in omega (arith, more.all_received);
      all_matched = let f = ap (λ (v : PlainList). (run v es).matched) is in omega (arith, more.all_matched);
      all_dropped = let f = ap (λ (v : PlainList). (run v es).dropped) is in omega (arith, more.all_dropped, e);
    }

waits : (t : Terms) (s : PlainList) (before : List Request) → Seen t s before → IsRight t s (flushed false) → Seen t s (Flush ∷ before)
waits t s before seen (inl shut) = absurd (false≢true (sym seen.opened ∙ shut))
waits t s before seen (inr (inl full)) = seen_waits t s before seen full
waits t s before seen (inr (inr none)) = seen_idle t s before seen none

nothing : (t : Terms) (s : PlainList) (before : List Request) → Seen t s before → IsRight t s (read None) → Seen t s (Read ∷ before)
nothing t s before seen (inl shut) = absurd (false≢true (sym seen.opened ∙ shut))
nothing t s before seen (inr none) = seen_nothing t s before seen none

tells : (t : Terms) (s : PlainList) (before : List Request) (es : List Event) → Seen t s before → AllFitIn t.capacity (requests es) → Legal t s es → Tells t s before es
tells t s before [] seen fit legal = record {
  whole = sym (append-nil s.pending);
  all_received = omega arith;
  all_matched = omega arith;
  all_dropped = omega arith;
}
tells t s before (closed ∷ es) seen fit legal =
    let r = closed_run t (next s closed) es refl legal.1 in tells_closed t s before es r.0 r.1
tells t s before (arrived None Passed ∷ es) seen fit legal =
    let u = tells t (next s (arrived None Passed)) (Arrive None ∷ before) es (seen_passed t s before seen) fit.1 legal.1 in
    record { whole = u.whole; all_received = omega (arith, u.all_received); all_matched = omega (arith, u.all_matched); all_dropped = omega (arith, u.all_dropped) }
tells t s before (arrived None Closed ∷ es) seen fit legal = absurd (false≢true (sym seen.opened ∙ legal.0))
tells t s before (arrived None Stored ∷ es) seen fit legal = absurd legal.0
tells t s before (arrived None Held ∷ es) seen fit legal = absurd legal.0
tells t s before (arrived None Rotated ∷ es) seen fit legal = absurd legal.0
tells t s before (arrived None Dropped ∷ es) seen fit legal = absurd legal.0
tells t s before (arrived (Some m) Passed ∷ es) seen fit legal = absurd legal.0
tells t s before (arrived (Some m) Closed ∷ es) seen fit legal = absurd (false≢true (sym seen.opened ∙ legal.0))
tells t s before (arrived (Some m) Stored ∷ es) seen fit legal =
    let step = Arrive (Some m) in
    let u = tells t (next s (arrived (Some m) Stored)) (step ∷ before) es (seen_stored t s before seen m legal.0.1 legal.0.2) fit.1 legal.1 in
    let d : is_drop t before step ≡ false = λ i. over_is t s before m false seen (le-ltb _ _ legal.0.1) i && hold_is_full t before in
    keeps t s before m es (next s (arrived (Some m) Stored)) refl refl refl refl d u Stored refl
tells t s before (arrived (Some m) Held ∷ es) seen fit legal =
    let step = Arrive (Some m) in
    let u = tells t (next s (arrived (Some m) Held)) (step ∷ before) es (seen_handed t s before seen m legal.0.1 legal.0.2) fit.1 legal.1 in
    let d : is_drop t before step ≡ false = λ i. over_is t s before m false seen (le-ltb _ _ legal.0.1) i && hold_is_full t before in
    keeps t s before m es (next s (arrived (Some m) Held)) refl refl refl refl d u Held refl
tells t s before (arrived (Some m) Rotated ∷ es) seen fit legal =
    let step = Arrive (Some m) in
    let u = tells t (next s (arrived (Some m) Rotated)) (step ∷ before) es (seen_rotated t s before seen m legal.0.1 legal.0.2 fit.0) fit.1 legal.1 in
    let d : is_drop t before step ≡ false = λ i. over_is t s before m true seen (lt-ltb _ _ legal.0.1) i && (sym seen.held_is ∙ ap (nat_lt 0) legal.0.2) i in
    keeps t s before m es (next s (arrived (Some m) Rotated)) refl refl refl refl d u Rotated refl
tells t s before (arrived (Some m) Dropped ∷ es) seen fit legal =
    let step = Arrive (Some m) in
    let u = tells t (next s (arrived (Some m) Dropped)) (step ∷ before) es (seen_dropped t s before seen m legal.0.1 legal.0.2) fit.1 legal.1 in
    let d : is_drop t before step ≡ true = λ i. over_is t s before m true seen (lt-ltb _ _ legal.0.1) i && (sym seen.held_is ∙ lt-ltb _ _ legal.0.2) i in
    let e : ◌≡◌ {A = ℕ} (cond (is_drop t before step) 1 0) 1 = ap (λ (b : Bool). cond {A = ℕ} b 1 0) d in
    record {
      whole = u.whole ∙ ap (λ b. s.pending ++ (cond b [] (m ∷ []) ++ kept_from t (step ∷ before) (before_close (requests es)))) (sym d);
      all_received = omega (arith, u.all_received);
      all_matched = omega (arith, u.all_matched);
      all_dropped = omega (arith, u.all_dropped, e);
    }
tells t s before (flushed true ∷ es) seen fit legal =
    let u = tells t (next s (flushed true)) (Flush ∷ before) es (seen_flushed t s before seen legal.0.1 legal.0.2) fit.1 legal.1 in
    record { whole = u.whole; all_received = omega (arith, u.all_received); all_matched = omega (arith, u.all_matched); all_dropped = omega (arith, u.all_dropped) }
tells t s before (flushed false ∷ es) seen fit legal =
    let u = tells t s (Flush ∷ before) es (waits t s before seen legal.0) fit.1 legal.1 in
    record { whole = u.whole; all_received = omega (arith, u.all_received); all_matched = omega (arith, u.all_matched); all_dropped = omega (arith, u.all_dropped) }
tells t s before (read None ∷ es) seen fit legal =
    let u = tells t s (Read ∷ before) es (nothing t s before seen legal.0) fit.1 legal.1 in
    record { whole = u.whole; all_received = omega (arith, u.all_received); all_matched = omega (arith, u.all_matched); all_dropped = omega (arith, u.all_dropped) }
tells t s before (read (Some batch) ∷ es) seen fit legal =
    let u = tells t (next s (read (Some batch))) (Read ∷ before) es (seen_read t s before seen) fit.1 legal.1 in
    let k = kept_from t (Read ∷ before) (before_close (requests es)) in
    record {
      whole = append_assoc batch (joined (batches es)) ((run (next s (read (Some batch))) es).pending)
          ∙ ap (λ (l : List Message). batch ++ l) u.whole ∙ sym (append_assoc batch (drop s.in_hold s.pending) k)
          ∙ ap (λ (l : List Message). (l ++ drop s.in_hold s.pending) ++ k) legal.0.2 ∙ ap (λ (l : List Message). l ++ k) (take-append-drop s.in_hold s.pending);
      all_received = omega (arith, u.all_received);
      all_matched = omega (arith, u.all_matched);
      all_dropped = omega (arith, u.all_dropped);
    }

pub runs_are_kept : RunsAreKept
unfolding load hold_is_full kept dropped received matched
runs_are_kept t es fit legal =
    let u = tells t empty [] es (record { opened = refl; within = omega arith; load_is = room_nil; held_is = refl }) fit legal in
    record { whole = u.whole; all_received = omega (arith, u.all_received); all_matched = omega (arith, u.all_matched); all_dropped = omega (arith, u.all_dropped) }
