-- The reasons of flushes and reads say what their answers do.
use Rattle.std.proofs.Common.{◌≡◌, ℕ, zero, suc, ◌<◌, ◌⊎◌, inl, inr, Bool, true, false, List, [], length, drop, Option, Some, None, nat_lt, ◌==◌, refl, ap, sym, ◌∙◌, arith}
use Rattle.std.proofs.lemmas.Bool.{lt-ltb, ne_eqb}
use Rattle.listener.proofs.Rooms.{room_nil, room_some}
use Rattle.listener.specs.Messages.{room}
use Rattle.listener.specs.PlainList.{Terms, PlainList, IsRight, flushed, read}
use Rattle.tap_steps.specs.Answers.{answered}
use Rattle.tap_text.specs.Laws.{FlushReasonsAgree, ReadReasonsAgree, makes_hold, takes_hold}
use Rattle.tap_text.specs.Reasons.{flush_end, read_end, state_before}
use Rattle.tap_text.specs.declared.reasons.ListenerState.{ListenerState}

-- a flush does nothing where the listener is closed, holds something, or stores nothing
idle-flush : (before : ListenerState) → (before.closed ≡ true) ⊎ (0 < before.in_hold) ⊎ (before.load ≡ 0) → makes_hold (flush_end before) ≡ false
idle-flush before why = by_closed before.closed refl why
  where
    by_hold : (held : Bool) → nat_lt 0 before.in_hold ≡ held → before.closed ≡ false → before.load ≡ 0 → makes_hold (flush_end before) ≡ false
    by_hold true some opened none = rw (opened, some) refl
    by_hold false nothing opened none = rw (opened, nothing, none) refl

    by_closed : (closed : Bool) → before.closed ≡ closed → (before.closed ≡ true) ⊎ (0 < before.in_hold) ⊎ (before.load ≡ 0) → makes_hold (flush_end before) ≡ false
    by_closed true is why = rw is refl
    by_closed false is (inl closed) = let clash : false ≡ true = sym is ∙ closed in absurd cc
    by_closed false is (inr (inl held)) = rw (is, lt-ltb 0 before.in_hold held) refl
    by_closed false is (inr (inr none)) = by_hold (nat_lt 0 before.in_hold) refl is none

-- and else it makes the store the hold
full-flush : (before : ListenerState) → before.closed ≡ false → before.in_hold ≡ 0 → 0 < before.load → makes_hold (flush_end before) ≡ true
full-flush before opened empty some =
    let stored : (before.load == 0) ≡ false = ne_eqb before.load 0 (λ none. omega (arith, some, none)) in
    rw (opened, empty, stored) refl

-- nothing takes no room
room-drop : (n : ℕ) → room (drop n []) ≡ 0
room-drop zero = room_nil
room-drop (suc n) = room_nil

pub flushes-agree : FlushReasonsAgree
flushes-agree t s true held (opened, empty, some) =
    full-flush (state_before (answered s (flushed true)) held t.capacity) opened empty
    (rw empty (room_some s.pending some))
flushes-agree t s false held (inl closed) = idle-flush (state_before (answered s (flushed false)) held t.capacity) (inl closed)
flushes-agree t s false held (inr (inl some)) = idle-flush (state_before (answered s (flushed false)) held t.capacity) (inr (inl some))
flushes-agree t s false held (inr (inr none)) =
    idle-flush (state_before (answered s (flushed false)) held t.capacity) (inr (inr (ap (λ ms. room (drop s.in_hold ms)) none ∙ room-drop s.in_hold)))

-- a read takes nothing where the listener is closed or holds nothing
idle-read : (before : ListenerState) → (before.closed ≡ true) ⊎ (before.in_hold ≡ 0) → takes_hold (read_end before) ≡ false
idle-read before why = by_closed before.closed refl why
  where
    by_closed : (closed : Bool) → before.closed ≡ closed → (before.closed ≡ true) ⊎ (before.in_hold ≡ 0) → takes_hold (read_end before) ≡ false
    by_closed true is why = rw is refl
    by_closed false is (inl closed) = let clash : false ≡ true = sym is ∙ closed in absurd cc
    by_closed false is (inr empty) = rw (is, empty) refl

pub reads-agree : ReadReasonsAgree
reads-agree t s (Some batch) held (opened, some, taken) =
    let full : (s.in_hold == 0) ≡ false = ne_eqb s.in_hold 0 (λ none. omega (arith, some, none)) in
    rw (opened, full) refl
reads-agree t s None held why = idle-read (state_before (answered s (read None)) held t.capacity) why
