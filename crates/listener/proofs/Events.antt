-- What single events do, and runs of them.
use Rattle.std.proofs.Common.{◌≡◌, ℕ, ◌≤◌, true, false, List, [], ◌∷◌, ◌++◌, Some, None, length, drop, refl, ap, sym, subst, ◌∙◌, append_assoc, inl, inr, arith, length-append}
use Rattle.std.proofs.lemmas.Grind.{common_steps}
use Rattle.listener.specs.declared.message.Message.{Message}
use Rattle.listener.specs.declared.answer.Fed.TheVariants.{Passed, Stored, Held, Rotated, Dropped, Closed}
use Rattle.listener.specs.PlainList.{Terms, PlainList, stored, load, Event, arrived, flushed, read, closed, IsRight, Legal, next, batch_in, batches, Request, Arrive, Flush, Read, Close, requests, request_of, answer, answers}
use Rattle.listener.specs.Messages.{room}
use Rattle.listener.specs.Laws.{AnswersAreRight, AnswersAreLegal, ImmediateIsFlushed, RunsAppend, LegalAppends, BatchesAppend, HeldIsWithin, HeldStaysWithin, hold_of, store_after, hold_after, Follows, BuffersFollow, FitsIn, IsWithin, BuffersStayWithin, IsCounted, CountsStayOrdered}
use Rattle.listener.proofs.Rooms.{room_nil, room_push, room_nonempty}

pub answers_right : AnswersAreRight
answers_right t s r = grind (arith, common_steps)

-- ---- Runs

pub runs_append : RunsAppend
runs_append s [] fs = refl
runs_append s (e ∷ es) fs = runs_append (next s e) es fs

pub legal_appends : LegalAppends
legal_appends t s [] fs = ((λ h. (tt, h)), (λ h. h.1))
legal_appends t s (e ∷ es) fs =
    let more = legal_appends t (next s e) es fs in
    ((λ h. let m = more.0 h.1 in ((h.0, m.0), m.1)), (λ h. (h.0.0, more.1 (h.0.1, h.1))))

pub batches_append : BatchesAppend
batches_append [] fs = refl
batches_append (e ∷ es) fs = ap (λ (l : List (List Message)). batch_in e ++ l) (batches_append es fs) ∙ sym (append_assoc (batch_in e) (batches es) (batches fs))

no_requests : (es : List Event) → requests es ≡ [] → es ≡ []
no_requests [] same = refl
no_requests (e ∷ es) same = cc

request_of_answer : (t : Terms) (s : PlainList) (r : Request) → request_of (answer t s r) ≡ r
request_of_answer t s (Arrive m) = refl
request_of_answer t s Flush = refl
request_of_answer t s Read = refl
request_of_answer t s Close = refl

only_answers : (t : Terms) (s : PlainList) (r : Request) (rs : List Request) (es : List Event) → requests es ≡ r ∷ rs → Legal t s es
    → ((e : Event) → request_of e ≡ r → IsRight t s e → e ≡ answer t s r)
    → ((fs : List Event) → requests fs ≡ rs → Legal t (next s (answer t s r)) fs → fs ≡ answers t (next s (answer t s r)) rs)
    → es ≡ answers t s (r ∷ rs)
only_answers t s r rs [] same legal one more = cc
only_answers t s r rs (e ∷ es) same legal one more =
    let first : request_of e ≡ r = cc in
    let later : requests es ≡ rs = cc in
    let is : e ≡ answer t s r = one e first legal.0 in
    let rest = more es later (subst (λ (x : Event). Legal t (next s x) es) is legal.1) in
    λ i. is i ∷ rest i

pub answers_legal : AnswersAreLegal
answers_legal t s [] = (tt, refl, (λ es same legal. no_requests es same))
answers_legal t s (r ∷ rs) =
    let one = answers_right t s r in
    let more = answers_legal t (next s (answer t s r)) rs in
    ((one.0, more.0), (λ i. request_of_answer t s r i ∷ more.1 i), (λ es same legal. only_answers t s r rs es same legal one.1 more.2))

-- ---- What is held

held_next : (s : PlainList) (e : Event) → HeldIsWithin s → HeldIsWithin (next s e)
held_next s (arrived None Passed) h = h
held_next s (arrived None Stored) h = h
held_next s (arrived None Held) h = h
held_next s (arrived None Rotated) h = h
held_next s (arrived None Dropped) h = h
held_next s (arrived None Closed) h = h
held_next s (arrived (Some m) Passed) h = h
held_next s (arrived (Some m) Stored) h = omega (arith, length-append s.pending (m ∷ []))
held_next s (arrived (Some m) Held) h = omega arith
held_next s (arrived (Some m) Rotated) h = omega (arith, length-append s.pending (m ∷ []))
held_next s (arrived (Some m) Dropped) h = h
held_next s (arrived (Some m) Closed) h = h
held_next s (flushed true) h = omega arith
held_next s (flushed false) h = h
held_next s (read None) h = h
held_next s (read (Some batch)) h = omega arith
held_next s closed h = h

pub held_stays : HeldStaysWithin
held_stays s [] h = h
held_stays s (e ∷ es) h = held_stays (next s e) es (held_next s e h)

-- ---- Store and hold

pub buffers_follow : BuffersFollow
buffers_follow t s e w f = grind (arith, common_steps)

-- both buffers are within the capacity, by what they are after an event
within_by : (capacity : ℕ) (s : PlainList) (e : Event) → HeldIsWithin s → Follows s e
    → room (store_after (stored s) e) ≤ capacity → room (hold_after (hold_of s) (stored s) e) ≤ capacity → IsWithin capacity (next s e)
within_by capacity s e w f store hold = record {
  in_hold = held_next s e w;
  store = rw f.store store;
  hold = rw f.hold hold;
}

within_next : (t : Terms) (s : PlainList) (e : Event) → IsWithin t.capacity s → FitsIn t.capacity (request_of e) → IsRight t s e → IsWithin t.capacity (next s e)
within_next t s (arrived None Passed) w fits is_right = record { in_hold = w.in_hold; store = w.store; hold = w.hold }
within_next t s (arrived None Closed) w fits is_right = w
within_next t s (arrived None Stored) w fits is_right = w
within_next t s (arrived None Held) w fits is_right = w
within_next t s (arrived None Rotated) w fits is_right = w
within_next t s (arrived None Dropped) w fits is_right = w
within_next t s (arrived (Some m) Passed) w fits is_right = w
within_next t s (arrived (Some m) Closed) w fits is_right = w
within_next t s (arrived (Some m) Stored) w fits is_right = within_by t.capacity s (arrived (Some m) Stored) w.in_hold (buffers_follow t s _ w.in_hold is_right) (omega (arith, room_push (stored s) m, is_right.1)) w.hold
within_next t s (arrived (Some m) Held) w fits is_right = within_by t.capacity s (arrived (Some m) Held) w.in_hold (buffers_follow t s _ w.in_hold is_right) (omega (arith, room_nil)) (omega (arith, room_push (stored s) m, is_right.1))
within_next t s (arrived (Some m) Rotated) w fits is_right = within_by t.capacity s (arrived (Some m) Rotated) w.in_hold (buffers_follow t s _ w.in_hold is_right) (omega (arith, room_push [] m, room_nil, fits)) w.store
within_next t s (arrived (Some m) Dropped) w fits is_right = record { in_hold = w.in_hold; store = w.store; hold = w.hold }
within_next t s (flushed true) w fits is_right = within_by t.capacity s (flushed true) w.in_hold (buffers_follow t s _ w.in_hold is_right) (omega (arith, room_nil)) w.store
within_next t s (flushed false) w fits is_right = w
within_next t s (read None) w fits is_right = w
within_next t s (read (Some batch)) w fits is_right = within_by t.capacity s (read (Some batch)) w.in_hold (buffers_follow t s _ w.in_hold is_right) w.store (omega (arith, room_nil))
within_next t s closed w fits is_right = record { in_hold = w.in_hold; store = w.store; hold = w.hold }

pub buffers_stay_within : BuffersStayWithin
buffers_stay_within t s [] w fits legal = w
buffers_stay_within t s (e ∷ es) w fits legal = buffers_stay_within t (next s e) es (within_next t s e w fits.0 legal.0) fits.1 legal.1

-- ---- Counts

counted_next : (s : PlainList) (e : Event) → IsCounted s → IsCounted (next s e)
counted_next s (arrived None Passed) c = record { matched = omega (arith, c.matched); dropped = c.dropped }
counted_next s (arrived None Closed) c = c
counted_next s (arrived None Stored) c = c
counted_next s (arrived None Held) c = c
counted_next s (arrived None Rotated) c = c
counted_next s (arrived None Dropped) c = c
counted_next s (arrived (Some m) Passed) c = c
counted_next s (arrived (Some m) Closed) c = c
counted_next s (arrived (Some m) Stored) c = record { matched = omega (arith, c.matched); dropped = omega (arith, c.dropped) }
counted_next s (arrived (Some m) Held) c = record { matched = omega (arith, c.matched); dropped = omega (arith, c.dropped) }
counted_next s (arrived (Some m) Rotated) c = record { matched = omega (arith, c.matched); dropped = omega (arith, c.dropped) }
counted_next s (arrived (Some m) Dropped) c = record { matched = omega (arith, c.matched); dropped = omega (arith, c.dropped) }
counted_next s (flushed true) c = record { matched = c.matched; dropped = c.dropped }
counted_next s (flushed false) c = c
counted_next s (read None) c = c
counted_next s (read (Some batch)) c = record { matched = c.matched; dropped = c.dropped }
counted_next s closed c = record { matched = c.matched; dropped = c.dropped }

pub counts_stay_ordered : CountsStayOrdered
counts_stay_ordered s [] c = c
counts_stay_ordered s (e ∷ es) c = counts_stay_ordered (next s e) es (counted_next s e c)

-- ---- The mode Immediate

pub immediate_is_flushed : ImmediateIsFlushed
immediate_is_flushed capacity s m Stored Stored true fits one first flush = absurd (omega (arith, one.2, flush.1))
immediate_is_flushed capacity s m Stored Stored false fits one first flush = (refl, refl)
immediate_is_flushed capacity s m Stored Held full fits one first flush = absurd first.2
immediate_is_flushed capacity s m Stored Rotated full fits one first flush = absurd (omega (arith, one.1, first.1))
immediate_is_flushed capacity s m Stored Dropped full fits one first flush = absurd (omega (arith, one.1, first.1))
immediate_is_flushed capacity s m Stored Closed full fits one first flush = absurd (let o = one.0 in cc)
immediate_is_flushed capacity s m Stored Passed full fits one first flush = absurd first
immediate_is_flushed capacity s m Held Stored true fits one first flush = (refl, refl)
immediate_is_flushed capacity s m Held Stored false fits one first (inl shut) = absurd (let o = one.0 in cc)
immediate_is_flushed capacity s m Held Stored false fits one first (inr (inl full)) = absurd (omega (arith, one.2, full))
immediate_is_flushed capacity s m Held Stored false fits one first (inr (inr none)) = absurd (omega (arith, ap length none, length-append s.pending (m ∷ [])))
immediate_is_flushed capacity s m Held Held full fits one first flush = absurd first.2
immediate_is_flushed capacity s m Held Rotated full fits one first flush = absurd (omega (arith, one.1, first.1))
immediate_is_flushed capacity s m Held Dropped full fits one first flush = absurd (omega (arith, one.1, first.1))
immediate_is_flushed capacity s m Held Closed full fits one first flush = absurd (let o = one.0 in cc)
immediate_is_flushed capacity s m Held Passed full fits one first flush = absurd first
immediate_is_flushed capacity s m Rotated Stored full fits one first flush = absurd (omega (arith, one.1, first.1))
immediate_is_flushed capacity s m Rotated Held full fits one first flush = absurd first.2
immediate_is_flushed capacity s m Rotated Rotated true fits one first flush =
    let all : room s.pending ≡ load s = ap (λ (n : ℕ). room (drop n s.pending)) (sym one.2) in
    absurd (omega (arith, one.1, flush.1, all, room_nonempty s.pending))
immediate_is_flushed capacity s m Rotated Rotated false fits one first flush = (refl, refl)
immediate_is_flushed capacity s m Rotated Dropped full fits one first flush = absurd (omega (arith, one.2, first.2))
immediate_is_flushed capacity s m Rotated Closed full fits one first flush = absurd (let o = one.0 in cc)
immediate_is_flushed capacity s m Rotated Passed full fits one first flush = absurd first
immediate_is_flushed capacity s m Dropped Stored full fits one first flush = absurd (omega (arith, one.1, first.1))
immediate_is_flushed capacity s m Dropped Held full fits one first flush = absurd first.2
immediate_is_flushed capacity s m Dropped Rotated full fits one first flush = absurd (omega (arith, one.2, first.2))
immediate_is_flushed capacity s m Dropped Dropped true fits one first flush = absurd (omega (arith, one.2, flush.1))
immediate_is_flushed capacity s m Dropped Dropped false fits one first flush = (refl, refl)
immediate_is_flushed capacity s m Dropped Closed full fits one first flush = absurd (let o = one.0 in cc)
immediate_is_flushed capacity s m Dropped Passed full fits one first flush = absurd first
immediate_is_flushed capacity s m Closed Stored full fits one first flush = absurd (let o = first.0 in cc)
immediate_is_flushed capacity s m Closed Held full fits one first flush = absurd first.2
immediate_is_flushed capacity s m Closed Rotated full fits one first flush = absurd (let o = first.0 in cc)
immediate_is_flushed capacity s m Closed Dropped full fits one first flush = absurd (let o = first.0 in cc)
immediate_is_flushed capacity s m Closed Closed true fits one first flush = absurd (let o = flush.0 in cc)
immediate_is_flushed capacity s m Closed Closed false fits one first flush = (refl, refl)
immediate_is_flushed capacity s m Closed Passed full fits one first flush = absurd first
immediate_is_flushed capacity s m Passed first full fits one other flush = absurd one
