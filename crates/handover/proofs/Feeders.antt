-- What a feeder's fields keep over a call.
use Rattle.std.proofs.Common.{◌≡◌, ℕ, ◌+◌, ◌≤◌, Bool, false, ◌⊎◌, inl, inr, List, [], ◌∷◌, ◌++◌, Option, refl, sym, ap, ◌∙◌, subst, arith}
use Rattle.atomic_table.specs.Seated.{TableId}
use Rattle.bpfvm.specs.declared.insn.Insn.{Insn}
use Rattle.listener.specs.declared.answer.Counts.{Counts}
use Rattle.listener.specs.declared.answer.Fed.{Fed}
use Rattle.listener.specs.declared.answer.Fed.TheVariants.{Passed, Stored, Held, Rotated, Dropped, Closed}
use Rattle.listener.specs.declared.message.Message.{Message}
use Rattle.listener.specs.declared.mode.Mode.{Mode}
use Rattle.listener.specs.Buffers.{Filled}
use Rattle.listener.specs.Listening.{InRange}
use Rattle.listener.specs.Messages.{arrival, cut_to, Keeps}
use Rattle.listener.proofs.ArriveSteps.{size_cut}
use Rattle.handover.specs.declared.calls.Feed.{Feed}
use Rattle.handover.specs.declared.calls.Feed.TheVariants.{Arrive, Flush, FlushClosed}
use Rattle.handover.specs.declared.calls.WordStep.{WordStep}
use Rattle.handover.specs.declared.calls.EndStep.{EndStep}
use Rattle.handover.specs.declared.stand.Accepted.{Accepted}
use Rattle.handover.specs.declared.stand.Stand.{Stand}
use Rattle.handover.specs.declared.view.View.{View}
use Rattle.handover.specs.Ends.{feeding, own_list, HasOwnRun, AreCountsOf, AreCountsOfCalls}
use Rattle.handover.specs.Own.{received_in, matched_in, dropped_in}
use Rattle.handover.specs.Rule.{Sat, terms_of, known, IsLegalWithReads}
use Rattle.handover.specs.Seated.{IsFeeder, IsStand, IsOffered, Went}
use Rattle.handover.specs.Steps.{FlushAnswers}
use Rattle.handover.proofs.Paths.{capacity_is}
use Rattle.handover.proofs.Owns.{own_legal, own_store}
use Rattle.handover.proofs.Settling.{histories_are_settled, own_runs_are_right}

-- the store keeps its capacity
pub same_capacity : (m n : Sat) (b c : Filled) (f : Feed) (es : List WordStep) → IsFeeder m b false → Went m n c f es → c.capacity ≡ b.capacity
same_capacity m n b c f es h w =
    ap (λ (k : Filled). k.capacity) w.feeder.store ∙ (ap (λ p. p.capacity) w.profile ∙ sym (ap (λ (k : Filled). k.capacity) h.store))

-- ---- The run of the feeder's own calls

pub own_run : (pair : TableId) (program : List Insn) (snap : ℕ) (n : Sat) (seen : List EndStep) (c : Filled) (over : Bool) → IsFeeder n c over
    → HasOwnRun (feeding pair program snap n.0.profile n.0.feeds n.0.feed_steps seen c.messages)
own_run pair program snap n seen c over h =
    let t = terms_of n.0.profile in
    let right = own_legal t n.0.feeds h.owned.takes h.owned.fits h.owned.legal in
    record { legal = right; store = ap (λ (k : Filled). k.messages) h.store ∙ sym (own_store t n.0.feeds right) }

pub own_counts : (v : View) (counts : Counts) → IsLegalWithReads v → AreCountsOfCalls counts v.feeds → AreCountsOf counts (own_list v.feeds)
own_counts v counts o c =
    let t = terms_of v.profile in
    let s = histories_are_settled t v.feeds o.takes o.fits o.legal in
    let r = own_runs_are_right t v.feeds o.takes o.fits o.legal in
    record {
      all_received = c.all_received ∙ (sym s.all_received ∙ sym r.all_received);
      all_matched = c.all_matched ∙ (sym s.all_matched ∙ sym r.all_matched);
      all_dropped = c.all_dropped ∙ (sym s.all_dropped ∙ sym r.all_dropped);
    }

-- ---- Counts

pub arrivals-append : (fs gs : List Feed) → received_in (fs ++ gs) ≡ received_in fs + received_in gs
arrivals-append [] gs = omega arith
arrivals-append (Arrive m Passed ∷ fs) gs = omega (arith, arrivals-append fs gs)
arrivals-append (Arrive m Stored ∷ fs) gs = omega (arith, arrivals-append fs gs)
arrivals-append (Arrive m Held ∷ fs) gs = omega (arith, arrivals-append fs gs)
arrivals-append (Arrive m Rotated ∷ fs) gs = omega (arith, arrivals-append fs gs)
arrivals-append (Arrive m Dropped ∷ fs) gs = omega (arith, arrivals-append fs gs)
arrivals-append (Arrive m Closed ∷ fs) gs = arrivals-append fs gs
arrivals-append (Flush full ∷ fs) gs = arrivals-append fs gs
arrivals-append (FlushClosed ∷ fs) gs = arrivals-append fs gs

pub matches-append : (fs gs : List Feed) → matched_in (fs ++ gs) ≡ matched_in fs + matched_in gs
matches-append [] gs = omega arith
matches-append (Arrive m Passed ∷ fs) gs = matches-append fs gs
matches-append (Arrive m Stored ∷ fs) gs = omega (arith, matches-append fs gs)
matches-append (Arrive m Held ∷ fs) gs = omega (arith, matches-append fs gs)
matches-append (Arrive m Rotated ∷ fs) gs = omega (arith, matches-append fs gs)
matches-append (Arrive m Dropped ∷ fs) gs = omega (arith, matches-append fs gs)
matches-append (Arrive m Closed ∷ fs) gs = matches-append fs gs
matches-append (Flush full ∷ fs) gs = matches-append fs gs
matches-append (FlushClosed ∷ fs) gs = matches-append fs gs

pub drops-append : (fs gs : List Feed) → dropped_in (fs ++ gs) ≡ dropped_in fs + dropped_in gs
drops-append [] gs = omega arith
drops-append (Arrive m Passed ∷ fs) gs = drops-append fs gs
drops-append (Arrive m Stored ∷ fs) gs = drops-append fs gs
drops-append (Arrive m Held ∷ fs) gs = drops-append fs gs
drops-append (Arrive m Rotated ∷ fs) gs = drops-append fs gs
drops-append (Arrive m Dropped ∷ fs) gs = omega (arith, drops-append fs gs)
drops-append (Arrive m Closed ∷ fs) gs = drops-append fs gs
drops-append (Flush full ∷ fs) gs = drops-append fs gs
drops-append (FlushClosed ∷ fs) gs = drops-append fs gs

-- no more matched than arrived
pub matches_most : (fs : List Feed) → matched_in fs ≤ received_in fs
matches_most [] = omega arith
matches_most (Arrive m Passed ∷ fs) = omega (arith, matches_most fs)
matches_most (Arrive m Stored ∷ fs) = omega (arith, matches_most fs)
matches_most (Arrive m Held ∷ fs) = omega (arith, matches_most fs)
matches_most (Arrive m Rotated ∷ fs) = omega (arith, matches_most fs)
matches_most (Arrive m Dropped ∷ fs) = omega (arith, matches_most fs)
matches_most (Arrive m Closed ∷ fs) = matches_most fs
matches_most (Flush full ∷ fs) = matches_most fs
matches_most (FlushClosed ∷ fs) = matches_most fs

-- no more were dropped than matched
pub drops_most : (fs : List Feed) → dropped_in fs ≤ matched_in fs
drops_most [] = omega arith
drops_most (Arrive m Passed ∷ fs) = drops_most fs
drops_most (Arrive m Stored ∷ fs) = omega (arith, drops_most fs)
drops_most (Arrive m Held ∷ fs) = omega (arith, drops_most fs)
drops_most (Arrive m Rotated ∷ fs) = omega (arith, drops_most fs)
drops_most (Arrive m Dropped ∷ fs) = omega (arith, drops_most fs)
drops_most (Arrive m Closed ∷ fs) = drops_most fs
drops_most (Flush full ∷ fs) = drops_most fs
drops_most (FlushClosed ∷ fs) = drops_most fs

-- the counts of one call more, by what that call adds
pub counted_more : (old new : Counts) (fs gs : List Feed) → new.received ≡ old.received + received_in gs → new.matched ≡ old.matched + matched_in gs → new.dropped ≡ old.dropped + dropped_in gs
    → AreCountsOfCalls old fs → AreCountsOfCalls new (fs ++ gs)
counted_more old new fs gs r m d c = record {
  all_received = omega (arith, r, c.all_received, arrivals-append fs gs);
  all_matched = omega (arith, m, c.all_matched, matches-append fs gs);
  all_dropped = omega (arith, d, c.all_dropped, drops-append fs gs);
}

-- by its answer, and what the code made of the counts so far
pub counted_passed : (old new : Counts) (fs : List Feed) (m : Option Message) (fed : Fed) → fed ≡ Passed → new.received ≡ old.received + 1 → new.matched ≡ old.matched
    → new.dropped ≡ old.dropped → AreCountsOfCalls old fs → AreCountsOfCalls new (fs ++ Arrive m fed ∷ [])
counted_passed old new fs m fed is r t d c = subst (λ (x : Fed). AreCountsOfCalls new (fs ++ Arrive m x ∷ [])) (sym is)
    (counted_more old new fs (Arrive m Passed ∷ []) (omega (arith, r)) (omega (arith, t)) (omega (arith, d)) c)

pub counted_kept : (old new : Counts) (fs : List Feed) (m : Option Message) (fed : Fed) → (fed ≡ Stored) ⊎ ((fed ≡ Held) ⊎ (fed ≡ Rotated)) → new.received ≡ old.received + 1
    → new.matched ≡ old.matched + 1 → new.dropped ≡ old.dropped → AreCountsOfCalls old fs → AreCountsOfCalls new (fs ++ Arrive m fed ∷ [])
counted_kept old new fs m fed (inl is) r t d c = subst (λ (x : Fed). AreCountsOfCalls new (fs ++ Arrive m x ∷ [])) (sym is)
    (counted_more old new fs (Arrive m Stored ∷ []) (omega (arith, r)) (omega (arith, t)) (omega (arith, d)) c)
counted_kept old new fs m fed (inr (inl is)) r t d c = subst (λ (x : Fed). AreCountsOfCalls new (fs ++ Arrive m x ∷ [])) (sym is)
    (counted_more old new fs (Arrive m Held ∷ []) (omega (arith, r)) (omega (arith, t)) (omega (arith, d)) c)
counted_kept old new fs m fed (inr (inr is)) r t d c = subst (λ (x : Fed). AreCountsOfCalls new (fs ++ Arrive m x ∷ [])) (sym is)
    (counted_more old new fs (Arrive m Rotated ∷ []) (omega (arith, r)) (omega (arith, t)) (omega (arith, d)) c)

pub counted_dropped : (old new : Counts) (fs : List Feed) (m : Option Message) (fed : Fed) → fed ≡ Dropped → new.received ≡ old.received + 1 → new.matched ≡ old.matched + 1
    → new.dropped ≡ old.dropped + 1 → AreCountsOfCalls old fs → AreCountsOfCalls new (fs ++ Arrive m fed ∷ [])
counted_dropped old new fs m fed is r t d c = subst (λ (x : Fed). AreCountsOfCalls new (fs ++ Arrive m x ∷ [])) (sym is)
    (counted_more old new fs (Arrive m Dropped ∷ []) (omega (arith, r)) (omega (arith, t)) (omega (arith, d)) c)

-- a flush counts nothing
pub counted_flush : (full : Bool) (f : Feed) (fs : List Feed) (counts : Counts) → FlushAnswers full f → AreCountsOfCalls counts fs → AreCountsOfCalls counts (fs ++ f ∷ [])
counted_flush full (Arrive m fed) fs counts answers c = absurd answers
counted_flush full (Flush made) fs counts answers c = counted_more counts counts fs (Flush made ∷ []) (omega arith) (omega arith) (omega arith) c
counted_flush full FlushClosed fs counts answers c = counted_more counts counts fs (FlushClosed ∷ []) (omega arith) (omega arith) (omega arith) c

-- ---- The fields after a call

pub fields_after : (m n : Sat) (b c : Filled) (f : Feed) (es : List WordStep) (snap : ℕ) (mode : Mode) (counts : Counts) → IsFeeder m b false → InRange snap b.capacity
    → m.0.profile.mode ≡ mode → Went m n c f es → AreCountsOfCalls counts (m.0.feeds ++ f ∷ [])
    → IsFeeder n c false × InRange snap c.capacity × (n.0.profile.mode ≡ mode) × AreCountsOfCalls counts n.0.feeds
fields_after m n b c f es snap mode counts h range is w counted = (
  w.feeder,
  subst (InRange snap) (sym (same_capacity m n b c f es h w)) range,
  ap (λ p. p.mode) w.profile ∙ is,
  subst (AreCountsOfCalls counts) (sym w.feeds) counted,
)

-- what the code's numbers say of a packet that the filter accepts
pub offered : (pair : TableId) (s : Stand) (snap : ℕ) (program : List Insn) (p : Accepted) → IsStand pair s → InRange snap s.store.capacity
    → Keeps program snap (arrival p.capture p.place p.packet.now) p.kept → IsOffered pair s p (cut_to p.kept (arrival p.capture p.place p.packet.now))
offered pair s snap program p h range k =
    let size = size_cut (arrival p.capture p.place p.packet.now) p.kept k.captured in
    let cap = capacity_is (known s.seat.me) s.store h.feeder in
    record {
      stand = h;
      message = refl;
      captured = k.captured;
      writable = omega (arith, k.within, range.most);
      small = omega (arith, size, cap, k.within, range.room);
    }
