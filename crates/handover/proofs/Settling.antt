-- What a merged list that is legal shows: where the close stands, what is kept, and the counts.
use Rattle.std.proofs.Common.{◌≡◌, ◌+◌, Bool, true, false, List, [], ◌∷◌, ◌++◌, map, Some, None, drop, refl, sym, ap, ◌∙◌, subst, arith, append_assoc, append-nil, take-append-drop}
use Rattle.listener.specs.declared.answer.Fed.TheVariants.{Passed, Stored, Held, Rotated, Dropped, Closed}
use Rattle.listener.specs.declared.message.Message.{Message}
use Rattle.listener.specs.PlainList.{Terms, PlainList, empty, IsRight, Legal, next, run, requests, batches}
use Rattle.listener.specs.Laws.{AllFitIn, IsKept, joined}
use Rattle.listener.proofs.KeptRuns.{runs_are_kept}
use Rattle.handover.specs.declared.calls.Feed.{Feed}
use Rattle.handover.specs.declared.calls.Feed.TheVariants.{Arrive, Flush, FlushClosed}
use Rattle.handover.specs.declared.calls.Take.{Take}
use Rattle.handover.specs.declared.calls.Take.TheVariants.{Full, Nothing, Ended}
use Rattle.handover.specs.History.{Happening, fed, got, shut, event_of, events, feeds_in, takes_in, plain, stores, finds_closed, kind, by_kind, OnlyFeeds, CloseIsPlaced, reads_of, turns_of, first_turn, later_turns, deal, merge, batches_of}
use Rattle.handover.specs.Own.{own, received_in, matched_in, dropped_in}
use Rattle.handover.specs.Allowed.{AllFit}
use Rattle.handover.specs.Rule.{last}
use Rattle.handover.specs.Settling.{stored_in, undropped_in}
use Rattle.handover.specs.Laws.{MergesHaveBoth, HistoriesAreSettled, StoredAreReadOrPend, KeptAreStored, OnlyDroppedAreMissing, OwnRunsAreRight}
use Rattle.handover.proofs.Keeps.{store_is}
use Rattle.handover.proofs.Owns.{own_legal, feeds_in-own, own_store}
use Rattle.handover.proofs.Merges.{feeds_in-merge, takes_in-merge}

-- ---- Where the close stands

close_reads : (ts : List Take) → CloseIsPlaced (map got ts)
close_reads [] = tt
close_reads (t ∷ ts) = close_reads ts

close_got : (ts : List Take) (hs : List Happening) → CloseIsPlaced hs → CloseIsPlaced (map got ts ++ hs)
close_got [] hs c = c
close_got (t ∷ ts) hs c = close_got ts hs c

only_feeds : (fs : List Feed) → OnlyFeeds (map fed fs)
only_feeds [] = tt
only_feeds (f ∷ fs) = only_feeds fs

close_placed : (us : List (List Take)) (fs : List Feed) → CloseIsPlaced (deal us fs)
close_placed us [] = close_reads (reads_of us)
close_placed us (g ∷ fs) = elim (kind g) as (λ b. kind g ≡ b →
    CloseIsPlaced (by_kind b (fed g ∷ deal us fs) (map got (first_turn us) ++ fed g ∷ deal (later_turns us) fs) (map got (reads_of us) ++ shut ∷ fed g ∷ map fed fs))) [
      | plain ↦ λ e. ((λ is. let no : plain ≡ finds_closed = sym e ∙ is in cc), close_placed us fs)
      | stores ↦ λ e. close_got (first_turn us) (fed g ∷ deal (later_turns us) fs) ((λ is. let no : stores ≡ finds_closed = sym e ∙ is in cc), close_placed (later_turns us) fs)
      | finds_closed ↦ λ e. close_got (reads_of us) (shut ∷ fed g ∷ map fed fs) (e, only_feeds fs)
    ] refl

pub merges_have_both : MergesHaveBoth
merges_have_both fs ts = record { feeds = feeds_in-merge fs ts; takes = takes_in-merge fs ts; close = close_placed (turns_of ts) fs }

-- ---- The counts

pub record CountsOn (s u : PlainList) (fs gs : List Feed) : Type 0 where
  pub received : s.received + received_in fs ≡ u.received + received_in gs
  pub matched : s.matched + matched_in fs ≡ u.matched + matched_in gs
  pub dropped : s.dropped + dropped_in fs ≡ u.dropped + dropped_in gs

counts_next : (t : Terms) (s : PlainList) (h : Happening) (hs : List Happening) → IsRight t s (event_of h)
    → CountsOn (next s (event_of h)) s (feeds_in hs) (feeds_in (h ∷ hs))
counts_next t s (fed (Arrive None Passed)) hs is_right = record { received = omega arith; matched = omega arith; dropped = omega arith }
counts_next t s (fed (Arrive None Stored)) hs is_right = absurd is_right
counts_next t s (fed (Arrive None Held)) hs is_right = absurd is_right
counts_next t s (fed (Arrive None Rotated)) hs is_right = absurd is_right
counts_next t s (fed (Arrive None Dropped)) hs is_right = absurd is_right
counts_next t s (fed (Arrive None Closed)) hs is_right = record { received = omega arith; matched = omega arith; dropped = omega arith }
counts_next t s (fed (Arrive (Some m) Passed)) hs is_right = absurd is_right
counts_next t s (fed (Arrive (Some m) Stored)) hs is_right = record { received = omega arith; matched = omega arith; dropped = omega arith }
counts_next t s (fed (Arrive (Some m) Held)) hs is_right = record { received = omega arith; matched = omega arith; dropped = omega arith }
counts_next t s (fed (Arrive (Some m) Rotated)) hs is_right = record { received = omega arith; matched = omega arith; dropped = omega arith }
counts_next t s (fed (Arrive (Some m) Dropped)) hs is_right = record { received = omega arith; matched = omega arith; dropped = omega arith }
counts_next t s (fed (Arrive (Some m) Closed)) hs is_right = record { received = omega arith; matched = omega arith; dropped = omega arith }
counts_next t s (fed (Flush true)) hs is_right = record { received = refl; matched = refl; dropped = refl }
counts_next t s (fed (Flush false)) hs is_right = record { received = refl; matched = refl; dropped = refl }
counts_next t s (fed FlushClosed) hs is_right = record { received = refl; matched = refl; dropped = refl }
counts_next t s (got (Full b)) hs is_right = record { received = refl; matched = refl; dropped = refl }
counts_next t s (got Nothing) hs is_right = record { received = refl; matched = refl; dropped = refl }
counts_next t s (got Ended) hs is_right = record { received = refl; matched = refl; dropped = refl }
counts_next t s shut hs is_right = record { received = refl; matched = refl; dropped = refl }

counts_run : (t : Terms) (s : PlainList) (hs : List Happening) → Legal t s (events hs) → CountsOn (run s (events hs)) s [] (feeds_in hs)
counts_run t s [] legal = record { received = refl; matched = refl; dropped = refl }
counts_run t s (h ∷ hs) legal =
    let r = counts_run t (next s (event_of h)) hs legal.1 in
    let n = counts_next t s h hs legal.0 in
    record { received = r.received ∙ n.received; matched = r.matched ∙ n.matched; dropped = r.dropped ∙ n.dropped }

-- ---- What is kept

all_fit : (t : Terms) (hs : List Happening) → AllFit t.capacity (feeds_in hs) → AllFitIn t.capacity (requests (events hs))
all_fit t [] fits = tt
all_fit t (fed (Arrive (Some m) answer) ∷ hs) fits = (fits.0, all_fit t hs fits.1)
all_fit t (fed (Arrive None answer) ∷ hs) fits = (tt, all_fit t hs fits)
all_fit t (fed (Flush full) ∷ hs) fits = (tt, all_fit t hs fits)
all_fit t (fed FlushClosed ∷ hs) fits = (tt, all_fit t hs fits)
all_fit t (got (Full b) ∷ hs) fits = (tt, all_fit t hs fits)
all_fit t (got Nothing ∷ hs) fits = (tt, all_fit t hs fits)
all_fit t (got Ended ∷ hs) fits = (tt, all_fit t hs fits)
all_fit t (shut ∷ hs) fits = (tt, all_fit t hs fits)

batches_are : (hs : List Happening) → batches (events hs) ≡ batches_of (takes_in hs)
batches_are [] = refl
batches_are (fed (Arrive m answer) ∷ hs) = batches_are hs
batches_are (fed (Flush full) ∷ hs) = batches_are hs
batches_are (fed FlushClosed ∷ hs) = batches_are hs
batches_are (got (Full b) ∷ hs) = ap (λ (l : List (List Message)). b ∷ l) (batches_are hs)
batches_are (got Nothing ∷ hs) = batches_are hs
batches_are (got Ended ∷ hs) = batches_are hs
batches_are (shut ∷ hs) = batches_are hs

pub histories_are_kept : (t : Terms) (fs : List Feed) (ts : List Take) → AllFit t.capacity fs → Legal t empty (events (merge fs ts))
    → IsKept t (requests (events (merge fs ts))) (batches (events (merge fs ts))) (last fs ts)
histories_are_kept t fs ts fits legal =
    runs_are_kept t (events (merge fs ts)) (all_fit t (merge fs ts) (subst (AllFit t.capacity) (sym (feeds_in-merge fs ts)) fits)) legal

pub histories_are_settled : HistoriesAreSettled
histories_are_settled t fs ts fits legal =
    let hs : List Happening = merge fs ts in
    let fed_is : feeds_in hs ≡ fs = feeds_in-merge fs ts in
    let k = histories_are_kept t fs ts fits legal in
    let c = counts_run t empty hs legal in
    let bs : batches (events hs) ≡ batches_of ts = batches_are hs ∙ ap batches_of (takes_in-merge fs ts) in
    let a : received_in (feeds_in hs) ≡ received_in fs = ap received_in fed_is in
    let m : matched_in (feeds_in hs) ≡ matched_in fs = ap matched_in fed_is in
    let d : dropped_in (feeds_in hs) ≡ dropped_in fs = ap dropped_in fed_is in
    record {
      whole = ap (λ (b : List (List Message)). joined b ++ (last fs ts).pending) (sym bs) ∙ k.whole;
      all_received = omega (arith, c.received, a);
      all_matched = omega (arith, c.matched, m);
      all_dropped = omega (arith, c.dropped, d);
    }

-- ---- What was stored

-- from each state on: what is read and what then pends is what pends there and what is stored
read_or_pend : (t : Terms) (s : PlainList) (hs : List Happening) → Legal t s (events hs)
    → joined (batches_of (takes_in hs)) ++ (run s (events hs)).pending ≡ s.pending ++ stored_in (feeds_in hs)
read_or_pend t s [] legal = sym (append-nil s.pending)
read_or_pend t s (fed (Arrive None Passed) ∷ hs) legal = read_or_pend t (next s (event_of (fed (Arrive None Passed)))) hs legal.1
read_or_pend t s (fed (Arrive None Stored) ∷ hs) legal = absurd legal.0
read_or_pend t s (fed (Arrive None Held) ∷ hs) legal = absurd legal.0
read_or_pend t s (fed (Arrive None Rotated) ∷ hs) legal = absurd legal.0
read_or_pend t s (fed (Arrive None Dropped) ∷ hs) legal = absurd legal.0
read_or_pend t s (fed (Arrive None Closed) ∷ hs) legal = read_or_pend t s hs legal.1
read_or_pend t s (fed (Arrive (Some m) Passed) ∷ hs) legal = absurd legal.0
read_or_pend t s (fed (Arrive (Some m) Stored) ∷ hs) legal =
    read_or_pend t (next s (event_of (fed (Arrive (Some m) Stored)))) hs legal.1 ∙ append_assoc s.pending (m ∷ []) (stored_in (feeds_in hs))
read_or_pend t s (fed (Arrive (Some m) Held) ∷ hs) legal =
    read_or_pend t (next s (event_of (fed (Arrive (Some m) Held)))) hs legal.1 ∙ append_assoc s.pending (m ∷ []) (stored_in (feeds_in hs))
read_or_pend t s (fed (Arrive (Some m) Rotated) ∷ hs) legal =
    read_or_pend t (next s (event_of (fed (Arrive (Some m) Rotated)))) hs legal.1 ∙ append_assoc s.pending (m ∷ []) (stored_in (feeds_in hs))
read_or_pend t s (fed (Arrive (Some m) Dropped) ∷ hs) legal = read_or_pend t (next s (event_of (fed (Arrive (Some m) Dropped)))) hs legal.1
read_or_pend t s (fed (Arrive (Some m) Closed) ∷ hs) legal = read_or_pend t s hs legal.1
read_or_pend t s (fed (Flush true) ∷ hs) legal = read_or_pend t (next s (event_of (fed (Flush true)))) hs legal.1
read_or_pend t s (fed (Flush false) ∷ hs) legal = read_or_pend t s hs legal.1
read_or_pend t s (fed FlushClosed ∷ hs) legal = read_or_pend t s hs legal.1
read_or_pend t s (got (Full batch) ∷ hs) legal =
    let u = next s (event_of (got (Full batch))) in
    let k : List Message = stored_in (feeds_in hs) in
    append_assoc batch (joined (batches_of (takes_in hs))) ((run u (events hs)).pending)
    ∙ ap (λ (l : List Message). batch ++ l) (read_or_pend t u hs legal.1) ∙ sym (append_assoc batch (drop s.in_hold s.pending) k)
    ∙ ap (λ (l : List Message). (l ++ drop s.in_hold s.pending) ++ k) legal.0.2 ∙ ap (λ (l : List Message). l ++ k) (take-append-drop s.in_hold s.pending)
read_or_pend t s (got Nothing ∷ hs) legal = read_or_pend t s hs legal.1
read_or_pend t s (got Ended ∷ hs) legal = read_or_pend t s hs legal.1
read_or_pend t s (shut ∷ hs) legal = read_or_pend t (next s (event_of shut)) hs legal.1

pub stored_are_read_or_pend : StoredAreReadOrPend
stored_are_read_or_pend t fs ts hs h =
    ap (λ (l : List Take). joined (batches_of l) ++ (run empty (events hs)).pending) (sym h.takes) ∙ read_or_pend t empty hs h.answers ∙ ap stored_in h.feeds

pub kept_are_stored : KeptAreStored
kept_are_stored t fs ts hs fits h =
    let k = runs_are_kept t (events hs) (all_fit t hs (subst (AllFit t.capacity) (sym h.feeds) fits)) h.answers in
    let bs : batches (events hs) ≡ batches_of ts = batches_are hs ∙ ap batches_of h.takes in
    sym k.whole ∙ ap (λ (b : List (List Message)). joined b ++ (run empty (events hs)).pending) bs ∙ stored_are_read_or_pend t fs ts hs h

-- no accepted packet is answered Passed
stored_are_undropped : (t : Terms) (s : PlainList) (hs : List Happening) → Legal t s (events hs) → stored_in (feeds_in hs) ≡ undropped_in (feeds_in hs)
stored_are_undropped t s [] legal = refl
stored_are_undropped t s (fed (Arrive None answer) ∷ hs) legal = stored_are_undropped t (next s (event_of (fed (Arrive None answer)))) hs legal.1
stored_are_undropped t s (fed (Arrive (Some m) Passed) ∷ hs) legal = absurd legal.0
stored_are_undropped t s (fed (Arrive (Some m) Stored) ∷ hs) legal =
    ap (λ (l : List Message). m ∷ l) (stored_are_undropped t (next s (event_of (fed (Arrive (Some m) Stored)))) hs legal.1)
stored_are_undropped t s (fed (Arrive (Some m) Held) ∷ hs) legal =
    ap (λ (l : List Message). m ∷ l) (stored_are_undropped t (next s (event_of (fed (Arrive (Some m) Held)))) hs legal.1)
stored_are_undropped t s (fed (Arrive (Some m) Rotated) ∷ hs) legal =
    ap (λ (l : List Message). m ∷ l) (stored_are_undropped t (next s (event_of (fed (Arrive (Some m) Rotated)))) hs legal.1)
stored_are_undropped t s (fed (Arrive (Some m) Dropped) ∷ hs) legal = stored_are_undropped t (next s (event_of (fed (Arrive (Some m) Dropped)))) hs legal.1
stored_are_undropped t s (fed (Arrive (Some m) Closed) ∷ hs) legal = stored_are_undropped t s hs legal.1
stored_are_undropped t s (fed (Flush full) ∷ hs) legal = stored_are_undropped t (next s (event_of (fed (Flush full)))) hs legal.1
stored_are_undropped t s (fed FlushClosed ∷ hs) legal = stored_are_undropped t (next s (event_of (fed FlushClosed))) hs legal.1
stored_are_undropped t s (got take ∷ hs) legal = stored_are_undropped t (next s (event_of (got take))) hs legal.1
stored_are_undropped t s (shut ∷ hs) legal = stored_are_undropped t (next s (event_of shut)) hs legal.1

pub only_dropped_are_missing : OnlyDroppedAreMissing
only_dropped_are_missing t fs ts hs h = subst (λ (l : List Feed). stored_in l ≡ undropped_in l) h.feeds (stored_are_undropped t empty hs h.answers)

-- ---- The feeder's own run

pub own_runs_are_right : OwnRunsAreRight
own_runs_are_right t fs ts fits legal =
    let right = own_legal t fs ts fits legal in
    let one = counts_run t empty (own fs) right in
    let other = counts_run t empty (merge fs ts) legal in
    let same : feeds_in (own fs) ≡ feeds_in (merge fs ts) = feeds_in-own false empty fs ∙ sym (feeds_in-merge fs ts) in
    let a : received_in (feeds_in (own fs)) ≡ received_in (feeds_in (merge fs ts)) = ap received_in same in
    let m : matched_in (feeds_in (own fs)) ≡ matched_in (feeds_in (merge fs ts)) = ap matched_in same in
    let d : dropped_in (feeds_in (own fs)) ≡ dropped_in (feeds_in (merge fs ts)) = ap dropped_in same in
    record {
      legal = right;
      feeds = feeds_in-own false empty fs;
      store = own_store t fs right ∙ sym (store_is t fs ts legal);
      all_received = omega (arith, one.received, other.received, a);
      all_matched = omega (arith, one.matched, other.matched, m);
      all_dropped = omega (arith, one.dropped, other.dropped, d);
    }
