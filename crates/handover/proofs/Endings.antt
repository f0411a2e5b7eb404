-- What the rule says of a pair that is taken apart.
use Rattle.std.proofs.Common.{◌≡◌, ℕ, zero, suc, ◌+◌, Bool, true, false, List, [], ◌∷◌, ◌++◌, length, take, Option, Some, None, Contains, refl, sym, ap, ◌∙◌, subst, arith, append_assoc, take-append-drop}
use mathlib.Core.Option.{some, some-injective, some-ne-none}
use mathlib.Core.List.{IsPrefix}
use lib.ListN.{get_elem?}
use Rattle.atomic_table.specs.Seated.{TableId}
use Rattle.atomic_table.specs.Table.{Final, Seen}
use Rattle.listener.specs.declared.answer.Counts.{Counts}
use Rattle.listener.specs.declared.message.Message.{Message}
use Rattle.listener.specs.Buffers.{Filled, filled}
use Rattle.listener.specs.Laws.{hold_of, joined}
use Rattle.listener.specs.LookingBack.{all_accepted}
use Rattle.listener.specs.PlainList.{Terms, PlainList, empty, stored, Legal, requests}
use Rattle.listener.proofs.Kept.{matched_are_kept_or_dropped, kept_are_accepted}
use Rattle.handover.specs.declared.calls.Feed.{Feed}
use Rattle.handover.specs.declared.calls.Feed.TheVariants.{Arrive, Flush, FlushClosed}
use Rattle.handover.specs.declared.calls.Take.{Take}
use Rattle.handover.specs.declared.calls.Take.TheVariants.{Full, Nothing, Ended}
use Rattle.handover.specs.declared.view.Role.TheVariants.{Joined, Spent}
use Rattle.handover.specs.declared.view.Profile.{Profile}
use Rattle.handover.specs.declared.view.Sight.{Sight}
use Rattle.handover.specs.Orders.{HasOneOrder, last_given}
use Rattle.handover.specs.Allowed.{AllFit}
use Rattle.handover.specs.Asks.{asks}
use Rattle.handover.specs.Ends.{FeedingEnded, feeding_ended, Draining, draining, AreCountsOf, AreCountsOfCalls}
use Rattle.handover.specs.History.{Happening, fed, got, shut, events, feeds_in, merge, finds, ended_in, EndedIsLast, LegalHistory, batches_of}
use Rattle.handover.specs.Own.{matched_in, dropped_in, store_of}
use Rattle.handover.specs.Rule.{Home, IsHeld, last, terms_of, BufferFollowsTurn, Facts, Seats, whole, apart, joined as seats_joined, KeepsRule, joint}
use Rattle.handover.specs.Settling.{kept_of_history, IsWhole}
use Rattle.handover.proofs.Keeps.{store_is}
use Rattle.handover.proofs.Orders.{same_latest}
use Rattle.handover.proofs.Steps.{spent_at}
use Rattle.handover.proofs.Merges.{feeds_in-merge}
use Rattle.handover.proofs.Settling.{merges_have_both, histories_are_kept, histories_are_settled, stored_are_read_or_pend}

-- the last state, once the ends are joined
joined_at : (f d u : Sight) (vs : List Sight) (id : ℕ) → Seats f d vs → get_elem? vs id ≡ some u → u.view.role ≡ Joined → (f ≡ u) × (d ≡ u)
joined_at f d u vs id (whole p q) at r = absurd (one id at)
  where
    one : (id : ℕ) → get_elem? (f ∷ []) id ≡ some u → ⊥
    one zero e = let s : f.view.role ≡ u.view.role = ap (λ (o : Sight). o.view.role) (some-injective f u e) in cc
    one (suc k) e = some-ne-none u (sym e)
joined_at f d u vs id (apart p q) at r = absurd (two id at)
  where
    two : (id : ℕ) → get_elem? (f ∷ d ∷ []) id ≡ some u → ⊥
    two zero e = let s : f.view.role ≡ u.view.role = ap (λ (o : Sight). o.view.role) (some-injective f u e) in cc
    two (suc zero) e = let s : d.view.role ≡ u.view.role = ap (λ (o : Sight). o.view.role) (some-injective d u e) in cc
    two (suc (suc k)) e = some-ne-none u (sym e)
joined_at f d u vs id (seats_joined os p q s) at r = two id at
  where
    two : (id : ℕ) → get_elem? (f ∷ os) id ≡ some u → (f ≡ u) × (d ≡ u)
    two zero e = let t = some-injective f u e in (t, sym p ∙ t)
    two (suc k) e = let t : u.view.role ≡ Spent = spent_at os k u s e in absurd (cc)

at_home : (capacity : ℕ) (full : Bool) (home : Home) (s : PlainList) → IsHeld full s.in_hold → BufferFollowsTurn capacity full false None home (hold_of s) → home ≡ some (filled capacity (hold_of s))
at_home capacity true home s h p = p
at_home capacity false home s h p = p ∙ ap (λ (n : ℕ). some (filled capacity (take n s.pending))) (sym h)

-- what the joined seat's rule says of both lists and of the buffer in the slot
pub record Ending (p : Profile) (fs : List Feed) (ts : List Take) (y : Filled) : Type 0 where
  pub fits : AllFit p.capacity fs
  pub legal : Legal (terms_of p) empty (events (merge fs ts))
  pub late : EndedIsLast (merge fs ts)
  pub unclosed : ended_in ts ≡ true → finds fs ≡ false
  pub hold : y ≡ filled p.capacity (hold_of (last fs ts))

pub ends_well : (p : Profile) (id : ℕ) (v w u : Sight) (ws : List ℕ) (xs : List Filled) (y : Filled) → u ≡ joint v w → v.view.rotating ≡ false → w.view.taking ≡ None
    → Final (Seen (KeepsRule p) id u) ws xs → get_elem? xs 0 ≡ some y → Ending v.view.profile v.view.feeds w.view.takes y × HasOneOrder v.feeder_saw w.drain_saw v.view.feed_steps w.view.take_steps
ends_well p id v w u ws xs y is calm idle (s, seen, _, _, values) there =
    let k = seen.0 in
    let at = joined_at k.feeder k.drain u s.views id k.seats seen.1 (ap (λ (o : Sight). o.view.role) is) in
    let f : k.feeder ≡ joint v w = at.0 ∙ is in
    let d : k.drain ≡ joint v w = at.1 ∙ is in
    let same : p ≡ v.view.profile = sym k.feeder_profile ∙ ap (λ (o : Sight). o.view.profile) f in
    let given : List Message = last_given k.order in
    let facts : Facts (terms_of v.view.profile) k.full k.home given (joint v w).view (joint v w).view =
    subst (λ (x : Profile). Facts (terms_of x) k.full k.home given (joint v w).view (joint v w).view) same
    (subst (λ (o : Sight). Facts (terms_of p) k.full k.home given (joint v w).view o.view) d (subst (λ (o : Sight). Facts (terms_of p) k.full k.home given o.view k.drain.view) f k.facts)) in
    let place : BufferFollowsTurn v.view.profile.capacity k.full false None k.home (hold_of (last v.view.feeds w.view.takes)) =
    subst (λ (x : Option (List Message)). BufferFollowsTurn v.view.profile.capacity k.full false x k.home (hold_of (last v.view.feeds w.view.takes))) idle
    (subst (λ (b : Bool). BufferFollowsTurn v.view.profile.capacity k.full b w.view.taking k.home (hold_of (last v.view.feeds w.view.takes))) calm facts.place) in
    let home = at_home v.view.profile.capacity k.full k.home (last v.view.feeds w.view.takes) facts.in_hold place in
    let found = values 0 (filled v.view.profile.capacity (hold_of (last v.view.feeds w.view.takes))) (ap (λ (l : List Home). get_elem? l 0) k.homes ∙ ap some home) in
    let o = k.steps in (
      record { fits = facts.fits; legal = facts.legal; late = facts.late; unclosed = facts.unclosed; hold = some-injective _ _ (sym there ∙ found) },
      record {
        order = k.order;
        fresh = o.fresh;
        feeder = o.feeder ∙ (λ i. (f i).view.feed_steps);
        drain = o.drain ∙ (λ i. (d i).view.take_steps);
        feeder_saw = subst (λ (x : Sight). IsPrefix x.feeder_saw k.order) f o.feeder_saw;
        drain_saw = subst (λ (x : Sight). IsPrefix x.drain_saw k.order) d o.drain_saw;
        latest = same_latest k.order k.feeder.feeder_saw k.drain.drain_saw v.feeder_saw w.drain_saw (λ i. (f i).feeder_saw) (λ i. (d i).drain_saw) o.latest;
      },
    )

-- ---- What settling promises of it

pub ends_legally : (p : Profile) (fs : List Feed) (ts : List Take) (y : Filled) → Ending p fs ts y → LegalHistory (terms_of p) fs ts (merge fs ts)
ends_legally p fs ts y e =
    let b = merges_have_both fs ts in
    record { feeds = b.feeds; takes = b.takes; close = b.close; ended = e.late; answers = e.legal }

pub ends_counted : (p : Profile) (fs : List Feed) (ts : List Take) (y : Filled) (counts : Counts) → Ending p fs ts y → AreCountsOfCalls counts fs → AreCountsOf counts (last fs ts)
ends_counted p fs ts y counts e c =
    let s = histories_are_settled (terms_of p) fs ts e.fits e.legal in
    record { all_received = c.all_received ∙ sym s.all_received; all_matched = c.all_matched ∙ sym s.all_matched; all_dropped = c.all_dropped ∙ sym s.all_dropped }

accepted_is : (hs : List Happening) → all_accepted (requests (events hs)) ≡ all_accepted (asks (feeds_in hs))
accepted_is [] = refl
accepted_is (fed (Arrive (Some m) answer) ∷ hs) = ap (λ (l : List Message). m ∷ l) (accepted_is hs)
accepted_is (fed (Arrive None answer) ∷ hs) = accepted_is hs
accepted_is (fed (Flush full) ∷ hs) = accepted_is hs
accepted_is (fed FlushClosed ∷ hs) = accepted_is hs
accepted_is (got (Full b) ∷ hs) = accepted_is hs
accepted_is (got Nothing ∷ hs) = accepted_is hs
accepted_is (got Ended ∷ hs) = accepted_is hs
accepted_is (shut ∷ hs) = accepted_is hs

kept_counts : (p : Profile) (fs : List Feed) (ts : List Take) (y : Filled) → Ending p fs ts y → matched_in fs ≡ length (kept_of_history p fs ts) + dropped_in fs
kept_counts p fs ts y e =
    let t : Terms = terms_of p in
    let s = histories_are_settled t fs ts e.fits e.legal in
    let k = histories_are_kept t fs ts e.fits e.legal in
    sym s.all_matched ∙ (k.all_matched ∙ (matched_are_kept_or_dropped t (requests (events (merge fs ts))) ∙ ap (λ (n : ℕ). length (kept_of_history p fs ts) + n) (sym k.all_dropped ∙ s.all_dropped)))

pub ends_whole : (p : Profile) (fs : List Feed) (ts : List Take) (hold : Filled) (rest : List Message) (counts : Counts) → Ending p fs ts hold
    → rest ≡ stored (last fs ts) → AreCountsOfCalls counts fs → IsWhole p fs ts hold.messages rest counts
ends_whole p fs ts hold rest counts e r c =
    let t : Terms = terms_of p in
    let s = histories_are_settled t fs ts e.fits e.legal in
    let l : PlainList = last fs ts in
    let read : List Message = joined (batches_of ts) in
    let left : hold.messages ++ rest ≡ l.pending =
    ap (λ (x : Filled). x.messages ++ rest) e.hold ∙ (ap (λ (x : List Message). hold_of l ++ x) r ∙ take-append-drop l.in_hold l.pending) in
    let steps = requests (events (merge fs ts)) in
    let same : all_accepted steps ≡ all_accepted (asks fs) = accepted_is (merge fs ts) ∙ ap (λ (x : List Feed). all_accepted (asks x)) (feeds_in-merge fs ts) in
    let k = kept_counts p fs ts hold e in
    let all : (read ++ hold.messages) ++ rest ≡ read ++ l.pending =
    append_assoc read hold.messages rest ∙ ap (λ (x : List Message). read ++ x) left in
    record {
      whole = all ∙ s.whole;
      stored = all ∙ stored_are_read_or_pend t fs ts (merge fs ts) (ends_legally p fs ts hold e);
      accepted = λ m has. subst (λ (x : List Message). Contains x m) same (kept_are_accepted t steps m has);
      balance = omega (arith, c.all_matched, c.all_dropped, k);
      unclosed = e.unclosed;
    }

-- the same of the ends as contracts see them
pub ends_as : (v w : Sight) (y : Filled) (f : FeedingEnded) (d : Draining) (one other : TableId) (store : List Message)
    → feeding_ended one v.view.profile v.view.feeds v.view.feed_steps v.feeder_saw store ≡ f
    → draining other w.view.profile w.view.takes w.view.take_steps w.drain_saw ≡ d
    → Ending v.view.profile v.view.feeds w.view.takes y × HasOneOrder v.feeder_saw w.drain_saw v.view.feed_steps w.view.take_steps
    → Ending f.profile f.feeds d.takes y × HasOneOrder f.seen d.seen f.steps d.steps
ends_as v w y f d one other store is also e =
    subst (λ (x : FeedingEnded). Ending x.profile x.feeds d.takes y × HasOneOrder x.seen d.seen x.steps d.steps) is
    (subst (λ (x : Draining). Ending v.view.profile v.view.feeds x.takes y × HasOneOrder v.feeder_saw x.seen v.view.feed_steps x.steps) also e)

pub ends_rest : (p : Profile) (fs : List Feed) (ts : List Take) (y : Filled) (rest : List Message) → Ending p fs ts y → rest ≡ store_of fs → rest ≡ stored (last fs ts)
ends_rest p fs ts y rest e is = is ∙ sym (store_is (terms_of p) fs ts e.legal)
