-- What each call does to the merged list, and that the rule's facts stand after it.
use Rattle.std.proofs.Common.{◌≡◌, ℕ, Bool, true, false, true≢false, List, [], ◌∷◌, ◌++◌, map, Option, Some, None, refl, sym, ap, ◌∙◌, subst, arith, append-nil, inr}
use mathlib.Core.Option.{some}
use Rattle.listener.specs.declared.answer.Fed.TheVariants.{Passed, Stored, Held, Rotated, Dropped, Closed}
use Rattle.listener.specs.declared.message.Message.{Message}
use Rattle.listener.specs.Buffers.{filled}
use Rattle.listener.specs.PlainList.{Terms, PlainList, empty, IsRight, Legal, stored, next, run, closed}
use Rattle.listener.specs.Laws.{hold_of}
use Rattle.handover.specs.declared.calls.Feed.{Feed}
use Rattle.handover.specs.declared.calls.Feed.TheVariants.{Arrive, Flush, FlushClosed}
use Rattle.handover.specs.declared.calls.WordStep.{WordStep}
use Rattle.handover.specs.declared.calls.Take.{Take}
use Rattle.handover.specs.declared.calls.Take.TheVariants.{Full, Nothing, Ended}
use Rattle.handover.specs.declared.view.View.{View}
use Rattle.handover.specs.History.{Happening, fed, got, shut, event_of, events, merge, finds, ended_in, EndedIsLast, feeds_in, takes_in, turns_of, reads_of, later_turns, kind, by_kind, Kind, plain, stores, finds_closed}
use Rattle.handover.specs.Allowed.{Quiet, Busy, Loud, handed, AllFit}
use Rattle.handover.specs.Tidy.{by_kind_type, HasTurn, AreLeft, Tidy, AllFind}
use Rattle.handover.specs.Own.{store_of, store_from}
use Rattle.handover.specs.Rule.{Home, IsHeld, BufferFollowsTurn, last, Facts, with_feeds, with_takes, idle}
use Rattle.handover.proofs.Runs.{run_more, legal_join, legal_front, legal_back, within_run, stored_run, open_run, fed_open, quiet_right, swap_all, Keeps, quiet_state, busy_state, loud_state, late_state}
use Rattle.handover.proofs.Merges.{plain_before, store_last, shut_last, closed_last, Answers, read_last, feeds_in-merge, takes_in-merge}

pub store_is : (t : Terms) (fs : List Feed) (ts : List Take) → Legal t empty (events (merge fs ts)) → stored (last fs ts) ≡ store_of fs
store_is t fs ts legal = stored_run t empty (merge fs ts) (omega arith) legal ∙ ap (λ (l : List Feed). store_from [] l) (feeds_in-merge fs ts)

feeds_in_reads : (ts : List Take) → feeds_in (map got ts) ≡ []
feeds_in_reads [] = refl
feeds_in_reads (t ∷ ts) = feeds_in_reads ts

-- ---- Which calls found the pair closed

finds_more : (fs : List Feed) (f : Feed) (b : Bool) → by_kind (kind f) false false true ≡ b → finds fs ≡ false → finds (fs ++ f ∷ []) ≡ b
finds_more [] f b is n = is
finds_more (g ∷ fs) f b is n = elim (kind g) as (λ k. by_kind k (finds fs) (finds fs) true ≡ false → by_kind k (finds (fs ++ f ∷ [])) (finds (fs ++ f ∷ [])) true ≡ b) [
  | plain ↦ λ m. finds_more fs f b is m
  | stores ↦ λ m. finds_more fs f b is m
  | finds_closed ↦ λ m. absurd (true≢false m)
] n

found_more : (fs : List Feed) (f : Feed) → finds fs ≡ true → finds (fs ++ f ∷ []) ≡ true
found_more [] f n = absurd (true≢false (sym n))
found_more (g ∷ fs) f n = elim (kind g) as (λ k. by_kind k (finds fs) (finds fs) true ≡ true → by_kind k (finds (fs ++ f ∷ [])) (finds (fs ++ f ∷ [])) true ≡ true) [
  | plain ↦ λ m. found_more fs f m
  | stores ↦ λ m. found_more fs f m
  | finds_closed ↦ λ m. refl
] n

-- ---- Ended comes after all calls

no_ended : (hs : List Happening) → ended_in (takes_in hs) ≡ false → EndedIsLast hs
no_ended [] n = tt
no_ended (fed f ∷ hs) n = no_ended hs n
no_ended (got (Full b) ∷ hs) n = no_ended hs n
no_ended (got Nothing ∷ hs) n = no_ended hs n
no_ended (got Ended ∷ hs) n = absurd (true≢false n)
no_ended (shut ∷ hs) n = no_ended hs n

feeds_more : (hs : List Happening) (t : Take) → feeds_in (hs ++ got t ∷ []) ≡ feeds_in hs
feeds_more [] t = refl
feeds_more (fed f ∷ hs) t = ap (λ (l : List Feed). f ∷ l) (feeds_more hs t)
feeds_more (got x ∷ hs) t = feeds_more hs t
feeds_more (shut ∷ hs) t = feeds_more hs t

ended_last : (t : Take) → EndedIsLast (got t ∷ [])
ended_last (Full b) = tt
ended_last Nothing = tt
ended_last Ended = (refl, tt)

ended_more : (hs : List Happening) (t : Take) → EndedIsLast hs → EndedIsLast (hs ++ got t ∷ [])
ended_more [] t e = ended_last t
ended_more (fed f ∷ hs) t e = ended_more hs t e
ended_more (got (Full b) ∷ hs) t e = ended_more hs t e
ended_more (got Nothing ∷ hs) t e = ended_more hs t e
ended_more (got Ended ∷ hs) t e = (feeds_more hs t ∙ e.0, ended_more hs t e.1)
ended_more (shut ∷ hs) t e = ended_more hs t e

ended_same : (ts : List Take) (t : Take) → ended_in (t ∷ []) ≡ false → ended_in (ts ++ t ∷ []) ≡ ended_in ts
ended_same [] t n = n
ended_same (Full b ∷ ts) t n = ended_same ts t n
ended_same (Nothing ∷ ts) t n = ended_same ts t n
ended_same (Ended ∷ ts) t n = refl

-- ---- Events at the end

fits_more : (capacity : ℕ) (fs : List Feed) (f : Feed) → AllFit capacity (f ∷ []) → AllFit capacity fs → AllFit capacity (fs ++ f ∷ [])
fits_more capacity [] f fit all = fit
fits_more capacity (Arrive (Some m) answer ∷ fs) f fit all = (all.0, fits_more capacity fs f fit all.1)
fits_more capacity (Arrive None answer ∷ fs) f fit all = fits_more capacity fs f fit all
fits_more capacity (Flush full ∷ fs) f fit all = fits_more capacity fs f fit all
fits_more capacity (FlushClosed ∷ fs) f fit all = fits_more capacity fs f fit all

ends_with : (t : Terms) (m n : List Happening) (h : Happening) → n ≡ m ++ h ∷ [] → Legal t empty (events m) → IsRight t (run empty (events m)) (event_of h)
    → Legal t empty (events n) × (run empty (events n) ≡ next (run empty (events m)) (event_of h))
ends_with t m n h is legal is_right = (
  subst (λ (l : List Happening). Legal t empty (events l)) (sym is) (legal_join t empty m (h ∷ []) legal (is_right, tt)),
  ap (λ (l : List Happening). run empty (events l)) is ∙ run_more empty m (h ∷ []),
)

-- ---- Calls that the store alone decides

quiet_plain : (t : Terms) (store : List Message) (f : Feed) → Quiet t store f → kind f ≡ plain
quiet_plain t store (Arrive None Passed) q = refl
quiet_plain t store (Arrive (Some m) Stored) q = refl
quiet_plain t store (Flush false) q = refl
quiet_plain t store (Arrive None Stored) q = absurd q
quiet_plain t store (Arrive None Held) q = absurd q
quiet_plain t store (Arrive None Rotated) q = absurd q
quiet_plain t store (Arrive None Dropped) q = absurd q
quiet_plain t store (Arrive None Closed) q = absurd q
quiet_plain t store (Arrive (Some m) Passed) q = absurd q
quiet_plain t store (Arrive (Some m) Held) q = absurd q
quiet_plain t store (Arrive (Some m) Rotated) q = absurd q
quiet_plain t store (Arrive (Some m) Dropped) q = absurd q
quiet_plain t store (Arrive (Some m) Closed) q = absurd q
quiet_plain t store (Flush true) q = absurd q
quiet_plain t store FlushClosed q = absurd q

plain_stays : (f : Feed) → kind f ≡ plain → by_kind (kind f) false false true ≡ false
plain_stays f is = ap (λ (k : Kind). by_kind k false false true) is

plain_tidy : (us : List (List Take)) (fs : List Feed) (f : Feed) (full : Bool) → kind f ≡ plain → finds fs ≡ false → Tidy us fs full → Tidy us (fs ++ f ∷ []) full
plain_tidy us [] f full is n h = subst (λ (b : Kind). by_kind_type b (AreLeft full us) (HasTurn us × AreLeft full (later_turns us)) (AreLeft full us × Unit {0})) (sym is) h
plain_tidy us (g ∷ fs) f full is n h =
    elim (kind g) as (λ b. by_kind b (finds fs) (finds fs) true ≡ false → by_kind_type b (Tidy us fs full) (HasTurn us × Tidy (later_turns us) fs full) (AreLeft full us × AllFind fs)
    → by_kind_type b (Tidy us (fs ++ f ∷ []) full) (HasTurn us × Tidy (later_turns us) (fs ++ f ∷ []) full) (AreLeft full us × AllFind (fs ++ f ∷ []))) [
      | plain ↦ λ m k. plain_tidy us fs f full is m k
      | stores ↦ λ m k. (k.0, plain_tidy (later_turns us) fs f full is m k.1)
      | finds_closed ↦ λ m k. absurd (true≢false m)
    ] n h

quiet_run : (t : Terms) (full : Bool) (fs : List Feed) (ts : List Take) (f : Feed) → finds fs ≡ false → (last fs ts).closed ≡ false → Tidy (turns_of ts) fs full
    → Legal t empty (events (merge fs ts)) → Quiet t (store_of fs) f
    → Legal t empty (events (merge (fs ++ f ∷ []) ts)) × (last (fs ++ f ∷ []) ts ≡ next (last fs ts) (event_of (fed f)))
quiet_run t full fs ts f none unshut tidy legal q =
    let b = plain_before (turns_of ts) fs f full (quiet_plain t (store_of fs) f q) none tidy in
    let s : PlainList = run empty (events b.front) in
    let reads : List Happening = map got b.reads in
    let whole : Legal t empty (events (b.front ++ reads)) = subst (λ (l : List Happening). Legal t empty (events l)) b.was legal in
    let back = legal_back t empty b.front reads whole in
    let end : last fs ts ≡ run s (events reads) = ap (λ (l : List Happening). run empty (events l)) b.was ∙ run_more empty b.front reads in
    let w = within_run b.front in
    let same : stored s ≡ store_of fs = sym (stored_run t s reads w back ∙ ap (λ (l : List Feed). store_from (stored s) l) (feeds_in_reads b.reads)) ∙ (ap stored (sym end) ∙ store_is t fs ts legal) in
    let q' : Quiet t (stored s) f = subst (λ (l : List Message). Quiet t l f) (sym same) q in
    let o : s.closed ≡ false = open_run s reads (ap (λ (u : PlainList). u.closed) (sym end) ∙ unshut) in
    let r = swap_all t s b.reads f w q' back in (
      subst (λ (l : List Happening). Legal t empty (events l)) (sym b.is) (legal_join t empty b.front (fed f ∷ reads) (legal_front t empty b.front reads whole) (quiet_right t s f o q', r.0)),
      ap (λ (l : List Happening). run empty (events l)) b.is ∙ (run_more empty b.front (fed f ∷ reads) ∙ (r.1 ∙ ap (λ (u : PlainList). next u (event_of (fed f))) (sym end))),
    )

-- what a call that neither stores nor finds the pair closed owes
plain_facts : (t : Terms) (full : Bool) (home : Home) (given : List Message) (v d : View) (f : Feed) (e : WordStep) → kind f ≡ plain → v.rotating ≡ false → v.ended ≡ false → finds v.feeds ≡ false
    → AllFit t.capacity (f ∷ []) → Facts t full home given v d
    → Legal t empty (events (merge (v.feeds ++ f ∷ []) d.takes)) → last (v.feeds ++ f ∷ []) d.takes ≡ next (last v.feeds d.takes) (event_of (fed f))
    → Keeps (last v.feeds d.takes) (next (last v.feeds d.takes) (event_of (fed f))) → Facts t full home given (with_feeds v (f ∷ []) e false) d
plain_facts t full home given v d f e is calm going none fit k legal ends keeps = record {
  fits = fits_more t.capacity v.feeds f fit k.fits;
  legal = legal;
  is_open = ap (λ (u : PlainList). u.closed) ends ∙ (fed_open (last v.feeds d.takes) f ∙ (k.is_open ∙ (none ∙ sym (finds_more v.feeds f false (plain_stays f is) none))));
  closer = λ _. finds_more v.feeds f false (plain_stays f is) none;
  in_hold = subst (IsHeld full) (keeps.in_hold ∙ ap (λ (u : PlainList). u.in_hold) (sym ends)) k.in_hold;
  tidy = plain_tidy (turns_of d.takes) v.feeds f full is none k.tidy;
  late = no_ended (merge (v.feeds ++ f ∷ []) d.takes) (ap ended_in (takes_in-merge (v.feeds ++ f ∷ []) d.takes) ∙ k.ender going);
  ender = k.ender;
  unclosed = λ _. finds_more v.feeds f false (plain_stays f is) none;
  seen = k.seen;
  place = subst (BufferFollowsTurn t.capacity full false d.taking home) (keeps.hold ∙ ap hold_of (sym ends)) (subst (λ (x : Bool). BufferFollowsTurn t.capacity full x d.taking home (hold_of (last v.feeds d.takes))) calm k.place);
  held_given = λ y. ap hold_of ends ∙ (sym keeps.hold ∙ k.held_given y);
}

pub quiet_keeps : (t : Terms) (full : Bool) (home : Home) (given : List Message) (v d : View) (f : Feed) (e : WordStep) → v.rotating ≡ false → v.ended ≡ false → finds v.feeds ≡ false
    → AllFit t.capacity (f ∷ []) → Quiet t (store_of v.feeds) f → Facts t full home given v d → Facts t full home given (with_feeds v (f ∷ []) e false) d
quiet_keeps t full home given v d f e calm going none fit q k =
    let r = quiet_run t full v.feeds d.takes f none (k.is_open ∙ none) k.tidy k.legal q in
    let q' : Quiet t (stored (last v.feeds d.takes)) f = subst (λ (l : List Message). Quiet t l f) (sym (store_is t v.feeds d.takes k.legal)) q in
    plain_facts t full home given v d f e (quiet_plain t (store_of v.feeds) f q) calm going none fit k r.0 r.1 (quiet_state t (last v.feeds d.takes) f (within_run (merge v.feeds d.takes)) q')

-- ---- Calls that found the hold full

busy_plain : (t : Terms) (store : List Message) (f : Feed) → Busy t store f → kind f ≡ plain
busy_plain t store (Arrive (Some m) Stored) q = refl
busy_plain t store (Arrive (Some m) Dropped) q = refl
busy_plain t store (Flush false) q = refl
busy_plain t store (Arrive None Passed) q = absurd q
busy_plain t store (Arrive None Stored) q = absurd q
busy_plain t store (Arrive None Held) q = absurd q
busy_plain t store (Arrive None Rotated) q = absurd q
busy_plain t store (Arrive None Dropped) q = absurd q
busy_plain t store (Arrive None Closed) q = absurd q
busy_plain t store (Arrive (Some m) Passed) q = absurd q
busy_plain t store (Arrive (Some m) Held) q = absurd q
busy_plain t store (Arrive (Some m) Rotated) q = absurd q
busy_plain t store (Arrive (Some m) Closed) q = absurd q
busy_plain t store (Flush true) q = absurd q
busy_plain t store FlushClosed q = absurd q

pub busy_keeps : (t : Terms) (home : Home) (given : List Message) (v d : View) (f : Feed) (e : WordStep) → v.rotating ≡ false → v.ended ≡ false → finds v.feeds ≡ false
    → AllFit t.capacity (f ∷ []) → Busy t (store_of v.feeds) f → Facts t true home given v d → Facts t true home given (with_feeds v (f ∷ []) e false) d
busy_keeps t home given v d f e calm going none fit q k =
    let fs : List Feed = v.feeds in let ts : List Take = d.takes in
    let is = busy_plain t (store_of fs) f q in
    let b = plain_before (turns_of ts) fs f true is none k.tidy in
    let grown : merge (fs ++ f ∷ []) ts ≡ merge fs ts ++ fed f ∷ [] =
    b.is ∙ (ap (λ (l : List Take). b.front ++ fed f ∷ map got l) (b.none refl)
    ∙ ap (λ (l : List Happening). l ++ fed f ∷ []) (sym (b.was ∙ (ap (λ (l : List Take). b.front ++ map got l) (b.none refl) ∙ append-nil b.front)))) in
    let q' : Busy t (stored (last fs ts)) f = subst (λ (l : List Message). Busy t l f) (sym (store_is t fs ts k.legal)) q in
    let s = busy_state t (last fs ts) f (k.is_open ∙ none) (within_run (merge fs ts)) k.in_hold q' in
    let r = ends_with t (merge fs ts) (merge (fs ++ f ∷ []) ts) (fed f) grown k.legal s.0 in
    plain_facts t true home given v d f e is calm going none fit k r.0 r.1 s.1

-- ---- Calls that make the store the hold

loud_stores : (t : Terms) (store : List Message) (f : Feed) → Loud t store f → kind f ≡ stores
loud_stores t store (Arrive (Some m) Held) q = refl
loud_stores t store (Arrive (Some m) Rotated) q = refl
loud_stores t store (Flush true) q = refl
loud_stores t store (Arrive None Passed) q = absurd q
loud_stores t store (Arrive None Stored) q = absurd q
loud_stores t store (Arrive None Held) q = absurd q
loud_stores t store (Arrive None Rotated) q = absurd q
loud_stores t store (Arrive None Dropped) q = absurd q
loud_stores t store (Arrive None Closed) q = absurd q
loud_stores t store (Arrive (Some m) Passed) q = absurd q
loud_stores t store (Arrive (Some m) Stored) q = absurd q
loud_stores t store (Arrive (Some m) Dropped) q = absurd q
loud_stores t store (Arrive (Some m) Closed) q = absurd q
loud_stores t store (Flush false) q = absurd q
loud_stores t store FlushClosed q = absurd q

pub loud_keeps : (t : Terms) (home : Home) (given : List Message) (v d : View) (f : Feed) (e : WordStep) → v.ended ≡ false → finds v.feeds ≡ false → d.taking ≡ None
    → AllFit t.capacity (f ∷ []) → Loud t (store_of v.feeds) f → Facts t false home given v d
    → Facts t true (some (filled t.capacity (handed (store_of v.feeds) f))) (handed (store_of v.feeds) f) (with_feeds v (f ∷ []) e false) d
loud_keeps t home given v d f e going none idle fit q k =
    let fs : List Feed = v.feeds in let ts : List Take = d.takes in
    let is = loud_stores t (store_of fs) f q in
    let stays : by_kind (kind f) false false true ≡ false = ap (λ (k : Kind). by_kind k false false true) is in
    let g = store_last (turns_of ts) fs f is none k.tidy in
    let store = store_is t fs ts k.legal in
    let s = loud_state t (last fs ts) f (k.is_open ∙ none) k.in_hold (subst (λ (l : List Message). Loud t l f) (sym store) q) in
    let r = ends_with t (merge fs ts) (merge (fs ++ f ∷ []) ts) (fed f) g.0 k.legal s.0 in
    let held : handed (store_of fs) f ≡ hold_of (last (fs ++ f ∷ []) ts) = ap (λ (l : List Message). handed l f) (sym store) ∙ (s.2 ∙ ap hold_of (sym r.1)) in record {
      fits = fits_more t.capacity fs f fit k.fits;
      legal = r.0;
      is_open = ap (λ (u : PlainList). u.closed) r.1 ∙ (fed_open (last fs ts) f ∙ (k.is_open ∙ (none ∙ sym (finds_more fs f false stays none))));
      closer = λ _. finds_more fs f false stays none;
      in_hold = subst (IsHeld true) (ap (λ (u : PlainList). u.in_hold) (sym r.1)) s.1;
      tidy = g.1;
      late = no_ended (merge (fs ++ f ∷ []) ts) (ap ended_in (takes_in-merge (fs ++ f ∷ []) ts) ∙ k.ender going);
      ender = k.ender;
      unclosed = λ _. finds_more fs f false stays none;
      seen = k.seen;
      place = subst (λ (x : Option (List Message)). BufferFollowsTurn t.capacity true false x (some (filled t.capacity (handed (store_of fs) f))) (hold_of (last (fs ++ f ∷ []) ts))) (sym idle)
          (ap (λ (l : List Message). some (filled t.capacity l)) held);
      held_given = λ _. sym held;
    }

-- ---- Calls that found the pair closed

late_finds : (f : Feed) → kind f ≡ finds_closed → by_kind (kind f) false false true ≡ true
late_finds f is = ap (λ (k : Kind). by_kind k false false true) is

-- the merged list after such a call: the close may come in before it
pub record Later (t : Terms) (full : Bool) (fs : List Feed) (ts : List Take) (f : Feed) : Type 0 where
  pub legal : Legal t empty (events (merge (fs ++ f ∷ []) ts))
  pub closes : (last (fs ++ f ∷ []) ts).closed ≡ true
  pub keeps : Keeps (last fs ts) (last (fs ++ f ∷ []) ts)
  pub tidy : Tidy (turns_of ts) (fs ++ f ∷ []) full
  pub found : finds (fs ++ f ∷ []) ≡ true

first_late : (t : Terms) (full : Bool) (fs : List Feed) (ts : List Take) (f : Feed) → kind f ≡ finds_closed → finds fs ≡ false → Tidy (turns_of ts) fs full
    → Legal t empty (events (merge fs ts)) → Later t full fs ts f
first_late t full fs ts f is none tidy legal =
    let g = shut_last (turns_of ts) fs f full is none tidy in
    let s : PlainList = last fs ts in
    let u : PlainList = next s closed in
    let l = late_state t u f is refl in
    let ends : last (fs ++ f ∷ []) ts ≡ u = ap (λ (l : List Happening). run empty (events l)) g.0 ∙ (run_more empty (merge fs ts) (shut ∷ fed f ∷ []) ∙ l.1) in record {
      legal = subst (λ (l : List Happening). Legal t empty (events l)) (sym g.0) (legal_join t empty (merge fs ts) (shut ∷ fed f ∷ []) legal (tt, (l.0, tt)));
      closes = ap (λ (x : PlainList). x.closed) ends;
      keeps = record { in_hold = ap (λ (x : PlainList). x.in_hold) (sym ends); hold = ap hold_of (sym ends) };
      tidy = g.1;
      found = finds_more fs f true (late_finds f is) none;
    }

next_late : (t : Terms) (full : Bool) (fs : List Feed) (ts : List Take) (f : Feed) → kind f ≡ finds_closed → finds fs ≡ true → (last fs ts).closed ≡ true → Tidy (turns_of ts) fs full
    → Legal t empty (events (merge fs ts)) → Later t full fs ts f
next_late t full fs ts f is had shut' tidy legal =
    let g = closed_last (turns_of ts) fs f full is had tidy in
    let l = late_state t (last fs ts) f is shut' in
    let r = ends_with t (merge fs ts) (merge (fs ++ f ∷ []) ts) (fed f) g.0 legal l.0 in
    let ends : last (fs ++ f ∷ []) ts ≡ last fs ts = r.1 ∙ l.1 in record {
      legal = r.0;
      closes = ap (λ (x : PlainList). x.closed) ends ∙ shut';
      keeps = record { in_hold = ap (λ (x : PlainList). x.in_hold) (sym ends); hold = ap hold_of (sym ends) };
      tidy = g.1;
      found = found_more fs f had;
    }

later : (t : Terms) (full : Bool) (fs : List Feed) (ts : List Take) (f : Feed) → kind f ≡ finds_closed → (last fs ts).closed ≡ finds fs → Tidy (turns_of ts) fs full
    → Legal t empty (events (merge fs ts)) → Later t full fs ts f
later t full fs ts f is o tidy legal = by (finds fs) refl
  where
    by : (b : Bool) → finds fs ≡ b → Later t full fs ts f
    by true e = next_late t full fs ts f is e (o ∙ e) tidy legal
    by false e = first_late t full fs ts f is e tidy legal

pub late_keeps : (t : Terms) (full : Bool) (home : Home) (given : List Message) (v d : View) (f : Feed) (e : WordStep) → v.rotating ≡ false → v.ended ≡ false → d.closed ≡ true → kind f ≡ finds_closed
    → AllFit t.capacity (f ∷ []) → Facts t full home given v d → Facts t full home given (with_feeds v (f ∷ []) e false) d
late_keeps t full home given v d f e calm going shut' is fit k =
    let l = later t full v.feeds d.takes f is k.is_open k.tidy k.legal in record {
      fits = fits_more t.capacity v.feeds f fit k.fits;
      legal = l.legal;
      is_open = l.closes ∙ sym l.found;
      closer = λ n. absurd (true≢false (sym shut' ∙ n));
      in_hold = subst (IsHeld full) l.keeps.in_hold k.in_hold;
      tidy = l.tidy;
      late = no_ended (merge (v.feeds ++ f ∷ []) d.takes) (ap ended_in (takes_in-merge (v.feeds ++ f ∷ []) d.takes) ∙ k.ender going);
      ender = k.ender;
      unclosed = λ n. absurd (true≢false (sym n ∙ k.ender going));
      seen = k.seen;
      place = subst (BufferFollowsTurn t.capacity full false d.taking home) l.keeps.hold (subst (λ (x : Bool). BufferFollowsTurn t.capacity full x d.taking home (hold_of (last v.feeds d.takes))) calm k.place);
      held_given = λ y. sym l.keeps.hold ∙ k.held_given y;
    }

-- ---- Reads

idle_right : (t : Terms) (s : PlainList) (b : Bool) → s.in_hold ≡ 0 → IsRight t s (event_of (got (idle b))) × (next s (event_of (got (idle b))) ≡ s)
idle_right t s true z = (inr z, refl)
idle_right t s false z = (inr z, refl)

idle_answers : (b : Bool) → Answers (idle b) false
idle_answers true = refl
idle_answers false = refl

idle_ender : (v d : View) (b : Bool) → d.sees_end ≡ b → (d.sees_end ≡ true → v.ended ≡ true) → (v.ended ≡ false → ended_in d.takes ≡ false)
    → v.ended ≡ false → ended_in (d.takes ++ idle b ∷ []) ≡ false
idle_ender v d true e seen ender n = absurd (true≢false (sym (seen e) ∙ n))
idle_ender v d false e seen ender n = ended_same d.takes Nothing refl ∙ ender n

pub idle_keeps : (t : Terms) (home : Home) (given : List Message) (v d : View) (e : WordStep) → d.closed ≡ false → d.taking ≡ None → Facts t false home given v d
    → Facts t false home given v (with_takes d (idle d.sees_end ∷ []) e None)
idle_keeps t home given v d e unshut calm k =
    let fs : List Feed = v.feeds in let ts : List Take = d.takes in let r : Take = idle d.sees_end in
    let none = k.closer unshut in
    let g = read_last fs ts r false (idle_answers d.sees_end) none k.tidy in
    let i = idle_right t (last fs ts) d.sees_end k.in_hold in
    let l = ends_with t (merge fs ts) (merge fs (ts ++ r ∷ [])) (got r) g.0 k.legal i.0 in
    let ends : last fs (ts ++ r ∷ []) ≡ last fs ts = l.1 ∙ i.1 in record {
      fits = k.fits;
      legal = l.0;
      is_open = ap (λ (u : PlainList). u.closed) ends ∙ k.is_open;
      closer = k.closer;
      in_hold = subst (IsHeld false) (ap (λ (u : PlainList). u.in_hold) (sym ends)) k.in_hold;
      tidy = g.1;
      late = subst EndedIsLast (sym g.0) (ended_more (merge fs ts) r k.late);
      ender = idle_ender v d d.sees_end refl k.seen k.ender;
      unclosed = λ _. none;
      seen = k.seen;
      place = subst (BufferFollowsTurn t.capacity false v.rotating None home) (ap hold_of (sym ends)) (subst (λ (x : Option (List Message)). BufferFollowsTurn t.capacity false v.rotating x home (hold_of (last fs ts))) calm k.place);
      held_given = λ y. absurd (true≢false (sym y));
    }

pub full_keeps : (t : Terms) (home : Home) (given : List Message) (v d : View) (batch : List Message) (e : WordStep) → d.closed ≡ false → d.taking ≡ Some batch → v.rotating ≡ false → Facts t true home given v d
    → Facts t false (some (filled t.capacity [])) given v (with_takes d (Full batch ∷ []) e None)
full_keeps t home given v d batch e unshut busy calm k =
    let fs : List Feed = v.feeds in let ts : List Take = d.takes in let r : Take = Full batch in
    let none = k.closer unshut in
    let place : BufferFollowsTurn t.capacity true false (Some batch) home (hold_of (last fs ts)) =
    subst (λ (x : Option (List Message)). BufferFollowsTurn t.capacity true false x home (hold_of (last fs ts))) busy (subst (λ (x : Bool). BufferFollowsTurn t.capacity true x d.taking home (hold_of (last fs ts))) calm k.place) in
    let g = read_last fs ts r true refl none k.tidy in
    let l = ends_with t (merge fs ts) (merge fs (ts ++ r ∷ [])) (got r) g.0 k.legal (k.is_open ∙ none, k.in_hold, place.1) in record {
      fits = k.fits;
      legal = l.0;
      is_open = ap (λ (u : PlainList). u.closed) l.1 ∙ k.is_open;
      closer = k.closer;
      in_hold = ap (λ (u : PlainList). u.in_hold) l.1;
      tidy = g.1;
      late = subst EndedIsLast (sym g.0) (ended_more (merge fs ts) r k.late);
      ender = λ n. ended_same ts r refl ∙ k.ender n;
      unclosed = λ _. none;
      seen = k.seen;
      place = subst (λ (x : Bool). BufferFollowsTurn t.capacity false x None (some (filled t.capacity [])) (hold_of (last fs (ts ++ r ∷ [])))) (sym calm) refl;
      held_given = λ y. absurd (true≢false (sym y));
    }
