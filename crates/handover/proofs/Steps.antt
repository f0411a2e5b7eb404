-- Each step keeps the rule.
use Rattle.std.proofs.Common.{◌≡◌, ℕ, zero, suc, Bool, true, false, ◌||◌, true≢false, List, [], ◌∷◌, ◌++◌, set, Option, Some, None, refl, sym, ap, ◌∙◌, subst, arith, append-nil, inl}
use Rattle.std.specs.Prelude.{slice_index}
use mathlib.Core.Option.{some, none, some-injective, some-ne-none}
use mathlib.Core.List.{IsPrefix}
use lib.ListN.{get_elem?}
use Rattle.atomic_table.specs.Table.{Act, keeps, takes, gives, Valid, homes_after, carried_after, Allows, Splits, Joins, rest, put_back}
use Rattle.listener.specs.declared.message.Message.{Message}
use Rattle.listener.specs.Buffers.{Filled, filled}
use Rattle.listener.specs.PlainList.{Terms, empty, Legal}
use Rattle.listener.specs.Laws.{hold_of}
use Rattle.handover.specs.declared.calls.Feed.{Feed}
use Rattle.handover.specs.declared.calls.Take.{Take}
use Rattle.handover.specs.declared.calls.Take.TheVariants.{Full}
use Rattle.handover.specs.declared.calls.Word.TheVariants as word
use Rattle.handover.specs.declared.calls.WordStep.{WordStep}
use Rattle.handover.specs.declared.calls.WordStep.TheVariants.{Load, Store, Give}
use Rattle.handover.specs.declared.view.Role.TheVariants.{Whole, Feeds, Drains, Joined, Spent}
use Rattle.handover.specs.declared.view.Profile.{Profile}
use Rattle.handover.specs.declared.view.View.{View}
use Rattle.handover.specs.declared.view.Sight.{Sight}
use Rattle.handover.specs.declared.calls.EndStep.{EndStep}
use Rattle.handover.specs.declared.calls.EndStep.TheVariants.{OfFeeder, OfDrain}
use Rattle.handover.specs.History.{events, merge, turns_of, EndedIsLast, ended_in, finds, kind, finds_closed}
use Rattle.handover.specs.Tidy.{Tidy}
use Rattle.handover.specs.Allowed.{IsQuiet, Busy, Loud, handed, AllFit}
use Rattle.handover.specs.Own.{store_of}
use Rattle.handover.specs.Rule.{Home, IsHeld, bit, terms_of, last, BufferFollowsTurn, Facts, Seats, whole, apart, joined, AllSpent, witness, KeepsRule, first, for_feeder, for_drain, joint, spent, IsOrder, FeederSees, DrainSees, Sitting, known, with_feeds, with_takes, ended_by, saw_end, closed_by, idle, AreLegalWithReads, IsLegalWithReads, Sat, saw_closed, saw_turn, set_turn, set_ended, looked_ended, looked_turn, cleared, set_closed}
use Rattle.handover.specs.Orders.{Finds, behind, is_store_to, store_to, given_by, last_given}
use Rattle.handover.proofs.Orders.{feeder_at_step, drain_at_step, by_feeder, by_drain, given_more, same_latest, flag_more}
use Rattle.handover.proofs.Keeps.{quiet_keeps, busy_keeps, loud_keeps, late_keeps, idle_keeps, full_keeps}

-- ---- The feeder's seat

abbrev words_of : Bool → View → View → List ℕ
words_of full f d = bit full ∷ bit d.closed ∷ bit f.ended ∷ []

-- the same by the stores that were made, as the rule has them
abbrev stores_of : Bool → View → View → List ℕ
stores_of full f d = bit full ∷ bit (store_to word.Closed d.take_steps) ∷ bit (store_to word.Ended f.feed_steps) ∷ []

by_flags : (ws : List ℕ) (full : Bool) (f d : View) → ws ≡ stores_of full f d → d.closed ≡ store_to word.Closed d.take_steps → f.ended ≡ store_to word.Ended f.feed_steps → ws ≡ words_of full f d
by_flags ws full f d is closed ended = is ∙ (λ i. bit full ∷ bit (sym closed i) ∷ bit (sym ended i) ∷ [])

by_stores : (ws : List ℕ) (full : Bool) (f d : View) → ws ≡ words_of full f d → d.closed ≡ store_to word.Closed d.take_steps → f.ended ≡ store_to word.Ended f.feed_steps → ws ≡ stores_of full f d
by_stores ws full f d is closed ended = is ∙ (λ i. bit full ∷ bit (closed i) ∷ bit (ended i) ∷ [])

-- what a step of the feeder owes, where its view and the drain's are known
pub record FeedStep (me : Sat) (i : ℕ) (f : ℕ → ℕ) (then : ℕ → Sat → Type 0) (full : Bool) (home : Home) (given : List Message) (d : View) : Type 0 where
  pub view : View
  pub act : Act Filled
  pub full_after : Bool
  pub home_after : Home
  pub valid : Valid (home ∷ []) me.1 act
  pub role : view.role ≡ Feeds
  pub profile : view.profile ≡ me.0.profile
  pub words : set (words_of full me.0 d) i (f (slice_index (words_of full me.0 d) i)) ≡ words_of full_after view d
  pub made : WordStep
  pub steps : view.feed_steps ≡ me.0.feed_steps ++ made ∷ []
  pub finds : Finds (words_of full me.0 d) made
  pub leaves : words_of full_after view d ≡ behind (words_of full me.0 d) made
  pub ends : view.ended ≡ (is_store_to word.Ended made || me.0.ended)
  pub homes : homes_after (home ∷ []) me.1 act ≡ home_after ∷ []
  pub facts : Facts (terms_of me.0.profile) full_after home_after (given_by (OfFeeder made) given) view d
  pub told : then (slice_index (words_of full me.0 d) i) (view, carried_after me.1 act)

pub spent_at : (os : List Sight) (k : ℕ) (v : Sight) → AllSpent os → get_elem? os k ≡ some v → v.view.role ≡ Spent
spent_at [] k v s e = absurd (some-ne-none v (sym e))
spent_at (o ∷ os) zero v s e = ap (λ (u : Sight). u.view.role) (sym (some-injective o v e)) ∙ s.0
spent_at (o ∷ os) (suc k) v s e = spent_at os k v s.1 e

-- the feeder's seat is the first
pub feeder_at : (f d v : Sight) (vs : List Sight) (id : ℕ) → Seats f d vs → get_elem? vs id ≡ some v → v.view.role ≡ Feeds → (vs ≡ f ∷ d ∷ []) × (id ≡ 0) × (f ≡ v) × (d.view.role ≡ Drains)
feeder_at f d v vs id (whole p q) at r = absurd (one id at)
  where
    one : (id : ℕ) → get_elem? (f ∷ []) id ≡ some v → ⊥
    one zero e = let s : f.view.role ≡ v.view.role = ap (λ (o : Sight). o.view.role) (some-injective f v e) in let q' : f.view.role ≡ Whole = q in cc
    one (suc k) e = some-ne-none v (sym e)
feeder_at f d v vs id (apart p q) at r = two id at
  where
    two : (id : ℕ) → get_elem? (f ∷ d ∷ []) id ≡ some v → (f ∷ d ∷ [] ≡ f ∷ d ∷ []) × (id ≡ 0) × (f ≡ v) × (d.view.role ≡ Drains)
    two zero e = (refl, refl, some-injective f v e, q)
    two (suc zero) e = let s : d.view.role ≡ v.view.role = ap (λ (o : Sight). o.view.role) (some-injective d v e) in absurd (cc)
    two (suc (suc k)) e = absurd (some-ne-none v (sym e))
feeder_at f d v vs id (joined os p q s) at r = absurd (two id at)
  where
    two : (id : ℕ) → get_elem? (f ∷ os) id ≡ some v → ⊥
    two zero e = let t : f.view.role ≡ v.view.role = ap (λ (u : Sight). u.view.role) (some-injective f v e) in cc
    two (suc k) e = let t : v.view.role ≡ Spent = spent_at os k v s e in cc

pub feeder_allows : (p : Profile) (slots id : ℕ) (me : Sitting) (i : ℕ) (f : ℕ → ℕ) (then : ℕ → Sat → Type 0) → me.0.view.role ≡ Feeds
    → ((full : Bool) (home : Home) (given : List Message) (d : View) → Facts (terms_of me.0.view.profile) full home given me.0.view d → FeedStep (known me) i f then full home given d)
    → Allows (KeepsRule p) slots id me i f (λ r n. then r (known n) × IsLegalWithReads n.0.view × FeederSees me.0 n.0)
feeder_allows p slots id me i f then role go s k _ at _ =
    let a = feeder_at k.feeder k.drain me.0 s.views id k.seats at role in
    let same : k.feeder.view.profile ≡ me.0.view.profile = ap (λ (v : Sight). v.view.profile) a.2 in
    let given : List Message = last_given k.order in
    let facts : Facts (terms_of me.0.view.profile) k.full k.home given me.0.view k.drain.view =
    subst (λ (v : Sight). Facts (terms_of v.view.profile) k.full k.home given v.view k.drain.view) a.2
    (subst (λ (x : Profile). Facts (terms_of x) k.full k.home given k.feeder.view k.drain.view) (sym k.feeder_profile) k.facts) in
    let words : s.words ≡ words_of k.full me.0.view k.drain.view = by_flags s.words k.full k.feeder.view k.drain.view k.words k.closed k.ended ∙ ap (λ (v : Sight). words_of k.full v.view k.drain.view) a.2 in
    let g = go k.full k.home given k.drain.view facts in
    let is : me.0.view.profile ≡ p = sym same ∙ k.feeder_profile in
    let after : set s.words i (f (slice_index s.words i)) ≡ words_of g.full_after g.view k.drain.view = ap (λ (ws : List ℕ). set ws i (f (slice_index ws i))) words ∙ g.words in
    let steps : IsOrder k.order s.words me.0 k.drain = subst (λ (v : Sight). IsOrder k.order s.words v k.drain) a.2 k.steps in
    let order = by_feeder k.order s.words (set s.words i (f (slice_index s.words i))) me.0 k.drain g.view g.made steps (subst (λ (ws : List ℕ). Finds ws g.made) (sym words) g.finds)
    (after ∙ (g.leaves ∙ ap (λ (ws : List ℕ). behind ws g.made) (sym words))) g.steps in
    let mine : me.0.view.ended ≡ store_to word.Ended me.0.view.feed_steps = subst (λ (v : Sight). v.view.ended ≡ store_to word.Ended v.view.feed_steps) a.2 k.ended in
    let ended : g.view.ended ≡ store_to word.Ended g.view.feed_steps = flag_more word.Ended me.0.view.feed_steps g.view.feed_steps g.made me.0.view.ended g.view.ended g.steps mine g.ends in
    let next : Sight = feeder_at_step me.0 g.view (k.order ++ OfFeeder g.made ∷ []) in (
      next,
      g.act,
      subst (λ (hs : List Home). Valid hs me.1 g.act) (sym k.homes) g.valid,
      record {
        full = g.full_after;
        home = g.home_after;
        feeder = next;
        drain = k.drain;
        order = k.order ++ OfFeeder g.made ∷ [];
        words = by_stores (set s.words i (f (slice_index s.words i))) g.full_after g.view k.drain.view after k.closed ended;
        closed = k.closed;
        ended = ended;
        homes = ap (λ (hs : List Home). homes_after hs me.1 g.act) k.homes ∙ g.homes;
        seats = subst (Seats next k.drain) (λ j. set (sym a.0 j) (sym a.1 j) next) (apart g.role a.3);
        feeder_profile = g.profile ∙ is;
        drain_profile = k.drain_profile;
        facts = subst (λ (x : Profile). Facts (terms_of x) g.full_after g.home_after (last_given (k.order ++ OfFeeder g.made ∷ [])) g.view k.drain.view) is
            (subst (λ (l : List Message). Facts (terms_of me.0.view.profile) g.full_after g.home_after l g.view k.drain.view) (sym (given_more [] k.order (OfFeeder g.made))) g.facts);
        steps = order.0;
      },
      (
        subst (λ (ws : List ℕ). then (slice_index ws i) (g.view, carried_after me.1 g.act)) (sym words) g.told,
        subst (λ (x : Profile). AreLegalWithReads (terms_of x) g.view.feeds) (sym g.profile) (record { fits = g.facts.fits; takes = k.drain.view.takes; legal = g.facts.legal }),
        order.1,
      ),
    )

-- ---- The drain's seat

-- the drain's seat is the second
drain_at : (f d v : Sight) (vs : List Sight) (id : ℕ) → Seats f d vs → get_elem? vs id ≡ some v → v.view.role ≡ Drains → (vs ≡ f ∷ d ∷ []) × (id ≡ 1) × (d ≡ v) × (f.view.role ≡ Feeds)
drain_at f d v vs id (whole p q) at r = absurd (one id at)
  where
    one : (id : ℕ) → get_elem? (f ∷ []) id ≡ some v → ⊥
    one zero e = let s : f.view.role ≡ v.view.role = ap (λ (o : Sight). o.view.role) (some-injective f v e) in let q' : f.view.role ≡ Whole = q in cc
    one (suc k) e = some-ne-none v (sym e)
drain_at f d v vs id (apart p q) at r = two id at
  where
    two : (id : ℕ) → get_elem? (f ∷ d ∷ []) id ≡ some v → (f ∷ d ∷ [] ≡ f ∷ d ∷ []) × (id ≡ 1) × (d ≡ v) × (f.view.role ≡ Feeds)
    two zero e = let s : f.view.role ≡ v.view.role = ap (λ (o : Sight). o.view.role) (some-injective f v e) in absurd (cc)
    two (suc zero) e = (refl, refl, some-injective d v e, p)
    two (suc (suc k)) e = absurd (some-ne-none v (sym e))
drain_at f d v vs id (joined os p q s) at r = absurd (two id at)
  where
    two : (id : ℕ) → get_elem? (f ∷ os) id ≡ some v → ⊥
    two zero e = let t : f.view.role ≡ v.view.role = ap (λ (u : Sight). u.view.role) (some-injective f v e) in cc
    two (suc k) e = let t : v.view.role ≡ Spent = spent_at os k v s e in cc

-- what a step of the drain owes, where its view and the feeder's are known
pub record DrainStep (me : Sat) (i : ℕ) (f : ℕ → ℕ) (then : List Message → ℕ → Sat → Type 0) (full : Bool) (home : Home) (given : List Message) (v : View) : Type 0 where
  pub view : View
  pub act : Act Filled
  pub full_after : Bool
  pub home_after : Home
  pub valid : Valid (home ∷ []) me.1 act
  pub role : view.role ≡ Drains
  pub profile : view.profile ≡ me.0.profile
  pub words : set (words_of full v me.0) i (f (slice_index (words_of full v me.0) i)) ≡ words_of full_after v view
  pub made : WordStep
  pub steps : view.take_steps ≡ me.0.take_steps ++ made ∷ []
  pub finds : Finds (words_of full v me.0) made
  pub leaves : words_of full_after v view ≡ behind (words_of full v me.0) made
  pub closes : view.closed ≡ (is_store_to word.Closed made || me.0.closed)
  pub homes : homes_after (home ∷ []) me.1 act ≡ home_after ∷ []
  pub facts : Facts (terms_of me.0.profile) full_after home_after given v view
  pub told : then given (slice_index (words_of full v me.0) i) (view, carried_after me.1 act)

pub drain_allows : (p : Profile) (slots id : ℕ) (me : Sitting) (i : ℕ) (f : ℕ → ℕ) (then : List Message → ℕ → Sat → Type 0) → me.0.view.role ≡ Drains
    → ((full : Bool) (home : Home) (given : List Message) (v : View) → Facts (terms_of me.0.view.profile) full home given v me.0.view → DrainStep (known me) i f then full home given v)
    → Allows (KeepsRule p) slots id me i f (λ r n. then (last_given n.0.drain_saw) r (known n) × DrainSees me.0 n.0)
drain_allows p slots id me i f then role go s k _ at _ =
    let a = drain_at k.feeder k.drain me.0 s.views id k.seats at role in
    let same : k.drain.view.profile ≡ me.0.view.profile = ap (λ (v : Sight). v.view.profile) a.2 in
    let given : List Message = last_given k.order in
    let facts : Facts (terms_of me.0.view.profile) k.full k.home given k.feeder.view me.0.view =
    subst (λ (v : Sight). Facts (terms_of v.view.profile) k.full k.home given k.feeder.view v.view) a.2
    (subst (λ (x : Profile). Facts (terms_of x) k.full k.home given k.feeder.view k.drain.view) (sym k.drain_profile) k.facts) in
    let words : s.words ≡ words_of k.full k.feeder.view me.0.view = by_flags s.words k.full k.feeder.view k.drain.view k.words k.closed k.ended ∙ ap (λ (v : Sight). words_of k.full k.feeder.view v.view) a.2 in
    let g = go k.full k.home given k.feeder.view facts in
    let is : me.0.view.profile ≡ p = sym same ∙ k.drain_profile in
    let after : set s.words i (f (slice_index s.words i)) ≡ words_of g.full_after k.feeder.view g.view = ap (λ (ws : List ℕ). set ws i (f (slice_index ws i))) words ∙ g.words in
    let steps : IsOrder k.order s.words k.feeder me.0 = subst (λ (v : Sight). IsOrder k.order s.words k.feeder v) a.2 k.steps in
    let order = by_drain k.order s.words (set s.words i (f (slice_index s.words i))) k.feeder me.0 g.view g.made steps (subst (λ (ws : List ℕ). Finds ws g.made) (sym words) g.finds)
    (after ∙ (g.leaves ∙ ap (λ (ws : List ℕ). behind ws g.made) (sym words))) g.steps in
    let mine : me.0.view.closed ≡ store_to word.Closed me.0.view.take_steps = subst (λ (v : Sight). v.view.closed ≡ store_to word.Closed v.view.take_steps) a.2 k.closed in
    let closed : g.view.closed ≡ store_to word.Closed g.view.take_steps = flag_more word.Closed me.0.view.take_steps g.view.take_steps g.made me.0.view.closed g.view.closed g.steps mine g.closes in
    let same_given : last_given (k.order ++ OfDrain g.made ∷ []) ≡ given = given_more [] k.order (OfDrain g.made) in
    let next : Sight = drain_at_step me.0 g.view (k.order ++ OfDrain g.made ∷ []) in (
      next,
      g.act,
      subst (λ (hs : List Home). Valid hs me.1 g.act) (sym k.homes) g.valid,
      record {
        full = g.full_after;
        home = g.home_after;
        feeder = k.feeder;
        drain = next;
        order = k.order ++ OfDrain g.made ∷ [];
        words = by_stores (set s.words i (f (slice_index s.words i))) g.full_after k.feeder.view g.view after closed k.ended;
        closed = closed;
        ended = k.ended;
        homes = ap (λ (hs : List Home). homes_after hs me.1 g.act) k.homes ∙ g.homes;
        seats = subst (Seats k.feeder next) (λ j. set (sym a.0 j) (sym a.1 j) next) (apart a.3 g.role);
        feeder_profile = k.feeder_profile;
        drain_profile = g.profile ∙ is;
        facts = subst (λ (x : Profile). Facts (terms_of x) g.full_after g.home_after (last_given (k.order ++ OfDrain g.made ∷ [])) k.feeder.view g.view) is
            (subst (λ (l : List Message). Facts (terms_of me.0.view.profile) g.full_after g.home_after l k.feeder.view g.view) (sym same_given) g.facts);
        steps = order.0;
      },
      (
        subst (λ (l : List Message). then l (slice_index s.words i) (g.view, carried_after me.1 g.act)) (sym same_given)
            (subst (λ (ws : List ℕ). then given (slice_index ws i) (g.view, carried_after me.1 g.act)) (sym words) g.told),
        order.1,
      ),
    )

-- ---- The feeder's load of `closed`

-- a load that ends no call
looks_on : (t : Terms) (full : Bool) (home : Home) (given : List Message) (v d w : View) → w.feeds ≡ v.feeds ++ [] → w.ended ≡ v.ended → w.rotating ≡ v.rotating → Facts t full home given v d
    → Facts t full home given w d
looks_on t full home given v d w same going turning k =
    let fs : w.feeds ≡ v.feeds = same ∙ append-nil v.feeds in record {
      fits = subst (AllFit t.capacity) (sym fs) k.fits;
      legal = subst (λ (l : List Feed). Legal t empty (events (merge l d.takes))) (sym fs) k.legal;
      is_open = subst (λ (l : List Feed). (last l d.takes).closed ≡ finds l) (sym fs) k.is_open;
      closer = subst (λ (l : List Feed). d.closed ≡ false → finds l ≡ false) (sym fs) k.closer;
      in_hold = subst (λ (l : List Feed). IsHeld full (last l d.takes).in_hold) (sym fs) k.in_hold;
      tidy = subst (λ (l : List Feed). Tidy (turns_of d.takes) l full) (sym fs) k.tidy;
      late = subst (λ (l : List Feed). EndedIsLast (merge l d.takes)) (sym fs) k.late;
      ender = subst (λ (b : Bool). b ≡ false → ended_in d.takes ≡ false) (sym going) k.ender;
      unclosed = subst (λ (l : List Feed). ended_in d.takes ≡ true → finds l ≡ false) (sym fs) k.unclosed;
      seen = subst (λ (b : Bool). d.sees_end ≡ true → b ≡ true) (sym going) k.seen;
      place = subst (λ (l : List Feed). BufferFollowsTurn t.capacity full w.rotating d.taking home (hold_of (last l d.takes))) (sym fs)
          (subst (λ (b : Bool). BufferFollowsTurn t.capacity full b d.taking home (hold_of (last v.feeds d.takes))) (sym turning) k.place);
      held_given = λ y. ap (λ (l : List Feed). hold_of (last l d.takes)) fs ∙ k.held_given y;
    }

quiet_list : (t : Terms) (full : Bool) (home : Home) (given : List Message) (v d : View) (gs : List Feed) (e : WordStep) → v.rotating ≡ false → v.ended ≡ false → finds v.feeds ≡ false
    → IsQuiet t v.feeds gs → Facts t full home given v d → Facts t full home given (with_feeds v gs e false) d
quiet_list t full home given v d [] e calm going yet q k = looks_on t full home given v d (with_feeds v [] e false) refl refl (sym calm) k
quiet_list t full home given v d (f ∷ []) e calm going yet q k = quiet_keeps t full home given v d f e calm going yet q.1 q.0 k
quiet_list t full home given v d (f ∷ g ∷ gs) e calm going yet q k = absurd q

closed_step : (me : Sat) (gs : List Feed) (f : Feed) → me.0.role ≡ Feeds → me.0.rotating ≡ false → me.0.ended ≡ false → IsQuiet (terms_of me.0.profile) me.0.feeds gs
    → kind f ≡ finds_closed → AllFit me.0.profile.capacity (f ∷ [])
    → (full : Bool) (home : Home) (given : List Message) (d : View) (b : Bool) → d.closed ≡ b → Facts (terms_of me.0.profile) full home given me.0 d → FeedStep me 1 (λ n. n) (saw_closed gs f me) full home given d
closed_step me gs f role calm going q is fit full home given d false at k = record {
  view = with_feeds me.0 gs (Load word.Closed 0) false;
  act = keeps;
  full_after = full;
  home_after = home;
  valid = tt;
  role = role;
  profile = refl;
  words = refl;
  made = Load word.Closed 0;
  steps = refl;
  finds = ap bit at;
  leaves = refl;
  ends = refl;
  homes = refl;
  facts = quiet_list (terms_of me.0.profile) full home given me.0 d gs (Load word.Closed 0) calm going (k.closer at) q k;
  told = ((λ _. (refl, k.closer at)), (λ ne. absurd (ne (ap bit at))));
}
closed_step me gs f role calm going q is fit full home given d true at k = record {
  view = with_feeds me.0 (f ∷ []) (Load word.Closed 1) false;
  act = keeps;
  full_after = full;
  home_after = home;
  valid = tt;
  role = role;
  profile = refl;
  words = refl;
  made = Load word.Closed 1;
  steps = refl;
  finds = ap bit at;
  leaves = refl;
  ends = refl;
  homes = refl;
  facts = late_keeps (terms_of me.0.profile) full home given me.0 d f (Load word.Closed 1) calm going at is fit k;
  told = ((λ z. let o : bit true ≡ 0 = ap bit (sym at) ∙ z in absurd (omega (arith, o))), (λ _. (ap bit at, refl)));
}

pub sees_closed : (p : Profile) (slots id : ℕ) (me : Sitting) (gs : List Feed) (f : Feed) → me.0.view.role ≡ Feeds → me.0.view.rotating ≡ false → me.0.view.ended ≡ false
    → IsQuiet (terms_of me.0.view.profile) me.0.view.feeds gs → kind f ≡ finds_closed → AllFit me.0.view.profile.capacity (f ∷ [])
    → Allows (KeepsRule p) slots id me 1 (λ n. n) (λ r n. saw_closed gs f (known me) r (known n) × IsLegalWithReads n.0.view × FeederSees me.0 n.0)
sees_closed p slots id me gs f role calm going q is fit = feeder_allows p slots id me 1 (λ n. n) (saw_closed gs f (known me)) role
    (λ full home given d k. closed_step (known me) gs f role calm going q is fit full home given d d.closed refl k)

-- ---- The feeder's load of `turn`

turn_step : (me : Sat) (f : Feed) → me.0.role ≡ Feeds → me.0.rotating ≡ false → me.0.ended ≡ false → finds me.0.feeds ≡ false → Busy (terms_of me.0.profile) (store_of me.0.feeds) f
    → AllFit me.0.profile.capacity (f ∷ [])
    → (full : Bool) (home : Home) (given : List Message) (d : View) (x : Option (List Message)) → d.taking ≡ x → Facts (terms_of me.0.profile) full home given me.0 d
    → FeedStep me 0 (λ n. n) (saw_turn f me) full home given d
turn_step me f role calm going yet q fit true home given d x at k = record {
  view = with_feeds me.0 (f ∷ []) (Load word.Turn 1) false;
  act = keeps;
  full_after = true;
  home_after = home;
  valid = tt;
  role = role;
  profile = refl;
  words = refl;
  made = Load word.Turn 1;
  steps = refl;
  finds = refl;
  leaves = refl;
  ends = refl;
  homes = refl;
  facts = busy_keeps (terms_of me.0.profile) home given me.0 d f (Load word.Turn 1) calm going yet fit q k;
  told = ((λ e. absurd (omega arith)), (λ _. (refl, refl)));
}
turn_step me f role calm going yet q fit false home given d None at k =
    let t : Terms = terms_of me.0.profile in
    let place : home ≡ some (filled t.capacity []) =
    subst (λ (x : Option (List Message)). BufferFollowsTurn t.capacity false false x home (hold_of (last me.0.feeds d.takes))) at
    (subst (λ (b : Bool). BufferFollowsTurn t.capacity false b d.taking home (hold_of (last me.0.feeds d.takes))) calm k.place) in
    let out : Facts t false home given (with_feeds me.0 [] (Load word.Turn 0) false) d = looks_on t false home given me.0 d (with_feeds me.0 [] (Load word.Turn 0) false) refl refl (sym calm) k in record {
      view = with_feeds me.0 [] (Load word.Turn 0) true;
      act = takes 0 (filled t.capacity []);
      full_after = false;
      home_after = none;
      valid = ap some place;
      role = role;
      profile = refl;
      words = refl;
      made = Load word.Turn 0;
      steps = refl;
      finds = refl;
      leaves = refl;
      ends = refl;
      homes = refl;
      facts = record {
        fits = out.fits;
        legal = out.legal;
        is_open = out.is_open;
        closer = out.closer;
        in_hold = out.in_hold;
        tidy = out.tidy;
        late = out.late;
        ender = out.ender;
        unclosed = out.unclosed;
        seen = out.seen;
        place = subst (λ (x : Option (List Message)). BufferFollowsTurn t.capacity false true x none (hold_of (last (me.0.feeds ++ []) d.takes))) (sym at) refl;
        held_given = out.held_given;
      };
      told = ((λ _. refl), (λ ne. absurd (ne refl)));
    }
turn_step me f role calm going yet q fit false home given d (Some batch) at k =
    let t : Terms = terms_of me.0.profile in
    absurd (subst (λ (x : Option (List Message)). BufferFollowsTurn t.capacity false false x home (hold_of (last me.0.feeds d.takes))) at
    (subst (λ (b : Bool). BufferFollowsTurn t.capacity false b d.taking home (hold_of (last me.0.feeds d.takes))) calm k.place))

pub sees_turn : (p : Profile) (slots id : ℕ) (me : Sitting) (f : Feed) → me.0.view.role ≡ Feeds → me.0.view.rotating ≡ false → me.0.view.ended ≡ false → finds me.0.view.feeds ≡ false
    → Busy (terms_of me.0.view.profile) (store_of me.0.view.feeds) f → AllFit me.0.view.profile.capacity (f ∷ [])
    → Allows (KeepsRule p) slots id me 0 (λ n. n) (λ r n. saw_turn f (known me) r (known n) × IsLegalWithReads n.0.view × FeederSees me.0 n.0)
sees_turn p slots id me f role calm going yet q fit = feeder_allows p slots id me 0 (λ n. n) (saw_turn f (known me)) role
    (λ full home given d k. turn_step (known me) f role calm going yet q fit full home given d d.taking refl k)

-- ---- The feeder's stores

set_step : (me : Sat) (f : Feed) → me.0.role ≡ Feeds → me.0.rotating ≡ true → me.0.ended ≡ false → finds me.0.feeds ≡ false → Loud (terms_of me.0.profile) (store_of me.0.feeds) f
    → AllFit me.0.profile.capacity (f ∷ []) → me.1 ≡ (0, filled me.0.profile.capacity (handed (store_of me.0.feeds) f)) ∷ []
    → (full : Bool) (home : Home) (given : List Message) (d : View) (x : Option (List Message)) → d.taking ≡ x → Facts (terms_of me.0.profile) full home given me.0 d
    → FeedStep me 0 (λ _. 1) (λ _. set_turn f me 1) full home given d
set_step me f role busy going yet q fit carries true home given d x at k =
    absurd (subst (λ (b : Bool). BufferFollowsTurn me.0.profile.capacity true b d.taking home (hold_of (last me.0.feeds d.takes))) busy k.place)
set_step me f role busy going yet q fit carries false home given d (Some batch) at k =
    absurd (subst (λ (x : Option (List Message)). BufferFollowsTurn me.0.profile.capacity false me.0.rotating x home (hold_of (last me.0.feeds d.takes))) at k.place)
set_step me f role busy going yet q fit carries false home given d None at k = record {
  view = with_feeds me.0 (f ∷ []) (Give (handed (store_of me.0.feeds) f)) false;
  act = gives;
  full_after = true;
  home_after = some (filled me.0.profile.capacity (handed (store_of me.0.feeds) f));
  valid = tt;
  role = role;
  profile = refl;
  words = refl;
  made = Give (handed (store_of me.0.feeds) f);
  steps = refl;
  finds = tt;
  leaves = refl;
  ends = refl;
  homes = ap (λ (c : List (ℕ × Filled)). put_back (home ∷ []) c) carries;
  facts = loud_keeps (terms_of me.0.profile) home given me.0 d f (Give (handed (store_of me.0.feeds) f)) going yet at fit q k;
  told = refl;
}

pub sets_turn : (p : Profile) (slots id : ℕ) (me : Sitting) (f : Feed) → me.0.view.role ≡ Feeds → me.0.view.rotating ≡ true → me.0.view.ended ≡ false → finds me.0.view.feeds ≡ false
    → Loud (terms_of me.0.view.profile) (store_of me.0.view.feeds) f → AllFit me.0.view.profile.capacity (f ∷ [])
    → me.1 ≡ (0, filled me.0.view.profile.capacity (handed (store_of me.0.view.feeds) f)) ∷ []
    → Allows (KeepsRule p) slots id me 0 (λ _. 1) (λ _ n. set_turn f (known me) 1 (known n) × IsLegalWithReads n.0.view × FeederSees me.0 n.0)
sets_turn p slots id me f role busy going yet q fit carries = feeder_allows p slots id me 0 (λ _. 1) (λ _. set_turn f (known me) 1) role
    (λ full home given d k. set_step (known me) f role busy going yet q fit carries full home given d d.taking refl k)

pub sets_ended : (p : Profile) (slots id : ℕ) (me : Sitting) → me.0.view.role ≡ Feeds → me.0.view.ended ≡ false
    → Allows (KeepsRule p) slots id me 2 (λ _. 1) (λ _ n. set_ended (known me) 1 (known n) × IsLegalWithReads n.0.view × FeederSees me.0 n.0)
sets_ended p slots id me role going = feeder_allows p slots id me 2 (λ _. 1) (λ _. set_ended (known me) 1) role
    (λ full home given d k. record {
      view = ended_by me.0.view;
      act = keeps;
      full_after = full;
      home_after = home;
      valid = tt;
      role = role;
      profile = refl;
      words = refl;
      made = Store word.Ended 1;
      steps = refl;
      finds = tt;
      leaves = refl;
      ends = refl;
      homes = refl;
      facts = record {
        fits = k.fits;
        legal = k.legal;
        is_open = k.is_open;
        closer = k.closer;
        in_hold = k.in_hold;
        tidy = k.tidy;
        late = k.late;
        ender = λ n. absurd (true≢false n);
        unclosed = k.unclosed;
        seen = λ _. refl;
        place = k.place;
        held_given = k.held_given;
      };
      told = refl;
    })

-- ---- The drain's steps

ended_step : (me : Sat) → me.0.role ≡ Drains → (full : Bool) (home : Home) (given : List Message) (v : View) (b : Bool) → v.ended ≡ b → Facts (terms_of me.0.profile) full home given v me.0
    → DrainStep me 2 (λ n. n) (λ _. looked_ended me) full home given v
ended_step me role full home given v b at k = record {
  view = saw_end me.0 b;
  act = keeps;
  full_after = full;
  home_after = home;
  valid = tt;
  role = role;
  profile = refl;
  words = refl;
  made = Load word.Ended (bit b);
  steps = refl;
  finds = ap bit at;
  leaves = refl;
  closes = refl;
  homes = refl;
  facts = record {
    fits = k.fits;
    legal = k.legal;
    is_open = k.is_open;
    closer = k.closer;
    in_hold = k.in_hold;
    tidy = k.tidy;
    late = k.late;
    ender = k.ender;
    unclosed = k.unclosed;
    seen = λ e. at ∙ e;
    place = k.place;
    held_given = k.held_given;
  };
  told = by b at;
}
  where
    by : (b : Bool) → v.ended ≡ b → looked_ended me (bit v.ended) (saw_end me.0 b, me.1)
    by true e = ((λ z. let o : bit true ≡ 0 = ap bit (sym e) ∙ z in absurd (omega (arith, o))), (λ _. (ap bit e, refl)))
    by false e = ((λ _. refl), (λ ne. absurd (ne (ap bit e))))

pub looks_ended : (p : Profile) (slots id : ℕ) (me : Sitting) → me.0.view.role ≡ Drains → Allows (KeepsRule p) slots id me 2 (λ n. n) (λ r n. looked_ended (known me) r (known n) × DrainSees me.0 n.0)
looks_ended p slots id me role = drain_allows p slots id me 2 (λ n. n) (λ _. looked_ended (known me)) role (λ full home given v k. ended_step (known me) role full home given v v.ended refl k)

look_step : (me : Sat) → me.0.role ≡ Drains → me.0.closed ≡ false → me.0.taking ≡ None → (full : Bool) (home : Home) (given : List Message) (v : View) (b : Bool) → v.rotating ≡ b
    → Facts (terms_of me.0.profile) full home given v me.0 → DrainStep me 0 (λ n. n) (λ _. looked_turn me) full home given v
look_step me role unshut calm false home given v b at k = record {
  view = with_takes me.0 (idle me.0.sees_end ∷ []) (Load word.Turn 0) None;
  act = keeps;
  full_after = false;
  home_after = home;
  valid = tt;
  role = role;
  profile = refl;
  words = refl;
  made = Load word.Turn 0;
  steps = refl;
  finds = refl;
  leaves = refl;
  closes = refl;
  homes = refl;
  facts = idle_keeps (terms_of me.0.profile) home given v me.0 (Load word.Turn 0) unshut calm k;
  told = ((λ _. refl), (λ ne. absurd (ne refl)));
}
look_step me role unshut calm true home given v false at k =
    let t : Terms = terms_of me.0.profile in
    let batch : List Message = hold_of (last v.feeds me.0.takes) in
    let place : home ≡ some (filled t.capacity batch) = subst (λ (x : Option (List Message)). BufferFollowsTurn t.capacity true false x home batch) calm
    (subst (λ (x : Bool). BufferFollowsTurn t.capacity true x me.0.taking home batch) at k.place) in
    let ts : me.0.takes ≡ me.0.takes ++ [] = sym (append-nil me.0.takes) in record {
      view = with_takes me.0 [] (Load word.Turn 1) (Some batch);
      act = takes 0 (filled t.capacity batch);
      full_after = true;
      home_after = none;
      valid = ap some place;
      role = role;
      profile = refl;
      words = refl;
      made = Load word.Turn 1;
      steps = refl;
      finds = refl;
      leaves = refl;
      closes = refl;
      homes = refl;
      facts = record {
        fits = k.fits;
        legal = subst (λ (l : List Take). Legal t empty (events (merge v.feeds l))) ts k.legal;
        is_open = subst (λ (l : List Take). (last v.feeds l).closed ≡ finds v.feeds) ts k.is_open;
        closer = k.closer;
        in_hold = subst (λ (l : List Take). IsHeld true (last v.feeds l).in_hold) ts k.in_hold;
        tidy = subst (λ (l : List Take). Tidy (turns_of l) v.feeds true) ts k.tidy;
        late = subst (λ (l : List Take). EndedIsLast (merge v.feeds l)) ts k.late;
        ender = subst (λ (l : List Take). v.ended ≡ false → ended_in l ≡ false) ts k.ender;
        unclosed = subst (λ (l : List Take). ended_in l ≡ true → finds v.feeds ≡ false) ts k.unclosed;
        seen = k.seen;
        place = subst (λ (x : Bool). BufferFollowsTurn t.capacity true x (Some batch) none (hold_of (last v.feeds (me.0.takes ++ [])))) (sym at)
            (refl, ap (λ (l : List Take). hold_of (last v.feeds l)) ts);
        held_given = λ y. ap (λ (l : List Take). hold_of (last v.feeds l)) (sym ts) ∙ k.held_given y;
      };
      told = ((λ e. absurd (omega arith)), (λ _. (refl, (batch, refl))));
    }
look_step me role unshut calm true home given v true at k =
    absurd (subst (λ (x : Bool). BufferFollowsTurn me.0.profile.capacity true x me.0.taking home (hold_of (last v.feeds me.0.takes))) at k.place)

pub looks_turn : (p : Profile) (slots id : ℕ) (me : Sitting) → me.0.view.role ≡ Drains → me.0.view.closed ≡ false → me.0.view.taking ≡ None → Allows (KeepsRule p) slots id me 0 (λ n. n) (λ r n. looked_turn (known me) r (known n) × DrainSees me.0 n.0)
looks_turn p slots id me role unshut calm = drain_allows p slots id me 0 (λ n. n) (λ _. looked_turn (known me)) role
    (λ full home given v k. look_step (known me) role unshut calm full home given v v.rotating refl k)

clear_step : (me : Sat) (batch : List Message) → me.0.role ≡ Drains → me.0.closed ≡ false → me.0.taking ≡ Some batch → me.1 ≡ (0, filled me.0.profile.capacity []) ∷ []
    → (full : Bool) (home : Home) (given : List Message) (v : View) (b : Bool) → v.rotating ≡ b → Facts (terms_of me.0.profile) full home given v me.0
    → DrainStep me 0 (λ _. 0) (λ l _. cleared l me 0) full home given v
clear_step me batch role unshut busy carries true home given v false at k = record {
  view = with_takes me.0 (Full batch ∷ []) (Store word.Turn 0) None;
  act = gives;
  full_after = false;
  home_after = some (filled me.0.profile.capacity []);
  valid = tt;
  role = role;
  profile = refl;
  words = refl;
  made = Store word.Turn 0;
  steps = refl;
  finds = tt;
  leaves = refl;
  closes = refl;
  homes = ap (λ (c : List (ℕ × Filled)). put_back (home ∷ []) c) carries;
  facts = full_keeps (terms_of me.0.profile) home given v me.0 batch (Store word.Turn 0) unshut busy at k;
  told = λ other is.
      let same : batch ≡ other = let e : Some batch ≡ Some other = sym busy ∙ is in cc in
      let place : BufferFollowsTurn me.0.profile.capacity true false (Some batch) home (hold_of (last v.feeds me.0.takes)) =
      subst (λ (x : Option (List Message)). BufferFollowsTurn me.0.profile.capacity true false x home (hold_of (last v.feeds me.0.takes))) busy
      (subst (λ (x : Bool). BufferFollowsTurn me.0.profile.capacity true x me.0.taking home (hold_of (last v.feeds me.0.takes))) at k.place) in
      (sym same ∙ (place.1 ∙ k.held_given refl), ap (λ (l : List Message). (with_takes me.0 (Full l ∷ []) (Store word.Turn 0) None, rest me.1)) same);
}
clear_step me batch role unshut busy carries true home given v true at k =
    absurd (subst (λ (x : Bool). BufferFollowsTurn me.0.profile.capacity true x me.0.taking home (hold_of (last v.feeds me.0.takes))) at k.place)
clear_step me batch role unshut busy carries false home given v b at k =
    absurd (subst (λ (x : Option (List Message)). BufferFollowsTurn me.0.profile.capacity false v.rotating x home (hold_of (last v.feeds me.0.takes))) busy k.place)

pub clears : (p : Profile) (slots id : ℕ) (me : Sitting) (batch : List Message) → me.0.view.role ≡ Drains → me.0.view.closed ≡ false → me.0.view.taking ≡ Some batch
    → me.1 ≡ (0, filled me.0.view.profile.capacity []) ∷ [] → Allows (KeepsRule p) slots id me 0 (λ _. 0) (λ _ n. cleared (last_given n.0.drain_saw) (known me) 0 (known n) × DrainSees me.0 n.0)
clears p slots id me batch role unshut busy carries = drain_allows p slots id me 0 (λ _. 0) (λ l _. cleared l (known me) 0) role
    (λ full home given v k. clear_step (known me) batch role unshut busy carries full home given v v.rotating refl k)

pub sets_closed : (p : Profile) (slots id : ℕ) (me : Sitting) → me.0.view.role ≡ Drains → Allows (KeepsRule p) slots id me 1 (λ _. 1) (λ _ n. set_closed (known me) 1 (known n) × DrainSees me.0 n.0)
sets_closed p slots id me role = drain_allows p slots id me 1 (λ _. 1) (λ _ _. set_closed (known me) 1) role
    (λ full home given v k. record {
      view = closed_by me.0.view;
      act = keeps;
      full_after = full;
      home_after = home;
      valid = tt;
      role = role;
      profile = refl;
      words = refl;
      made = Store word.Closed 1;
      steps = refl;
      finds = tt;
      leaves = refl;
      closes = refl;
      homes = refl;
      facts = record {
        fits = k.fits;
        legal = k.legal;
        is_open = k.is_open;
        closer = λ n. absurd (true≢false n);
        in_hold = k.in_hold;
        tidy = k.tidy;
        late = k.late;
        ender = k.ender;
        unclosed = k.unclosed;
        seen = k.seen;
        place = k.place;
        held_given = k.held_given;
      };
      told = refl;
    })

-- ---- The first seat, its cut, and the join

pub opens : (p : Profile) → KeepsRule p (record { words = 0 ∷ 0 ∷ 0 ∷ []; homes = some (filled p.capacity []) ∷ []; views = first p ∷ [] })
opens p = record {
  full = false;
  home = some (filled p.capacity []);
  feeder = first p;
  drain = first p;
  order = [];
  words = refl;
  closed = refl;
  ended = refl;
  homes = refl;
  seats = whole refl refl;
  feeder_profile = refl;
  drain_profile = refl;
  facts = record {
    fits = tt;
    legal = tt;
    is_open = refl;
    closer = λ _. refl;
    in_hold = refl;
    tidy = refl;
    late = tt;
    ender = λ _. refl;
    unclosed = λ _. refl;
    seen = λ n. absurd (true≢false (sym n));
    place = refl;
    held_given = λ y. absurd (true≢false (sym y));
  };
  steps = record { fresh = tt; words = refl; feeder = refl; drain = refl; feeder_saw = ([], refl); drain_saw = ([], refl); latest = inl refl };
}

whole_at : (f d v : Sight) (vs : List Sight) (id : ℕ) → Seats f d vs → get_elem? vs id ≡ some v → v.view.role ≡ Whole → (vs ≡ f ∷ []) × (id ≡ 0) × (f ≡ v) × (d ≡ v)
whole_at f d v vs id (whole p q) at r = one id at
  where
    one : (id : ℕ) → get_elem? (f ∷ []) id ≡ some v → (f ∷ [] ≡ f ∷ []) × (id ≡ 0) × (f ≡ v) × (d ≡ v)
    one zero e = let s = some-injective f v e in (refl, refl, s, sym p ∙ s)
    one (suc k) e = absurd (some-ne-none v (sym e))
whole_at f d v vs id (apart p q) at r = absurd (two id at)
  where
    two : (id : ℕ) → get_elem? (f ∷ d ∷ []) id ≡ some v → ⊥
    two zero e = let s : f.view.role ≡ v.view.role = ap (λ (o : Sight). o.view.role) (some-injective f v e) in cc
    two (suc zero) e = let s : d.view.role ≡ v.view.role = ap (λ (o : Sight). o.view.role) (some-injective d v e) in cc
    two (suc (suc k)) e = some-ne-none v (sym e)
whole_at f d v vs id (joined os p q s) at r = absurd (two id at)
  where
    two : (id : ℕ) → get_elem? (f ∷ os) id ≡ some v → ⊥
    two zero e = let t : f.view.role ≡ v.view.role = ap (λ (u : Sight). u.view.role) (some-injective f v e) in cc
    two (suc k) e = let t : v.view.role ≡ Spent = spent_at os k v s e in cc

-- facts do not read what a seat is for
recast : (t : Terms) (full : Bool) (home : Home) (given : List Message) (v w x y : View) → x.feeds ≡ v.feeds → x.rotating ≡ v.rotating → x.ended ≡ v.ended
    → y.takes ≡ w.takes → y.taking ≡ w.taking → y.sees_end ≡ w.sees_end → y.closed ≡ w.closed → Facts t full home given v w → Facts t full home given x y
recast t full home given v w x y a b c g h i j k = record {
  fits = subst (AllFit t.capacity) (sym a) k.fits;
  legal = subst (λ (l : List Feed). Legal t empty (events (merge l y.takes))) (sym a) (subst (λ (l : List Take). Legal t empty (events (merge v.feeds l))) (sym g) k.legal);
  is_open = subst (λ (l : List Feed). (last l y.takes).closed ≡ finds l) (sym a) (subst (λ (l : List Take). (last v.feeds l).closed ≡ finds v.feeds) (sym g) k.is_open);
  closer = λ n. ap finds a ∙ k.closer (sym j ∙ n);
  in_hold = subst (λ (l : List Feed). IsHeld full (last l y.takes).in_hold) (sym a) (subst (λ (l : List Take). IsHeld full (last v.feeds l).in_hold) (sym g) k.in_hold);
  tidy = subst (λ (l : List Feed). Tidy (turns_of y.takes) l full) (sym a) (subst (λ (l : List Take). Tidy (turns_of l) v.feeds full) (sym g) k.tidy);
  late = subst (λ (l : List Feed). EndedIsLast (merge l y.takes)) (sym a) (subst (λ (l : List Take). EndedIsLast (merge v.feeds l)) (sym g) k.late);
  ender = λ n. ap ended_in g ∙ k.ender (sym c ∙ n);
  unclosed = λ n. ap finds a ∙ k.unclosed (ap ended_in (sym g) ∙ n);
  seen = λ n. c ∙ k.seen (sym i ∙ n);
  place = subst (λ (l : List Feed). BufferFollowsTurn t.capacity full x.rotating y.taking home (hold_of (last l y.takes))) (sym a)
      (subst (λ (l : List Take). BufferFollowsTurn t.capacity full x.rotating y.taking home (hold_of (last v.feeds l))) (sym g)
      (subst (λ (r : Bool). BufferFollowsTurn t.capacity full r y.taking home (hold_of (last v.feeds w.takes))) (sym b)
      (subst (λ (o : Option (List Message)). BufferFollowsTurn t.capacity full v.rotating o home (hold_of (last v.feeds w.takes))) (sym h) k.place)));
  held_given = λ n. (λ i. hold_of (last (a i) (g i))) ∙ k.held_given n;
}

-- nor does the order
reordered : (order : List EndStep) (ws : List ℕ) (f d g e : Sight) → f.view.feed_steps ≡ g.view.feed_steps → f.feeder_saw ≡ g.feeder_saw
    → d.view.take_steps ≡ e.view.take_steps → d.drain_saw ≡ e.drain_saw → IsOrder order ws f d → IsOrder order ws g e
reordered order ws f d g e a b h i k = record {
  fresh = k.fresh;
  words = k.words;
  feeder = k.feeder ∙ a;
  drain = k.drain ∙ h;
  feeder_saw = subst (λ (l : List EndStep). IsPrefix l order) b k.feeder_saw;
  drain_saw = subst (λ (l : List EndStep). IsPrefix l order) i k.drain_saw;
  latest = same_latest order f.feeder_saw d.drain_saw g.feeder_saw e.drain_saw b i k.latest;
}

pub cuts : (p : Profile) (id : ℕ) (v : Sight) → v.view.role ≡ Whole → Splits (KeepsRule p) id v (for_feeder v) (for_drain v)
cuts p id v role s k at = let a = whole_at k.feeder k.drain v s.views id k.seats at role in record {
  full = k.full;
  home = k.home;
  feeder = for_feeder v;
  drain = for_drain v;
  order = k.order;
  words = k.words ∙ (λ i. stores_of k.full (a.2 i).view (a.3 i).view);
  closed = subst (λ (u : Sight). u.view.closed ≡ store_to word.Closed u.view.take_steps) a.3 k.closed;
  ended = subst (λ (u : Sight). u.view.ended ≡ store_to word.Ended u.view.feed_steps) a.2 k.ended;
  homes = k.homes;
  seats = subst (Seats (for_feeder v) (for_drain v)) (λ j. set (sym a.0 j) (sym a.1 j) (for_feeder v) ++ for_drain v ∷ []) (apart refl refl);
  feeder_profile = ap (λ (u : Sight). u.view.profile) (sym a.2) ∙ k.feeder_profile;
  drain_profile = ap (λ (u : Sight). u.view.profile) (sym a.2) ∙ k.feeder_profile;
  facts = recast (terms_of p) k.full k.home (last_given k.order) k.feeder.view k.drain.view (for_feeder v).view (for_drain v).view
      (λ i. (sym a.2 i).view.feeds) (λ i. (sym a.2 i).view.rotating) (λ i. (sym a.2 i).view.ended)
      (λ i. (sym a.3 i).view.takes) (λ i. (sym a.3 i).view.taking) (λ i. (sym a.3 i).view.sees_end) (λ i. (sym a.3 i).view.closed) k.facts;
  steps = reordered k.order s.words k.feeder k.drain (for_feeder v) (for_drain v)
      (λ i. (a.2 i).view.feed_steps) (λ i. (a.2 i).feeder_saw) (λ i. (a.3 i).view.take_steps) (λ i. (a.3 i).drain_saw) k.steps;
}

pub joins : (p : Profile) (id : ℕ) (v : Sight) (other : ℕ) (w : Sight) → v.view.role ≡ Feeds → w.view.role ≡ Drains → Joins (KeepsRule p) id v other w (joint v w) spent
joins p id v other w role role' s k at apart_ there = let a = feeder_at k.feeder k.drain v s.views id k.seats at role in
    let views : set s.views id (joint v w) ≡ joint v w ∷ k.drain ∷ [] = λ j. set (a.0 j) (a.1 j) (joint v w) in
    let q = second other (λ e. apart_ (e ∙ sym a.1)) (subst (λ (l : List Sight). get_elem? l other ≡ some w) views there) in record {
      full = k.full;
      home = k.home;
      feeder = joint v w;
      drain = joint v w;
      order = k.order;
      words = k.words ∙ (λ i. stores_of k.full (a.2 i).view (q.1 i).view);
      closed = subst (λ (u : Sight). u.view.closed ≡ store_to word.Closed u.view.take_steps) q.1 k.closed;
      ended = subst (λ (u : Sight). u.view.ended ≡ store_to word.Ended u.view.feed_steps) a.2 k.ended;
      homes = k.homes;
      seats = subst (Seats (joint v w) (joint v w)) (λ j. set (sym views j) (sym q.0 j) spent) (joined (spent ∷ []) refl refl (refl, tt));
      feeder_profile = ap (λ (u : Sight). u.view.profile) (sym a.2) ∙ k.feeder_profile;
      drain_profile = ap (λ (u : Sight). u.view.profile) (sym a.2) ∙ k.feeder_profile;
      facts = recast (terms_of p) k.full k.home (last_given k.order) k.feeder.view k.drain.view (joint v w).view (joint v w).view
          (λ i. (sym a.2 i).view.feeds) (λ i. (sym a.2 i).view.rotating) (λ i. (sym a.2 i).view.ended)
          (λ i. (sym q.1 i).view.takes) (λ i. (sym q.1 i).view.taking) (λ i. (sym q.1 i).view.sees_end) (λ i. (sym q.1 i).view.closed) k.facts;
      steps = reordered k.order s.words k.feeder k.drain (joint v w) (joint v w)
          (λ i. (a.2 i).view.feed_steps) (λ i. (a.2 i).feeder_saw) (λ i. (q.1 i).view.take_steps) (λ i. (q.1 i).drain_saw) k.steps;
    }
  where
    second : (i : ℕ) → ¬ (i ≡ 0) → get_elem? (joint v w ∷ k.drain ∷ []) i ≡ some w → (i ≡ 1) × (k.drain ≡ w)
    second zero n e = absurd (n refl)
    second (suc zero) n e = (refl, some-injective k.drain w e)
    second (suc (suc i)) n e = absurd (some-ne-none w (sym e))

-- the joined seat is the first
joined_first : (f d u : Sight) (vs : List Sight) (id : ℕ) → Seats f d vs → get_elem? vs id ≡ some u → u.view.role ≡ Joined
    → (os : List Sight) × (vs ≡ f ∷ os) × (id ≡ 0) × (f ≡ u) × (d ≡ u) × AllSpent os
joined_first f d u vs id (whole p q) at r = absurd (one id at)
  where
    one : (id : ℕ) → get_elem? (f ∷ []) id ≡ some u → ⊥
    one zero e = let s : f.view.role ≡ u.view.role = ap (λ (o : Sight). o.view.role) (some-injective f u e) in cc
    one (suc k) e = some-ne-none u (sym e)
joined_first f d u vs id (apart p q) at r = absurd (two id at)
  where
    two : (id : ℕ) → get_elem? (f ∷ d ∷ []) id ≡ some u → ⊥
    two zero e = let s : f.view.role ≡ u.view.role = ap (λ (o : Sight). o.view.role) (some-injective f u e) in cc
    two (suc zero) e = let s : d.view.role ≡ u.view.role = ap (λ (o : Sight). o.view.role) (some-injective d u e) in cc
    two (suc (suc k)) e = some-ne-none u (sym e)
joined_first f d u vs id (joined os p q s) at r = two id at
  where
    two : (id : ℕ) → get_elem? (f ∷ os) id ≡ some u → (os' : List Sight) × (f ∷ os ≡ f ∷ os') × (id ≡ 0) × (f ≡ u) × (d ≡ u) × AllSpent os'
    two zero e = let t = some-injective f u e in (os, refl, refl, t, sym p ∙ t, s)
    two (suc k) e = let t : u.view.role ≡ Spent = spent_at os k u s e in absurd (cc)

one_more : (os : List Sight) (o : Sight) → AllSpent os → o.view.role ≡ Spent → AllSpent (os ++ o ∷ [])
one_more [] o s is = (is, tt)
one_more (x ∷ os) o s is = (s.0, one_more os o s.1 is)

-- its knowledge is copied
pub copies : (p : Profile) (id : ℕ) (v : Sight) → v.view.role ≡ Joined → Splits (KeepsRule p) id v v (witness v)
copies p id v role s k at = let a = joined_first k.feeder k.drain v s.views id k.seats at role in record {
  full = k.full;
  home = k.home;
  feeder = v;
  drain = v;
  order = k.order;
  words = k.words ∙ (λ i. stores_of k.full (a.3 i).view (a.4 i).view);
  closed = subst (λ (u : Sight). u.view.closed ≡ store_to word.Closed u.view.take_steps) a.4 k.closed;
  ended = subst (λ (u : Sight). u.view.ended ≡ store_to word.Ended u.view.feed_steps) a.3 k.ended;
  homes = k.homes;
  seats = subst (Seats v v) (λ j. set (sym a.1 j) (sym a.2 j) v ++ witness v ∷ []) (joined (a.0 ++ witness v ∷ []) refl role (one_more a.0 (witness v) a.5 refl));
  feeder_profile = ap (λ (u : Sight). u.view.profile) (sym a.3) ∙ k.feeder_profile;
  drain_profile = ap (λ (u : Sight). u.view.profile) (sym a.3) ∙ k.feeder_profile;
  facts = subst (λ (u : Sight). Facts (terms_of p) k.full k.home (last_given k.order) u.view v.view) a.3 (subst (λ (u : Sight). Facts (terms_of p) k.full k.home (last_given k.order) k.feeder.view u.view) a.4 k.facts);
  steps = subst (λ (u : Sight). IsOrder k.order s.words u v) a.3 (subst (λ (u : Sight). IsOrder k.order s.words k.feeder u) a.4 k.steps);
}
