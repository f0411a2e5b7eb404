-- One step more at the end of an order.
use Rattle.std.proofs.Common.{◌≡◌, ℕ, Bool, true, false, ◌||◌, ◌⊎◌, inl, inr, List, [], ◌∷◌, ◌++◌, refl, sym, ap, ◌∙◌, subst, append-nil, append_assoc}
use mathlib.Core.List.{IsPrefix}
use Rattle.listener.specs.declared.message.Message.{Message}
use Rattle.handover.specs.declared.calls.Word.{Word}
use Rattle.handover.specs.declared.calls.WordStep.{WordStep}
use Rattle.handover.specs.declared.calls.EndStep.{EndStep}
use Rattle.handover.specs.declared.calls.EndStep.TheVariants.{OfFeeder, OfDrain}
use Rattle.handover.specs.declared.view.View.{View}
use Rattle.handover.specs.declared.view.Sight.{Sight}
use Rattle.handover.specs.Orders.{Finds, behind, step_of, words_from, IsFreshFrom, zeros, words_after, IsFresh, is_store_to, store_to, of_feeder, of_drain, given_by, given_from}
use Rattle.handover.specs.Rule.{IsOrder, FeederSees, DrainSees}

words_snoc : (ws : List ℕ) (ms : List EndStep) (m : EndStep) → words_from ws (ms ++ m ∷ []) ≡ behind (words_from ws ms) (step_of m)
words_snoc ws [] m = refl
words_snoc ws (x ∷ ms) m = words_snoc (behind ws (step_of x)) ms m

fresh_snoc : (ws : List ℕ) (ms : List EndStep) (m : EndStep) → IsFreshFrom ws ms → Finds (words_from ws ms) (step_of m) → IsFreshFrom ws (ms ++ m ∷ [])
fresh_snoc ws [] m k e = (e, tt)
fresh_snoc ws (x ∷ ms) m k e = (k.0, fresh_snoc (behind ws (step_of x)) ms m k.1 e)

feeder_more : (ms : List EndStep) (e : WordStep) → of_feeder (ms ++ OfFeeder e ∷ []) ≡ of_feeder ms ++ e ∷ []
feeder_more [] e = refl
feeder_more (OfFeeder x ∷ ms) e = ap (λ (l : List WordStep). x ∷ l) (feeder_more ms e)
feeder_more (OfDrain x ∷ ms) e = feeder_more ms e

feeder_same : (ms : List EndStep) (e : WordStep) → of_feeder (ms ++ OfDrain e ∷ []) ≡ of_feeder ms
feeder_same [] e = refl
feeder_same (OfFeeder x ∷ ms) e = ap (λ (l : List WordStep). x ∷ l) (feeder_same ms e)
feeder_same (OfDrain x ∷ ms) e = feeder_same ms e

drain_more : (ms : List EndStep) (e : WordStep) → of_drain (ms ++ OfDrain e ∷ []) ≡ of_drain ms ++ e ∷ []
drain_more [] e = refl
drain_more (OfFeeder x ∷ ms) e = drain_more ms e
drain_more (OfDrain x ∷ ms) e = ap (λ (l : List WordStep). x ∷ l) (drain_more ms e)

drain_same : (ms : List EndStep) (e : WordStep) → of_drain (ms ++ OfFeeder e ∷ []) ≡ of_drain ms
drain_same [] e = refl
drain_same (OfFeeder x ∷ ms) e = drain_same ms e
drain_same (OfDrain x ∷ ms) e = ap (λ (l : List WordStep). x ∷ l) (drain_same ms e)

prefix_more : (xs ys zs : List EndStep) → IsPrefix xs ys → IsPrefix xs (ys ++ zs)
prefix_more xs ys zs p = (p.0 ++ zs, sym (append_assoc xs p.0 zs) ∙ ap (λ (l : List EndStep). l ++ zs) p.1)

pub prefix_trans : (xs ys zs : List EndStep) → IsPrefix xs ys → IsPrefix ys zs → IsPrefix xs zs
prefix_trans xs ys zs p q = subst (IsPrefix xs) q.1 (prefix_more xs ys q.0 p)

-- a seat after a step of the feeder or of the drain
abbrev pub feeder_at_step : Sight → View → List EndStep → Sight
feeder_at_step s v order = record { view = v; feeder_saw = order; drain_saw = s.drain_saw }

abbrev pub drain_at_step : Sight → View → List EndStep → Sight
drain_at_step s v order = record { view = v; feeder_saw = s.feeder_saw; drain_saw = order }

-- all steps with one more of the feeder
pub by_feeder : (order : List EndStep) (ws vs : List ℕ) (f d : Sight) (v : View) (e : WordStep) → IsOrder order ws f d → Finds ws e → vs ≡ behind ws e
    → v.feed_steps ≡ f.view.feed_steps ++ e ∷ []
    → IsOrder (order ++ OfFeeder e ∷ []) vs (feeder_at_step f v (order ++ OfFeeder e ∷ [])) d × FeederSees f (feeder_at_step f v (order ++ OfFeeder e ∷ []))
by_feeder order ws vs f d v e k finds leaves steps =
    let fresh : IsFresh (order ++ OfFeeder e ∷ []) = fresh_snoc zeros order (OfFeeder e) k.fresh (subst (λ (l : List ℕ). Finds l e) k.words finds) in
    let own : of_feeder (order ++ OfFeeder e ∷ []) ≡ v.feed_steps = feeder_more order e ∙ (ap (λ (l : List WordStep). l ++ e ∷ []) k.feeder ∙ sym steps) in (
      record {
        fresh = fresh;
        words = leaves ∙ (ap (λ (l : List ℕ). behind l e) k.words ∙ sym (words_snoc zeros order (OfFeeder e)));
        feeder = own;
        drain = drain_same order e ∙ k.drain;
        feeder_saw = ([], append-nil (order ++ OfFeeder e ∷ []));
        drain_saw = prefix_more d.drain_saw order (OfFeeder e ∷ []) k.drain_saw;
        latest = inl refl;
      },
      record { earlier = prefix_more f.feeder_saw order (OfFeeder e ∷ []) k.feeder_saw; fresh = fresh; own = own },
    )

-- all steps with one more of the drain
pub by_drain : (order : List EndStep) (ws vs : List ℕ) (f d : Sight) (v : View) (e : WordStep) → IsOrder order ws f d → Finds ws e → vs ≡ behind ws e
    → v.take_steps ≡ d.view.take_steps ++ e ∷ []
    → IsOrder (order ++ OfDrain e ∷ []) vs f (drain_at_step d v (order ++ OfDrain e ∷ [])) × DrainSees d (drain_at_step d v (order ++ OfDrain e ∷ []))
by_drain order ws vs f d v e k finds leaves steps =
    let fresh : IsFresh (order ++ OfDrain e ∷ []) = fresh_snoc zeros order (OfDrain e) k.fresh (subst (λ (l : List ℕ). Finds l e) k.words finds) in
    let own : of_drain (order ++ OfDrain e ∷ []) ≡ v.take_steps = drain_more order e ∙ (ap (λ (l : List WordStep). l ++ e ∷ []) k.drain ∙ sym steps) in (
      record {
        fresh = fresh;
        words = leaves ∙ (ap (λ (l : List ℕ). behind l e) k.words ∙ sym (words_snoc zeros order (OfDrain e)));
        feeder = feeder_same order e ∙ k.feeder;
        drain = own;
        feeder_saw = prefix_more f.feeder_saw order (OfDrain e ∷ []) k.feeder_saw;
        drain_saw = ([], append-nil (order ++ OfDrain e ∷ []));
        latest = inr refl;
      },
      record { earlier = prefix_more d.drain_saw order (OfDrain e ∷ []) k.drain_saw; fresh = fresh; own = own },
    )

-- the latest of two equal pairs of beginnings
pub same_latest : (order a b c d : List EndStep) → a ≡ c → b ≡ d → (order ≡ a) ⊎ (order ≡ b) → (order ≡ c) ⊎ (order ≡ d)
same_latest order a b c d p q (inl is) = inl (is ∙ p)
same_latest order a b c d p q (inr is) = inr (is ∙ q)

-- ---- Whatever a step does, its load was fresh

pub feeder_parts : (xs ys : List EndStep) → of_feeder (xs ++ ys) ≡ of_feeder xs ++ of_feeder ys
feeder_parts [] ys = refl
feeder_parts (OfFeeder x ∷ xs) ys = ap (λ (l : List WordStep). x ∷ l) (feeder_parts xs ys)
feeder_parts (OfDrain x ∷ xs) ys = feeder_parts xs ys

pub drain_parts : (xs ys : List EndStep) → of_drain (xs ++ ys) ≡ of_drain xs ++ of_drain ys
drain_parts [] ys = refl
drain_parts (OfFeeder x ∷ xs) ys = drain_parts xs ys
drain_parts (OfDrain x ∷ xs) ys = ap (λ (l : List WordStep). x ∷ l) (drain_parts xs ys)

-- what was added to a list is what comes after it
pub added : (xs ys zs : List WordStep) → xs ++ ys ≡ xs ++ zs → ys ≡ zs
added [] ys zs is = is
added (x ∷ xs) ys zs is = added xs ys zs (cc (is))

fresh_last : (ws : List ℕ) (ms : List EndStep) (m : EndStep) → IsFreshFrom ws (ms ++ m ∷ []) → Finds (words_from ws ms) (step_of m)
fresh_last ws [] m k = k.0
fresh_last ws (x ∷ ms) m k = fresh_last (behind ws (step_of x)) ms m k.1

-- the order before a step begins the order after it
begins : (order more a b c d : List EndStep) → (order ≡ a) ⊎ (order ≡ b) → IsPrefix a c → IsPrefix b d → IsPrefix c more → IsPrefix d more → IsPrefix order more
begins order more a b c d (inl is) p q r s = subst (λ (l : List EndStep). IsPrefix l more) (sym is) (prefix_trans a c more p r)
begins order more a b c d (inr is) p q r s = subst (λ (l : List EndStep). IsPrefix l more) (sym is) (prefix_trans b d more q s)

-- the one step that was added
only_drain : (ms : List EndStep) (e : WordStep) → of_feeder ms ≡ [] → of_drain ms ≡ e ∷ [] → ms ≡ OfDrain e ∷ []
only_drain [] e none one = absurd (cc (one))
only_drain (OfFeeder x ∷ ms) e none one = absurd (cc (none))
only_drain (OfDrain x ∷ []) e none one = cc (one)
only_drain (OfDrain x ∷ OfFeeder y ∷ ms) e none one = absurd (cc (none))
only_drain (OfDrain x ∷ OfDrain y ∷ ms) e none one = absurd (cc (one))

only_feeder : (ms : List EndStep) (e : WordStep) → of_feeder ms ≡ e ∷ [] → of_drain ms ≡ [] → ms ≡ OfFeeder e ∷ []
only_feeder [] e one none = absurd (cc (one))
only_feeder (OfDrain x ∷ ms) e one none = absurd (cc (none))
only_feeder (OfFeeder x ∷ []) e one none = cc (one)
only_feeder (OfFeeder x ∷ OfDrain y ∷ ms) e one none = absurd (cc (none))
only_feeder (OfFeeder x ∷ OfFeeder y ∷ ms) e one none = absurd (cc (one))

none_added : (ms : List EndStep) → of_feeder ms ≡ [] → of_drain ms ≡ [] → ms ≡ []
none_added [] none also = refl
none_added (OfFeeder x ∷ ms) none also = absurd (cc (none))
none_added (OfDrain x ∷ ms) none also = absurd (cc (also))

prefix_self : (xs : List EndStep) → IsPrefix xs xs
prefix_self xs = ([], append-nil xs)

-- what the last step of an order found and left
last_is : (order : List EndStep) (m : EndStep) (ws vs : List ℕ) → ws ≡ words_after order → vs ≡ words_after (order ++ m ∷ []) → IsFresh (order ++ m ∷ [])
    → Finds ws (step_of m) × (vs ≡ behind ws (step_of m))
last_is order m ws vs before after fresh = (
  subst (λ (l : List ℕ). Finds l (step_of m)) (sym before) (fresh_last zeros order m fresh),
  after ∙ (words_snoc zeros order m ∙ ap (λ (l : List ℕ). behind l (step_of m)) (sym before)),
)

pub drain_step_is_fresh : (order more : List EndStep) (ws vs : List ℕ) (f d g : Sight) (x : WordStep) → IsOrder order ws f d → IsOrder more vs f g
    → IsPrefix d.drain_saw g.drain_saw → g.view.take_steps ≡ d.view.take_steps ++ x ∷ [] → Finds ws x × (vs ≡ behind ws x)
drain_step_is_fresh order more ws vs f d g x k l saw steps =
    let p : IsPrefix order more = begins order more f.feeder_saw d.drain_saw f.feeder_saw g.drain_saw k.latest (prefix_self f.feeder_saw) saw l.feeder_saw l.drain_saw in
    let none : of_feeder p.0 ≡ [] = added (of_feeder order) (of_feeder p.0) []
    (sym (feeder_parts order p.0) ∙ (ap of_feeder p.1 ∙ (l.feeder ∙ (sym k.feeder ∙ sym (append-nil (of_feeder order)))))) in
    let one : of_drain p.0 ≡ x ∷ [] = added (of_drain order) (of_drain p.0) (x ∷ [])
    (sym (drain_parts order p.0) ∙ (ap of_drain p.1 ∙ (l.drain ∙ (steps ∙ ap (λ (s : List WordStep). s ++ x ∷ []) (sym k.drain))))) in
    let is : more ≡ order ++ OfDrain x ∷ [] = sym p.1 ∙ ap (λ (r : List EndStep). order ++ r) (only_drain p.0 x none one) in
    last_is order (OfDrain x) ws vs k.words (l.words ∙ ap words_after is) (subst IsFresh is l.fresh)

pub feeder_step_is_fresh : (order more : List EndStep) (ws vs : List ℕ) (f d g : Sight) (x : WordStep) → IsOrder order ws f d → IsOrder more vs g d
    → IsPrefix f.feeder_saw g.feeder_saw → g.view.feed_steps ≡ f.view.feed_steps ++ x ∷ [] → Finds ws x × (vs ≡ behind ws x)
feeder_step_is_fresh order more ws vs f d g x k l saw steps =
    let p : IsPrefix order more = begins order more f.feeder_saw d.drain_saw g.feeder_saw d.drain_saw k.latest saw (prefix_self d.drain_saw) l.feeder_saw l.drain_saw in
    let none : of_drain p.0 ≡ [] = added (of_drain order) (of_drain p.0) []
    (sym (drain_parts order p.0) ∙ (ap of_drain p.1 ∙ (l.drain ∙ (sym k.drain ∙ sym (append-nil (of_drain order)))))) in
    let one : of_feeder p.0 ≡ x ∷ [] = added (of_feeder order) (of_feeder p.0) (x ∷ [])
    (sym (feeder_parts order p.0) ∙ (ap of_feeder p.1 ∙ (l.feeder ∙ (steps ∙ ap (λ (s : List WordStep). s ++ x ∷ []) (sym k.feeder))))) in
    let is : more ≡ order ++ OfFeeder x ∷ [] = sym p.1 ∙ ap (λ (r : List EndStep). order ++ r) (only_feeder p.0 x one none) in
    last_is order (OfFeeder x) ws vs k.words (l.words ∙ ap words_after is) (subst IsFresh is l.fresh)

pub silent_step_is_still : (order more : List EndStep) (ws vs : List ℕ) (f d g e : Sight) → IsOrder order ws f d → IsOrder more vs g e
    → IsPrefix f.feeder_saw g.feeder_saw → IsPrefix d.drain_saw e.drain_saw → g.view.feed_steps ≡ f.view.feed_steps → e.view.take_steps ≡ d.view.take_steps → vs ≡ ws
silent_step_is_still order more ws vs f d g e k l saw also feeds takes =
    let p : IsPrefix order more = begins order more f.feeder_saw d.drain_saw g.feeder_saw e.drain_saw k.latest saw also l.feeder_saw l.drain_saw in
    let none : of_feeder p.0 ≡ [] = added (of_feeder order) (of_feeder p.0) []
    (sym (feeder_parts order p.0) ∙ (ap of_feeder p.1 ∙ (l.feeder ∙ (feeds ∙ (sym k.feeder ∙ sym (append-nil (of_feeder order))))))) in
    let neither : of_drain p.0 ≡ [] = added (of_drain order) (of_drain p.0) []
    (sym (drain_parts order p.0) ∙ (ap of_drain p.1 ∙ (l.drain ∙ (takes ∙ (sym k.drain ∙ sym (append-nil (of_drain order))))))) in
    let is : more ≡ order = sym p.1 ∙ (ap (λ (r : List EndStep). order ++ r) (none_added p.0 none neither) ∙ append-nil order) in
    l.words ∙ (ap words_after is ∙ sym k.words)

-- ---- What was handed over last

pub given_more : (given : List Message) (ms : List EndStep) (m : EndStep) → given_from given (ms ++ m ∷ []) ≡ given_by m (given_from given ms)
given_more given [] m = refl
given_more given (x ∷ ms) m = given_more (given_by x given) ms m

-- ---- A store stays among the steps

or_swaps : (a b c : Bool) → (a || (b || c)) ≡ (b || (a || c))
or_swaps true true c = refl
or_swaps true false c = refl
or_swaps false true c = refl
or_swaps false false c = refl

pub store_more : (w : Word) (es : List WordStep) (e : WordStep) → store_to w (es ++ e ∷ []) ≡ (is_store_to w e || store_to w es)
store_more w [] e = refl
store_more w (x ∷ es) e = ap (λ (b : Bool). is_store_to w x || b) (store_more w es e) ∙ or_swaps (is_store_to w x) (is_store_to w e) (store_to w es)

-- a flag that says whether there was a store, after one more step
pub flag_more : (w : Word) (es new : List WordStep) (e : WordStep) (was is : Bool) → new ≡ es ++ e ∷ [] → was ≡ store_to w es → is ≡ (is_store_to w e || was) → is ≡ store_to w new
flag_more w es new e was is steps before after = after ∙ (ap (λ (b : Bool). is_store_to w e || b) before ∙ (sym (store_more w es e) ∙ ap (store_to w) (sym steps)))
