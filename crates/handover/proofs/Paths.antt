-- The ways on which a call of the feeder goes over the words. A call begins at the seat m with the store b; after its load of `closed`
-- the seat is n, after its load of `turn` o, after its exchange p, and after its store q.
use Rattle.std.proofs.Common.{◌≡◌, ◌≢◌, ℕ, zero, suc, ◌+◌, ◌<◌, ◌≤◌, Bool, true, false, List, [], ◌∷◌, ◌++◌, length, IsTrue, refl, sym, ap, ◌∙◌, subst, arith}
use Rattle.std.specs.Bool.{OnTrue}
use Rattle.listener.specs.declared.message.Message.{Message}
use Rattle.listener.specs.declared.mode.Mode.{Mode}
use Rattle.listener.specs.Buffers.{Filled, filled, with_message}
use Rattle.listener.specs.Messages.{Arrival, cut_to, size_of, size, room}
use Rattle.listener.proofs.Rooms.{room_nil}
use Rattle.listener.proofs.ArriveSteps.{size_cut, on_true}
use Rattle.handover.specs.declared.calls.Feed.{Feed}
use Rattle.handover.specs.declared.calls.Feed.TheVariants.{Flush, FlushClosed}
use Rattle.handover.specs.declared.calls.Word.TheVariants as word
use Rattle.handover.specs.declared.calls.WordStep.TheVariants.{Load, Give}
use Rattle.handover.specs.declared.view.Profile.{Profile}
use Rattle.handover.specs.declared.view.Sight.{Sight}
use Rattle.handover.specs.Allowed.{handed}
use Rattle.handover.specs.History.{finds}
use Rattle.handover.specs.Own.{store_of}
use Rattle.handover.specs.Rule.{Sat, with_feeds, saw_closed, saw_turn, set_turn, IsLegalWithReads, FeederSees}
use Rattle.handover.specs.Seated.{IsFeeder, IsGiving, Went}
use Rattle.handover.specs.Steps.{open_alone, found_closed, found_full, gave, stored_steps, kept_steps, call_steps, FlushAnswers}
use Rattle.handover.proofs.Orders.{prefix_trans}
use Rattle.handover.proofs.Seats.{after_call, one_step, looked, looked_unclosed, longer, Holds, holds, gave_turn}

-- the store has the profile's capacity
pub capacity_is : (m : Sat) (b : Filled) → IsFeeder m b false → b.capacity ≡ m.0.profile.capacity
capacity_is m b h = ap (λ (k : Filled). k.capacity) h.store

-- ---- The load of `closed`

-- it found the pair closed
pub went_late : (m n : Sat) (b : Filled) (gs : List Feed) (f : Feed) (found : ℕ) → IsFeeder m b false → saw_closed gs f m found n → found ≢ 0 → IsLegalWithReads n.0
    → b ≡ after_call b f → Went m n b f found_closed
went_late m n b gs f found h saw ne owned same = one_step m n b b f (Load word.Closed 1) h (saw.1 ne).1 owned same

-- it found the pair open, and the store alone decides the call
pub went_quiet : (m n : Sat) (b c : Filled) (f late : Feed) (found : ℕ) → IsFeeder m b false → saw_closed (f ∷ []) late m found n → found ≡ 0 → IsLegalWithReads n.0
    → c ≡ after_call b f → Went m n c f open_alone
went_quiet m n b c f late found h saw is owned new = one_step m n b c f (Load word.Closed 0) h (saw.0 is).0 owned new

-- it found the pair open, and the call goes on
pub record Opened (m n : Sat) (b : Filled) : Type 0 where
  pub feeder : IsFeeder n b false
  pub unclosed : finds n.0.feeds ≡ false
  pub is : n ≡ (with_feeds m.0 [] (Load word.Closed 0) false, m.1)
  pub profile : m.0.profile ≡ n.0.profile
  pub store : b.messages ≡ store_of n.0.feeds

pub opened : (m n : Sat) (b : Filled) (f : Feed) (found : ℕ) → IsFeeder m b false → saw_closed [] f m found n → found ≡ 0 → IsLegalWithReads n.0 → Opened m n b
opened m n b f found h saw is owned =
    let step = saw.0 is in
    let k = looked m n b (Load word.Closed 0) h step.0 owned in
    record {
      feeder = k;
      unclosed = looked_unclosed m n (Load word.Closed 0) step.0 step.1;
      is = step.0;
      profile = sym (ap (λ (u : Sat). u.0.profile) step.0);
      store = ap (λ (x : Filled). x.messages) k.store;
    }

-- what held of the profile and of the store still does
pub still : (m n : Sat) (b : Filled) (P : Profile → List Message → Type 0) → Opened m n b → P m.0.profile b.messages → P n.0.profile (store_of n.0.feeds)
still m n b P o p = subst (λ (x : Profile). P x (store_of n.0.feeds)) o.profile (subst (P m.0.profile) o.store p)

-- ---- The load of `turn`

-- it found the hold full
pub went_busy : (m n o : Sat) (b c : Filled) (f : Feed) (found : ℕ) → Opened m n b → saw_turn f n found o → found ≢ 0 → IsLegalWithReads o.0 → c ≡ after_call b f
    → Went m o c f found_full
went_busy m n o b c f found at saw ne owned new =
    longer m n o c f (Load word.Closed 0) (Load word.Turn 1 ∷ []) at.is (one_step n o b c f (Load word.Turn 1) at.feeder (saw.1 ne).1 owned new)

-- it found the hold empty, and the slot has the empty buffer
pub slot_is : (m n o : Sat) (b : Filled) (f : Feed) (found : ℕ) → Opened m n b → saw_turn f n found o → found ≡ 0 → o.1 ≡ (0, filled o.0.profile.capacity []) ∷ []
slot_is m n o b f found at saw is =
    subst (λ (u : Sat). u.1 ≡ (0, filled u.0.profile.capacity []) ∷ []) (sym (saw.0 is)) (λ i. (0, filled n.0.profile.capacity []) ∷ at.feeder.home i)

-- the empty buffer, as it comes out of it
pub fresh_is : (m n o : Sat) (b c : Filled) (f : Feed) (found : ℕ) → Opened m n b → saw_turn f n found o → found ≡ 0 → c ≡ filled o.0.profile.capacity [] → c ≡ filled b.capacity []
fresh_is m n o b c f found at saw is e =
    e ∙ (ap (λ (u : Sat). filled u.0.profile.capacity []) (saw.0 is) ∙ ap (λ (k : Filled). filled k.capacity []) (sym at.feeder.store))

-- ---- The exchange, and the store to `turn`

pub handing : (m n o p : Sat) (b x : Filled) (f : Feed) (found : ℕ) → Opened m n b → saw_turn f n found o → found ≡ 0 → p ≡ (o.0, (0, x) ∷ []) → Holds n p b x
handing m n o p b x f found at saw is swapped = holds n o p b x at.feeder at.unclosed (saw.0 is) swapped

-- what held of the profile and of the store still does
pub holds_still : (m n p : Sat) (b x : Filled) (P : Profile → List Message → Type 0) → Opened m n b → Holds n p b x → P m.0.profile b.messages → P p.0.profile (store_of p.0.feeds)
holds_still m n p b x P o h q = subst (λ (y : Profile). P y (store_of p.0.feeds)) (o.profile ∙ sym h.profile) (subst (P m.0.profile) (sym h.store) q)

-- what is in the slot is what the call hands over
pub gives : (n p : Sat) (b x : Filled) (f : Feed) → Holds n p b x → x ≡ filled b.capacity (handed b.messages f)
    → IsGiving p (filled p.0.profile.capacity (handed (store_of p.0.feeds) f))
gives n p b x f h is = subst (IsGiving p) (is ∙ λ i. filled (h.capacity i) (handed (sym h.store i) f)) h.giving

pub went_loud : (m n o p q : Sat) (b x c : Filled) (f g : Feed) (found : ℕ) → Opened m n b → saw_turn g n found o → found ≡ 0 → p ≡ (o.0, (0, x) ∷ [])
    → set_turn f p 1 q → IsLegalWithReads q.0 → c ≡ after_call b f → Went m q c f (gave (handed b.messages f))
went_loud m n o p q b x c f g found at saw is swapped set owned new =
    let given : List Message = handed (store_of p.0.feeds) f in
    let h = handing m n o p b x g found at saw is swapped in
    subst (λ (l : List Message). Went m q c f (gave (handed l f))) h.store
    (longer m n q c f (Load word.Closed 0) (Load word.Turn 0 ∷ Give given ∷ []) at.is (gave_turn n o p q b x c f given at.feeder (saw.0 is) swapped set owned new))

-- what was seen over several steps, between the last two of which the buffers were exchanged
pub sees_on : (a b c : Sight) → FeederSees a b → FeederSees b c → FeederSees a c
sees_on a b c p q = record { earlier = prefix_trans a.feeder_saw b.feeder_saw c.feeder_saw p.earlier q.earlier; fresh = q.fresh; own = q.own }

pub gave_sees : (a b c d e : Sight) → FeederSees a b → FeederSees b c → d ≡ c → FeederSees d e → FeederSees a e
gave_sees a b c d e p q same r = sees_on a b e p (sees_on b c e q (subst (λ (s : Sight). FeederSees s e) same r))

-- the steps of a packet that is stored, by the mode
pub stored_so : (m n : Sat) (b : Filled) (f : Feed) (was is : Mode) → was ≡ is → Went m n b f (stored_steps is) → Went m n b f (stored_steps was)
stored_so m n b f was is same w = subst (λ (x : Mode). Went m n b f (stored_steps x)) (sym same) w

-- ---- Putting a packet into a store that has room

pub was_put : (r : Bool) (old new : Filled) (a : Arrival) (kept : ℕ) (m : Message) → m ≡ cut_to kept a → kept ≤ length a.packet.bytes → room old.messages + size_of m ≤ old.capacity
    → (room old.messages + size kept ≤ old.capacity → IsTrue r) → OnTrue r (new ≡ with_message old (cut_to kept a)) → new ≡ filled old.capacity (old.messages ++ m ∷ [])
was_put r old new a kept m is within fits test put =
    let same : size_of m ≡ size kept = ap size_of is ∙ size_cut a kept within in
    let done = test (subst (λ (n : ℕ). room old.messages + n ≤ old.capacity) same fits) in
    on_true r _ (true_of r done) put ∙ ap (λ (x : Message). filled old.capacity (old.messages ++ x ∷ [])) (sym is)
  where
    true_of : (b : Bool) → IsTrue b → b ≡ true
    true_of true t = refl
    true_of false t = t

-- the message of the new store
pub first_put : (b x y : Filled) (m : Message) → x ≡ filled b.capacity [] → y ≡ filled x.capacity (x.messages ++ m ∷ []) → y ≡ filled b.capacity (m ∷ [])
first_put b x y m fresh put = put ∙ ap (λ (k : Filled). filled k.capacity (k.messages ++ m ∷ [])) fresh

-- there is room for it
pub first_fits : (b x : Filled) (m : Message) → x ≡ filled b.capacity [] → size_of m ≤ b.capacity → room x.messages + size_of m ≤ x.capacity
first_fits b x m fresh small =
    subst (λ (k : Filled). room k.messages + size_of m ≤ k.capacity) (sym fresh) (omega (arith, room_nil))

-- ---- Flushes

-- the seat went on by a flush that answered `full`, of a store with these messages
pub record WentByFlush (m n : Sat) (old : List Message) (b : Filled) (full : Bool) : Type 0 where
  pub call : Feed
  pub answer : FlushAnswers full call
  pub went : Went m n b call (call_steps m.0.profile.mode old call)

pub flushed_nothing : (m n : Sat) (b : Filled) (found : ℕ) → IsFeeder m b false → saw_closed (Flush false ∷ []) FlushClosed m found n → IsLegalWithReads n.0 → b.messages ≡ []
    → WentByFlush m n b.messages b false
flushed_nothing m n b zero h saw owned none = record {
  call = Flush false;
  answer = refl;
  went = subst (λ (l : List Message). Went m n b (Flush false) (call_steps m.0.profile.mode l (Flush false))) (sym none) (went_quiet m n b b (Flush false) FlushClosed zero h saw refl owned refl);
}
flushed_nothing m n b (suc k) h saw owned none = record {
  call = FlushClosed;
  answer = refl;
  went = went_late m n b (Flush false ∷ []) FlushClosed (suc k) h saw (λ e. absurd (omega arith)) owned refl;
}

-- the steps of a flush of a store that has something, and stays
pub kept_some : (ms : List Message) → 0 < length ms → found_full ≡ kept_steps ms
kept_some [] h = absurd (omega arith)
kept_some (m ∷ ms) h = refl
