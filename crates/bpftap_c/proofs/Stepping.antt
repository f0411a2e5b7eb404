-- The steps of a listener in memory of the caller.
use Rattle.std.proofs.Common.{◌≡◌, ◌<◌, ℕ, eqb, cond, Bool, true, false, List, [], ◌∷◌, Option, Some, None, length, take, min, refl, ap, sym, ◌∙◌, inl, inr, arith, lt-ltb}
use Rattle.std.proofs.lemmas.Bool.Decides.{eqb_tells}
use Rattle.std.proofs.lemmas.List.{append-nil, take_min, take_at, drop_at}
use Rattle.listener.specs.declared.message.Message.{Message}
use Rattle.listener.specs.declared.mode.Mode.TheVariants.{Buffered, Immediate}
use Rattle.listener.specs.Messages.{Arrival, cut_to, kept_by}
use Rattle.listener.specs.PlainList.{Terms, plain, flushed, read, IsStep}
use Rattle.listener.proofs.ArriveSteps.{list_of}
use Rattle.bpftap_c.specs.Listeners.{mode_of, is_closed, kept_by_answer, batch_of, AnswersKeep}

not_zero : (n : ℕ) → 0 < n → eqb n 0 ≡ false
not_zero n some = elim (eqb_tells n 0) [ inl (t, e) ↦ absurd (omega arith) | inr (f, ne) ↦ f ]

pub open_now : (n : ℕ) → n ≡ 0 → is_closed n ≡ false
open_now n is = ap (λ (k : ℕ). is_closed k) is

pub closed_now : (n : ℕ) → 0 < n → is_closed n ≡ true
closed_now n some = ap (λ (b : Bool). cond b false true) (not_zero n some)

pub not_immediate : (n : ℕ) → n ≡ 0 → mode_of n ≡ Immediate → ⊥
not_immediate n is other = let clash : Buffered ≡ Immediate = sym (ap (λ (k : ℕ). mode_of k) is) ∙ other in cc

pub immediate : (n : ℕ) → 0 < n → mode_of n ≡ Immediate
immediate n some = ap (λ (b : Bool). cond b Buffered Immediate) (not_zero n some)

-- the message of an arrival, of which these bytes are taken
abbrev with_bytes : Arrival → List ℕ → Message
with_bytes a bytes = record { capture = a.capture; place = a.place; sec = a.packet.sec; nanos = a.packet.nanos; len = a.packet.len; bytes = bytes }

-- as the code cuts it
pub kept_cut : (answer snap kept : ℕ) (a : Arrival) → 0 < answer → kept ≡ min (min answer snap) (length a.packet.bytes)
    → kept_by_answer answer snap a ≡ Some (cut_to kept a)
kept_cut answer snap kept a some is =
    rw (lt-ltb _ _ some) (ap (λ (bytes : List ℕ). Some (with_bytes a bytes))
    (sym (take_min (min answer snap) a.packet.bytes) ∙ ap (λ (n : ℕ). take n a.packet.bytes) (sym is)))

pub answers_keep : AnswersKeep
unfolding kept_by
answers_keep program snap a = refl

module _ (t : Terms) (hold store : List Message) (r m d : ℕ) (c : Bool) (is_open : c ≡ false) where
  pub flush_step : hold ≡ [] → 0 < length store → IsStep t (list_of hold store r m d c) (flushed true) (list_of store hold r m d c)
  flush_step none some = rw none (record {
    is_right = (is_open, refl, some);
    change = ap (λ (p : List Message). plain p (length store) r m d c) (append-nil store);
  })

-- what a read takes, where the buffer that was brought is empty
pub read_step : (t : Terms) (hold store brought : List Message) (r m d : ℕ) (c : Bool) → c ≡ false → brought ≡ []
    → (taken : Option (List Message)) × IsStep t (list_of hold store r m d c) (read taken) (list_of brought store r m d c) × (hold ≡ batch_of taken)
read_step t [] store brought r m d c is_open none = (None, rw none (record { is_right = inr refl; change = refl }), refl)
read_step t (x ∷ hold) store brought r m d c is_open none = (
  Some (x ∷ hold),
  rw none (record {
    is_right = (is_open, omega arith, sym (take_at (x ∷ hold) store (length (x ∷ hold)) refl));
    change = ap (λ (p : List Message). plain p 0 r m d c) (sym (drop_at (x ∷ hold) store (length (x ∷ hold)) refl));
  }),
  refl,
)
