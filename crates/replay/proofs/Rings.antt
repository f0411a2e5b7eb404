-- Ends of one ring, and what is left in the ring that a rest goes into.
use Rattle.std.proofs.Common.{◌≡◌, ℕ, List, [], ◌∷◌, ◌++◌, length, refl, ap, sym, ◌∙◌, ◌⊎◌, inl, inr, arith}
use Rattle.std.proofs.lemmas.List.{append-nil}
use Rattle.std.specs.declared.alloc.Global.{Global}
use Rattle.rtrb.specs.Ends.{SameRing}
use Rattle.rtrb.specs.declared.AnyItems.{AnyItems}
use Rattle.rtrb.specs.declared.end.End.{End}
use Rattle.listener.specs.Buffers.{Filled}
use Rattle.listener.specs.Laws.{joined}
use Rattle.listener.specs.declared.message.Message.{Message}
use Rattle.replay.specs.Reading.{messages_of}
use Rattle.replay.specs.Rings.{Ring, ring_of}

pub ring_of_same : (a b : End Filled Global AnyItems) → SameRing a b → ring_of a ≡ ring_of b
ring_of_same a b (words, slots, names, heap) =
    ap (λ x. record { words = x; slots = a.slots; names = a.names; heap = a.heap }) (sym words)
    ∙ ap (λ x. record { words = b.words; slots = x; names = a.names; heap = a.heap }) (sym slots)
    ∙ ap (λ x. record { words = b.words; slots = b.slots; names = x; heap = a.heap }) (sym names)
    ∙ ap (λ x. record { words = b.words; slots = b.slots; names = b.names; heap = x }) (sym heap)

pub same-of-ring : (a b : End Filled Global AnyItems) → ring_of a ≡ ring_of b → SameRing a b
same-of-ring a b same = (
  sym (ap (λ (r : Ring). r.words) same),
  sym (ap (λ (r : Ring). r.slots) same),
  sym (ap (λ (r : Ring). r.names) same),
  sym (ap (λ (r : Ring). r.heap) same),
)

-- the rest was popped, or it is left
popped-or-left : (now known : List Filled) (rest : List Message) → messages_of (now ++ known) ≡ rest ∷ []
    → ((joined (messages_of now) ≡ []) × (joined (messages_of known) ≡ rest)) ⊎ ((joined (messages_of now) ≡ rest) × (joined (messages_of known) ≡ []) × (known ≡ []))
popped-or-left [] known rest e = inl (refl, ap joined e ∙ append-nil rest)
popped-or-left (y ∷ []) [] rest e = let first : y.messages ≡ rest = cc in inr (append-nil y.messages ∙ first, refl, refl)
popped-or-left (y ∷ []) (z ∷ zs) rest e = absurd cc
popped-or-left (y ∷ z ∷ zs) known rest e = absurd cc

-- where nothing is written after the rest, all is written in order
rest-last : (x k hold rest all r q : List Message) → ((x ++ k) ++ hold) ++ rest ≡ all
    → ((r ≡ []) × (q ≡ rest)) ⊎ ((r ≡ rest) × (q ≡ []) × (k ≡ []) × (hold ≡ [])) → (((x ++ r) ++ k) ++ hold) ++ q ≡ all
rest-last x k hold rest all r q whole (inl (a, b)) =
    ap (λ z. (((x ++ z) ++ k) ++ hold) ++ q) a ∙ ap (λ z. ((z ++ k) ++ hold) ++ q) (append-nil x) ∙ ap (λ z. ((x ++ k) ++ hold) ++ z) b ∙ whole
rest-last x k hold rest all r q whole (inr (a, b, c, d)) =
    ap (λ z. (((x ++ r) ++ z) ++ hold) ++ q) c ∙ ap (λ z. (((x ++ r) ++ []) ++ z) ++ q) d ∙ ap (λ z. (((x ++ r) ++ []) ++ []) ++ z) b
    ∙ append-nil (((x ++ r) ++ []) ++ []) ∙ append-nil ((x ++ r) ++ []) ∙ append-nil (x ++ r) ∙ ap (λ z. x ++ z) a
    ∙ sym (ap (λ z. ((x ++ z) ++ hold) ++ rest) c ∙ ap (λ z. ((x ++ []) ++ z) ++ rest) d ∙ ap (λ z. z ++ rest) (append-nil (x ++ []) ∙ append-nil x))
    ∙ whole

none : (bs : List Filled) → length bs ≡ 0 → bs ≡ []
none [] e = refl
none (b ∷ bs) e = absurd (omega (arith, e))

-- what was popped of both rings, what is left of what was read, the hold and what is left of the rest are what was kept
pub in-order : (before rest-before known rest-now rest-known rest-sent : List Filled) (hold rest all : List Message) (n m : ℕ)
    → ((joined (messages_of before) ++ joined (messages_of known)) ++ hold) ++ rest ≡ all
    → messages_of rest-sent ≡ rest ∷ [] → rest-now ++ rest-known ≡ rest-sent → rest-now ≡ rest-before
    → n ≡ length known → m ≡ length rest-known → (m ≡ 0 → (n ≡ 0) × (hold ≡ []))
    → (((joined (messages_of before) ++ joined (messages_of rest-before)) ++ joined (messages_of known)) ++ hold) ++ joined (messages_of rest-known) ≡ all
in-order before rest-before known rest-now rest-known rest-sent hold rest all n m whole sent fifo same count rest-count order =
    let split = popped-or-left rest-before rest-known rest (ap (λ bs. messages_of (bs ++ rest-known)) (sym same) ∙ ap messages_of fifo ∙ sent) in
    rest-last (joined (messages_of before)) (joined (messages_of known)) hold rest all (joined (messages_of rest-before)) (joined (messages_of rest-known)) whole
    (elim split [
      | inl left ↦ inl left
      | inr (popped, nothing, empty) ↦ (let ordered = order (rest-count ∙ ap length empty) in
          inr (popped, nothing, ap (λ bs. joined (messages_of bs)) (none known (sym count ∙ ordered.0)), ordered.1))
    ])
