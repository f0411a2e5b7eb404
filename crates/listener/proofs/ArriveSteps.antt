-- The steps of an arrival, over a hold and a store.
use Rattle.std.proofs.Common.{◌≡◌, ℕ, ◌+◌, ◌<◌, ◌≤◌, Bool, true, false, List, [], ◌∷◌, ◌++◌, Option, Some, None, length, take, min, refl, ap, sym, ◌∙◌, subst, arith, lt-ltb, length-take, append_assoc, IsTrue}
use Rattle.std.specs.Bool.{OnTrue}
use Rattle.std.proofs.lemmas.Bool.{false≢true}
use Rattle.std.proofs.lemmas.List.{append-nil, take_min}
use Rattle.std.proofs.Math.Seq.{drop-append_seam}
use Rattle.savefile.specs.declared.packet.Packet.{Packet}
use Rattle.bpfvm.specs.declared.insn.Insn.{Insn}
use Rattle.bpfvm.specs.Machine.{verdict}
use Rattle.listener.specs.declared.message.Message.{Message}
use Rattle.listener.specs.declared.answer.Fed.TheVariants.{Passed, Stored, Held, Rotated, Dropped}
use Rattle.listener.specs.declared.mode.Mode.{Mode}
use Rattle.listener.specs.declared.mode.Mode.TheVariants.{Buffered, Immediate}
use Rattle.listener.specs.Messages.{Arrival, arrival, cut_to, kept_by, Keeps, size, size_of, room}
use Rattle.listener.specs.PlainList.{Terms, PlainList, plain, arrived, IsStep, load, StaysStored, IsHandedOver}
use Rattle.listener.proofs.Rooms.{size_of_is}

-- ---- What the program keeps of a packet

kept_by_rejected : (program : List Insn) (snap : ℕ) (a : Arrival) → verdict program a.packet.bytes a.packet.len ≡ 0 → kept_by program snap a ≡ None
unfolding kept_by
kept_by_rejected program snap a h = rw h refl

-- the message of an arrival, of which these bytes are taken
with_bytes : Arrival → List ℕ → Message
with_bytes a bytes = record { capture = a.capture; place = a.place; sec = a.packet.sec; nanos = a.packet.nanos; len = a.packet.len; bytes = bytes }

-- as the code cuts it
kept_by_cut : (program : List Insn) (snap : ℕ) (a : Arrival) (kept : ℕ) → 0 < verdict program a.packet.bytes a.packet.len →
    kept ≡ min (min (verdict program a.packet.bytes a.packet.len) snap) (length a.packet.bytes) → kept_by program snap a ≡ Some (cut_to kept a)
unfolding kept_by with_bytes
kept_by_cut program snap a kept h e =
    let answer : ℕ = verdict program a.packet.bytes a.packet.len in
    rw (lt-ltb _ _ h) (ap (λ (bytes : List ℕ). Some (with_bytes a bytes)) (sym (take_min (min answer snap) a.packet.bytes) ∙ ap (λ (n : ℕ). take n a.packet.bytes) (sym e)))

pub size_cut : (a : Arrival) (kept : ℕ) → kept ≤ length a.packet.bytes → size_of (cut_to kept a) ≡ size kept
size_cut a kept h = size_of_is (cut_to kept a) ∙ ap size (let e : length (take kept a.packet.bytes) ≡ kept = omega (arith, length-take kept a.packet.bytes) in e)

-- by what the code reads of the packet, which is seen as p
pub seen_cut : (program : List Insn) (snap capture place : ℕ) (p q : Packet) (v most kept : ℕ) → q ≡ p → v ≡ verdict program q.bytes q.len → 0 < v →
    most ≡ min v snap → kept ≡ min most (length q.bytes) → Keeps program snap (arrival capture place p) kept
seen_cut program snap capture place p q v most kept view is some m k =
    let a = arrival capture place p in
    let w : v ≡ verdict program p.bytes p.len = is ∙ ap (λ (x : Packet). verdict program x.bytes x.len) view in
    let n : kept ≡ min (min v snap) (length p.bytes) = k ∙ (λ i. min (m i) (length (view i).bytes)) in
    let e : kept ≡ min (min (verdict program p.bytes p.len) snap) (length p.bytes) = n ∙ (λ i. min (min (w i) snap) (length p.bytes)) in
    record {
      message = kept_by_cut program snap a kept (subst (λ (x : ℕ). 0 < x) w some) e;
      within = omega arith;
      captured = omega arith;
    }

-- a packet that the program rejects, by what the code reads of it
pub seen_rejected : (program : List Insn) (snap capture place : ℕ) (p q : Packet) (v : ℕ) → q ≡ p → v ≡ verdict program q.bytes q.len → v ≡ 0 →
    kept_by program snap (arrival capture place p) ≡ None
seen_rejected program snap capture place p q v view is none =
    kept_by_rejected program snap (arrival capture place p) (sym (is ∙ ap (λ (x : Packet). verdict program x.bytes x.len) view) ∙ none)

-- ---- The steps

-- a listener's list, by its hold and its store
abbrev pub list_of : List Message → List Message → ℕ → ℕ → ℕ → Bool → PlainList
list_of hold store r m d c = plain (hold ++ store) (length hold) r m d c

load_of : (hold store : List Message) (r m d : ℕ) (c : Bool) → load (list_of hold store r m d c) ≡ room store
load_of hold store r m d c = ap room (drop-append_seam hold store)

-- the hold is full, or the list is Buffered
pub stays : (mode : Mode) (hold : List Message) (s : PlainList) → s.in_hold ≡ length hold → ((mode ≡ Immediate) × (hold ≡ []) → ⊥) → StaysStored mode s
stays Buffered hold s h other = tt
stays Immediate [] s h other = absurd (other (refl, refl))
stays Immediate (x ∷ hold) s h other = omega arith

handed : (mode : Mode) (s : PlainList) → mode ≡ Immediate → s.in_hold ≡ 0 → IsHandedOver mode s
handed Buffered s is none = cc
handed Immediate s is none = none

pub steps_passed : (t : Terms) (hold store : List Message) (r m d : ℕ) (c : Bool) → c ≡ false → (seen : Option Message) → seen ≡ None →
    IsStep t (list_of hold store r m d c) (arrived seen Passed) (list_of hold store (r + 1) m d c)
steps_passed t hold store r m d c open_now seen is = rw is (record { is_right = open_now; change = refl })

module _ (t : Terms) (hold store : List Message) (r m d : ℕ) (c : Bool) (open_now : c ≡ false) (x : Message) (seen : Option Message) (is : seen ≡ Some x) where
  pub steps_dropped : t.capacity < room store + size_of x → 0 < length hold →
      IsStep t (list_of hold store r m d c) (arrived seen Dropped) (list_of hold store (r + 1) (m + 1) (d + 1) c)
  steps_dropped over full = rw is (record { is_right = (open_now, rw (load_of hold store r m d c) over, full); change = refl })

  pub steps_stored : (now : List Message) → room store + size_of x ≤ t.capacity → ((t.mode ≡ Immediate) × (hold ≡ []) → ⊥) → now ≡ store ++ x ∷ [] →
      IsStep t (list_of hold store r m d c) (arrived seen Stored) (list_of hold now (r + 1) (m + 1) d c)
  steps_stored now fits other new = rw (is, new) (record {
    is_right = (open_now, rw (load_of hold store r m d c) fits, stays t.mode hold (list_of hold store r m d c) refl other);
    change = ap (λ (p : List Message). plain p (length hold) (r + 1) (m + 1) d c) (sym (append_assoc hold store (x ∷ [])));
  })

  -- the store, with the message, and the empty hold are exchanged
  pub steps_held : (now : List Message) → room store + size_of x ≤ t.capacity → t.mode ≡ Immediate → hold ≡ [] → now ≡ store ++ x ∷ [] →
      IsStep t (list_of hold store r m d c) (arrived seen Held) (list_of now hold (r + 1) (m + 1) d c)
  steps_held now fits at_once none new = rw (is, new, none) (record {
    is_right = (open_now, fits, handed t.mode (list_of [] store r m d c) at_once refl);
    change = ap (λ (p : List Message). plain p (length (store ++ x ∷ [])) (r + 1) (m + 1) d c) (append-nil (store ++ x ∷ []));
  })

  -- the store and the empty hold are exchanged, and the message goes into the new store
  pub steps_rotated : (now : List Message) → t.capacity < room store + size_of x → hold ≡ [] → now ≡ hold ++ x ∷ [] →
      IsStep t (list_of hold store r m d c) (arrived seen Rotated) (list_of store now (r + 1) (m + 1) d c)
  steps_rotated now over none new = rw (is, new, none) (record { is_right = (open_now, over, refl); change = refl })

-- ---- Tests

-- a test that fails
pub not_by : (b : Bool) (P : Type 0) → b ≡ false → (P → IsTrue b) → P → ⊥
not_by b P f h p = false≢true (sym f ∙ h p)

-- a test of a bound that fails
pub over_by : (b : Bool) (n capacity : ℕ) → b ≡ false → (n ≤ capacity → IsTrue b) → capacity < n
over_by b n capacity f h = omega (arith, not_by b (n ≤ capacity) f h)

-- what a call says where it answers true
pub on_true : (b : Bool) (P : Type 0) → b ≡ true → OnTrue b P → P
on_true true P is h = h
on_true false P is h = absurd (false≢true is)

-- some messages are some in number
pub some_in : (ms : List Message) → (ms ≡ [] → ⊥) → 0 < length ms
some_in [] h = absurd (h refl)
some_in (m ∷ ms) h = omega arith
