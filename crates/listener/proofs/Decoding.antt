-- What is written is read again.
use Rattle.std.proofs.Common.{◌≡◌, ℕ, zero, suc, ◌+◌, ◌-◌, ◌^◌, ◌<◌, ◌≤◌, Bool, true, false, cond, eqb, List, [], ◌∷◌, ◌++◌, length, take, drop, replicate, refl, ap, sym, ◌∙◌, subst, append_assoc, append-nil, arith, length-append}
use Rattle.std.proofs.lemmas.List.{take-replicate, drop_at, take_at, length-replicate, take_all}
use Rattle.std.proofs.Common.{length-drop}
use Rattle.std.proofs.lemmas.Bool.Decides.{eqb_tells}
use Rattle.std.proofs.Common.{inl, inr}
use Rattle.std.proofs.lemmas.Bool.{false≢true, eqb-true}
use Rattle.std.proofs.lemmas.List.Sums.{sum_by-cons}
use Rattle.std.specs.List.{AllByRecursion}
use Rattle.std.proofs.lemmas.List.Concat.{flat_map-cons}
use Rattle.byteorder.specs.Endian.{little_number, little_bytes}
use Rattle.byteorder.specs.Numbers.{little_number-reads_back, length-bytes_low_first}
use Rattle.listener.specs.declared.message.Message.{Message}
use Rattle.listener.specs.Messages.{size, size_of, room}
use Rattle.listener.specs.RecordBytes.{fields_text, padding, record_text, records_text}
use Rattle.listener.specs.Decoded.{kept_in, first_in, after_first, messages_of, messages_in, IsStored, AreRecords, RoundTrip}

-- how many bytes a number has
pub length_number : (n x : ℕ) → length (little_bytes n x) ≡ n
length_number n x = length-bytes_low_first 0 n x

-- a number that comes after a front
field_at : (n x k : ℕ) (front tail text : List ℕ) → text ≡ front ++ (little_bytes n x ++ tail) → length front ≡ k → x < 256 ^ n → little_number n (drop k text) ≡ x
field_at n x k front tail text e l lt = ap (little_number n) (ap (drop k) e ∙ drop_at front (little_bytes n x ++ tail) k l) ∙ little_number-reads_back n x tail lt

module _ (sec nanos kept len place capture : ℕ) where
  abbrev f0 : List ℕ
  f0 = little_bytes 4 sec

  abbrev f1 : List ℕ
  f1 = f0 ++ little_bytes 4 nanos

  abbrev f2 : List ℕ
  f2 = f1 ++ little_bytes 4 kept

  abbrev f3 : List ℕ
  f3 = f2 ++ little_bytes 4 len

  abbrev f4 : List ℕ
  f4 = f3 ++ little_bytes 8 place

  abbrev f5 : List ℕ
  f5 = f4 ++ little_bytes 4 capture

  l1 : length f1 ≡ 8
  l1 = omega (arith, length-append f0 (little_bytes 4 nanos), length_number 4 sec, length_number 4 nanos)

  l2 : length f2 ≡ 12
  l2 = omega (arith, length-append f1 (little_bytes 4 kept), l1, length_number 4 kept)

  l3 : length f3 ≡ 16
  l3 = omega (arith, length-append f2 (little_bytes 4 len), l2, length_number 4 len)

  l4 : length f4 ≡ 24
  l4 = omega (arith, length-append f3 (little_bytes 8 place), l3, length_number 8 place)

  l5 : length f5 ≡ 28
  l5 = omega (arith, length-append f4 (little_bytes 4 capture), l4, length_number 4 capture)

  fields_are : fields_text sec nanos kept len place capture ≡ f5 ++ little_bytes 4 0
  unfolding fields_text
  fields_are = refl

  pub length_fields : length (fields_text sec nanos kept len place capture) ≡ 32
  length_fields = ap length fields_are ∙ (let e : length (f5 ++ little_bytes 4 0) ≡ 32 = omega (arith, length-append f5 (little_bytes 4 0), l5, length_number 4 0) in e)

  module _ (rest : List ℕ) where
    abbrev text : List ℕ
    text = fields_text sec nanos kept len place capture ++ rest

    is : text ≡ f5 ++ (little_bytes 4 0 ++ rest)
    is = ap (λ (l : List ℕ). l ++ rest) fields_are ∙ append_assoc f5 (little_bytes 4 0) rest

    pub read_capture : capture < 2 ^ 32 → little_number 4 (drop 24 text) ≡ capture
    read_capture h = field_at 4 capture 24 f4 (little_bytes 4 0 ++ rest) text (is ∙ append_assoc f4 (little_bytes 4 capture) (little_bytes 4 0 ++ rest)) l4 h

    pub read_place : place < 2 ^ 64 → little_number 8 (drop 16 text) ≡ place
    read_place h = field_at 8 place 16 f3 (little_bytes 4 capture ++ (little_bytes 4 0 ++ rest)) text (is ∙ simp append_assoc) l3 h

    pub read_len : len < 2 ^ 32 → little_number 4 (drop 12 text) ≡ len
    read_len h = field_at 4 len 12 f2 (little_bytes 8 place ++ (little_bytes 4 capture ++ (little_bytes 4 0 ++ rest))) text (is ∙ simp append_assoc) l2 h

    pub read_kept : kept < 2 ^ 32 → little_number 4 (drop 8 text) ≡ kept
    read_kept h = field_at 4 kept 8 f1 (little_bytes 4 len ++ (little_bytes 8 place ++ (little_bytes 4 capture ++ (little_bytes 4 0 ++ rest)))) text (is ∙ simp append_assoc) l1 h

    pub read_nanos : nanos < 2 ^ 32 → little_number 4 (drop 4 text) ≡ nanos
    read_nanos h = field_at 4 nanos 4 f0 (little_bytes 4 kept ++ (little_bytes 4 len ++ (little_bytes 8 place ++ (little_bytes 4 capture ++ (little_bytes 4 0 ++ rest))))) text (is ∙ simp append_assoc) (length_number 4 sec) h

    pub read_sec : sec < 2 ^ 32 → little_number 4 (drop 0 text) ≡ sec
    read_sec h = field_at 4 sec 0 [] (little_bytes 4 nanos ++ (little_bytes 4 kept ++ (little_bytes 4 len ++ (little_bytes 8 place ++ (little_bytes 4 capture ++ (little_bytes 4 0 ++ rest)))))) text (is ∙ simp append_assoc) refl h

-- ---- One record

module _ (m : Message) (s : IsStored m) (rest : List ℕ) where
  abbrev pub n : ℕ
  n = length m.bytes

  abbrev pads : List ℕ
  pads = replicate (padding n) 0

  abbrev tail : List ℕ
  tail = (m.bytes ++ pads) ++ rest

  split : record_text m ++ rest ≡ fields_text m.sec m.nanos n m.len m.place m.capture ++ tail
  unfolding record_text
  split = append_assoc (fields_text m.sec m.nanos n m.len m.place m.capture) (m.bytes ++ pads) rest

  pub length_record : length (record_text m) ≡ size n
  unfolding record_text
  length_record = let e : length (fields_text m.sec m.nanos n m.len m.place m.capture ++ (m.bytes ++ pads)) ≡ size n
      = omega (arith, length-append (fields_text m.sec m.nanos n m.len m.place m.capture) (m.bytes ++ pads), length_fields m.sec m.nanos n m.len m.place m.capture, length-append m.bytes pads, length-replicate {A = ℕ} (padding n) 0) in e

  kept_is : kept_in (record_text m ++ rest) ≡ n
  kept_is = ap kept_in split ∙ read_kept m.sec m.nanos n m.len m.place m.capture tail (omega (arith, s.kept))

  bytes_are : take (kept_in (record_text m ++ rest)) (drop 32 (record_text m ++ rest)) ≡ m.bytes
  bytes_are = (λ i. take (kept_is i) (drop 32 (split i)))
      ∙ ap (take n) (drop_at (fields_text m.sec m.nanos n m.len m.place m.capture) tail 32 (length_fields m.sec m.nanos n m.len m.place m.capture))
      ∙ ap (take n) (append_assoc m.bytes pads rest) ∙ take_at m.bytes (pads ++ rest) n refl

  pub first_of : first_in (record_text m ++ rest) ≡ m
  unfolding first_in
  first_of = λ i. record {
    capture = (ap (λ t. little_number 4 (drop 24 t)) split ∙ read_capture m.sec m.nanos n m.len m.place m.capture tail s.capture) i;
    place = (ap (λ t. little_number 8 (drop 16 t)) split ∙ read_place m.sec m.nanos n m.len m.place m.capture tail s.place) i;
    sec = (ap (λ t. little_number 4 (drop 0 t)) split ∙ read_sec m.sec m.nanos n m.len m.place m.capture tail s.sec) i;
    nanos = (ap (λ t. little_number 4 (drop 4 t)) split ∙ read_nanos m.sec m.nanos n m.len m.place m.capture tail s.nanos) i;
    len = (ap (λ t. little_number 4 (drop 12 t)) split ∙ read_len m.sec m.nanos n m.len m.place m.capture tail s.len) i;
    bytes = bytes_are i;
  }

  pub after_of : after_first (record_text m ++ rest) ≡ rest
  unfolding after_first
  after_of = ap (λ (k : ℕ). drop (size k) (record_text m ++ rest)) kept_is ∙ drop_at (record_text m) rest (size n) length_record

-- ---- All records

texts_cons : (m : Message) (ms : List Message) → records_text (m ∷ ms) ≡ record_text m ++ records_text ms
unfolding records_text
texts_cons m ms = flat_map-cons record_text m ms

texts_nil : records_text [] ≡ []
unfolding records_text
texts_nil = refl

some_text : (m : Message) → IsStored m → (rest : List ℕ) → 0 < length (record_text m ++ rest)
some_text m s rest = omega (arith, length-append (record_text m) rest, length_record m s rest)

not_zero : (n : ℕ) → 0 < n → eqb n 0 ≡ false
not_zero n h = elim (eqb_tells n 0) [ inl (t, e) ↦ absurd (omega arith) | inr (f, ne) ↦ f ]

all_of : (ms : List Message) → AllByRecursion IsStored ms → (n : ℕ) → length ms ≤ n → messages_of n (records_text ms) ≡ ms
all_of [] a zero h = refl
all_of [] a (suc n) h = ap (messages_of (suc n)) texts_nil
all_of (m ∷ ms) a zero h = absurd (omega arith)
all_of (m ∷ ms) a (suc n) h =
    ap (messages_of (suc n)) (texts_cons m ms)
    ∙ ap (λ (b : Bool). cond b [] (first_in (record_text m ++ records_text ms) ∷ messages_of n (after_first (record_text m ++ records_text ms)))) (not_zero _ (some_text m a.0 (records_text ms)))
    ∙ (λ i. first_of m a.0 (records_text ms) i ∷ messages_of n (after_of m a.0 (records_text ms) i))
    ∙ ap (λ (l : List Message). m ∷ l) (all_of ms a.1 n (omega arith))

enough : (ms : List Message) → AllByRecursion IsStored ms → length ms ≤ length (records_text ms)
enough [] a = omega arith
enough (m ∷ ms) a = omega (arith, ap length (texts_cons m ms), length-append (record_text m) (records_text ms), length_record m a.0 [], enough ms a.1)

pub round_trip : RoundTrip
unfolding messages_in
round_trip ms a = all_of ms a (length (records_text ms)) (enough ms a)

-- ---- One record more

records_text-push : (ms : List Message) (m : Message) → records_text (ms ++ m ∷ []) ≡ records_text ms ++ record_text m
records_text-push [] m = texts_cons m [] ∙ ap (λ (l : List ℕ). record_text m ++ l) texts_nil ∙ append-nil (record_text m) ∙ ap (λ (l : List ℕ). l ++ record_text m) (sym texts_nil)
records_text-push (n ∷ ms) m = texts_cons n (ms ++ m ∷ []) ∙ ap (λ (l : List ℕ). record_text n ++ l) (records_text-push ms m)
    ∙ sym (append_assoc (record_text n) (records_text ms) (record_text m)) ∙ ap (λ (l : List ℕ). l ++ record_text m) (sym (texts_cons n ms))

stored-push : (ms : List Message) (m : Message) → AllByRecursion IsStored ms → IsStored m → AllByRecursion IsStored (ms ++ m ∷ [])
stored-push [] m a s = (s, tt)
stored-push (n ∷ ms) m a s = (a.0, stored-push ms m a.1 s)

pub put_message : (text : List ℕ) (m : Message) → AreRecords text → IsStored m → messages_in (text ++ record_text m) ≡ messages_in text ++ m ∷ []
put_message text m a s = ap (λ (t : List ℕ). messages_in (t ++ record_text m)) a.is ∙ ap messages_in (sym (records_text-push (messages_in text) m)) ∙ round_trip (messages_in text ++ m ∷ []) (stored-push (messages_in text) m a.stored s)

pub put_records : (text : List ℕ) (m : Message) → AreRecords text → IsStored m → AreRecords (text ++ record_text m)
put_records text m a s = record {
  is = ap (λ (t : List ℕ). t ++ record_text m) a.is ∙ sym (records_text-push (messages_in text) m) ∙ ap records_text (sym (put_message text m a s));
  stored = subst (AllByRecursion IsStored) (sym (put_message text m a s)) (stored-push (messages_in text) m a.stored s);
}

room_texts : (ms : List Message) → AllByRecursion IsStored ms → length (records_text ms) ≡ room ms
unfolding room size_of
room_texts [] a = ap length texts_nil
room_texts (m ∷ ms) a = ap length (texts_cons m ms) ∙ length-append (record_text m) (records_text ms) ∙ (λ i. length_record m a.0 [] i + room_texts ms a.1 i) ∙ sym (sum_by-cons size_of m ms)

pub room_is : (text : List ℕ) → AreRecords text → room (messages_in text) ≡ length text
room_is text a = sym (ap length a.is ∙ room_texts (messages_in text) a.stored)

-- ---- The first record

pub record Split (text : List ℕ) : Type 0 where
  pub is : messages_in text ≡ first_in text ∷ messages_in (after_first text)
  pub after : AreRecords (after_first text)
  pub fits : size (kept_in text) ≤ length text
  pub small : kept_in text ≤ 262144

split_first : (text : List ℕ) (ms : List Message) → text ≡ records_text ms → AllByRecursion IsStored ms → 0 < length text → Split text
split_first text [] e a some = absurd (omega (arith, ap length (e ∙ texts_nil)))
split_first text (m ∷ ms) e a some =
    let t : text ≡ record_text m ++ records_text ms = e ∙ texts_cons m ms in
    let f : first_in text ≡ m = ap first_in t ∙ first_of m a.0 (records_text ms) in
    let g : after_first text ≡ records_text ms = ap after_first t ∙ after_of m a.0 (records_text ms) in
    let k : kept_in text ≡ length m.bytes = ap kept_in t ∙ kept_is m a.0 (records_text ms) in
    let h : messages_in (after_first text) ≡ ms = ap messages_in g ∙ round_trip ms a.1 in
    let s : size (kept_in text) ≡ size (length m.bytes) = ap size k in
    record {
      is = ap messages_in e ∙ round_trip (m ∷ ms) a ∙ (λ i. sym f i ∷ sym h i);
      after = record { is = g ∙ ap records_text (sym h); stored = subst (AllByRecursion IsStored) (sym h) a.1 };
      fits = omega (arith, s, ap length t, length-append (record_text m) (records_text ms), length_record m a.0 []);
      small = omega (arith, k, a.0.kept);
    }

pub split_records : (text : List ℕ) → AreRecords text → 0 < length text → Split text
split_records text a some = split_first text (messages_in text) a.is a.stored some

-- a number that is read from a text's rest
pub read_at : (n k x : ℕ) (text : List ℕ) → x ≡ little_number n (take (length text - k) (drop k text)) → x ≡ little_number n (drop k text)
read_at n k x text e = e ∙ ap (little_number n) (take_all (length text - k) (drop k text) (omega (arith, length-drop k text)))

pub some_in : (text : List ℕ) (b : Bool) → b ≡ eqb (length text) 0 → b ≡ false → 0 < length text
some_in [] b e f = absurd (false≢true (sym f ∙ e))
some_in (x ∷ text) b e f = omega arith

pub none_in : (text : List ℕ) (b : Bool) → b ≡ eqb (length text) 0 → b ≡ true → messages_in text ≡ []
unfolding messages_in
none_in [] b e t = refl
none_in (x ∷ text) b e t = absurd (let z : length (x ∷ text) ≡ 0 = eqb-true (length (x ∷ text)) 0 (sym e ∙ t) in omega arith)

-- what the code reads is the first message
pub message_is : (text : List ℕ) (sec nanos kept len place capture : ℕ) (bytes : List ℕ) → sec ≡ little_number 4 (drop 0 text) → nanos ≡ little_number 4 (drop 4 text) → kept ≡ kept_in text → len ≡ little_number 4 (drop 12 text) →
    place ≡ little_number 8 (drop 16 text) → capture ≡ little_number 4 (drop 24 text) → bytes ≡ take kept (drop 32 text) →
    first_in text ≡ record { capture = capture; place = place; sec = sec; nanos = nanos; len = len; bytes = bytes }
unfolding first_in
message_is text sec nanos kept len place capture bytes s n k l p c b = λ i. record { capture = sym c i; place = sym p i; sec = sym s i; nanos = sym n i; len = sym l i; bytes = (ap (λ (j : ℕ). take j (drop 32 text)) (sym k) ∙ sym b) i }

pub after_is : (text : List ℕ) (kept : ℕ) → kept ≡ kept_in text → after_first text ≡ drop (size kept) text
unfolding after_first
after_is text kept k = ap (λ (j : ℕ). drop (size j) text) (sym k)

pub no_messages : messages_in [] ≡ []
unfolding messages_in
no_messages = refl

pub no_records : AreRecords []
no_records = record { is = sym texts_nil ∙ ap records_text (sym no_messages); stored = subst (AllByRecursion IsStored) (sym no_messages) tt }

-- what is put of a message is its record
pub record_is : (m : Message) (kept : ℕ) → length m.bytes ≡ kept →
    fields_text m.sec m.nanos kept m.len m.place m.capture ++ (m.bytes ++ replicate (padding kept) 0) ≡ record_text m
unfolding record_text
record_is m kept e = rw (← e) refl

-- a record that is appended in three pieces: its fields, its data and its padding
pub put_text : (m : Message) (kept n : ℕ) (old header t1 t2 t3 : List ℕ) → length m.bytes ≡ kept → n ≡ padding kept
    → header ≡ fields_text m.sec m.nanos kept m.len m.place m.capture
    → t1 ≡ old ++ header → t2 ≡ t1 ++ m.bytes → t3 ≡ t2 ++ take n (replicate 8 0) → t3 ≡ old ++ record_text m
put_text m kept n old header t1 t2 t3 l p h e1 e2 e3 =
    let f = fields_text m.sec m.nanos kept m.len m.place m.capture in
    let zeros : take n (replicate {A = ℕ} 8 0) ≡ replicate (padding kept) 0 = take-replicate n 8 0 (omega arith) ∙ ap (λ (k : ℕ). replicate {A = ℕ} k 0) p in
    let all : t3 ≡ ((old ++ f) ++ m.bytes) ++ replicate (padding kept) 0 = e3 ∙ (λ i. (e2 ∙ ap (λ (t : List ℕ). t ++ m.bytes) (e1 ∙ ap (λ (t : List ℕ). old ++ t) h)) i ++ zeros i) in
    all ∙ append_assoc (old ++ f) m.bytes (replicate (padding kept) 0) ∙ append_assoc old f (m.bytes ++ replicate (padding kept) 0)
    ∙ ap (λ (t : List ℕ). old ++ t) (record_is m kept l)
