-- Records stand one after the other, and in one way only.
use Rattle.std.proofs.Common.{◌≡◌, ℕ, ◌+◌, ◌-◌, ◌*◌, ◌<◌, ◌≤◌, ◌⊎◌, inl, inr, false, List, [], ◌∷◌, ◌++◌, length, take, drop, Some, None, refl, sym, ap, subst, ◌∙◌, arith, length-drop}
use Rattle.std.specs.Prelude.{nat_lt, nat_le, ◌==◌}
use Rattle.std.proofs.lemmas.Bool.{cases_eq, cases_lt, le-leb, le-ltb, lt-leb, lt-ltb, ne_eqb}
use Rattle.std.proofs.lemmas.List.{take_all}
use Rattle.savefile.specs.declared.header.Order.{Order}
use Rattle.savefile.specs.declared.fault.Fault.{Fault}
use Rattle.savefile.specs.declared.fault.Fault.TheVariants.{TornRecord, BadFraction, TooLong}
use Rattle.savefile.specs.declared.header.Unit.{Unit as TimeUnit}
use Rattle.savefile.specs.declared.header.Unit.TheVariants.{Micro, Nano}
use Rattle.savefile.specs.declared.packet.Packet.{Packet}
use Rattle.savefile.specs.Savefile.{captured, field, first_fault, fraction, nanos_in, packet, per_second, AreRecords, IsRecord, NoRecord, number_in}

-- a slice from a place on is the rest
pub rest_of : (n : ℕ) (text : List ℕ) → take (length text - n) (drop n text) ≡ drop n text
rest_of n text = take_all (length text - n) (drop n text) (omega (arith, length-drop n text))

-- a field that was read from the rest of a text
pub field_read : (order : Order) (text : List ℕ) (offset n x : ℕ) → x ≡ number_in order n (take (length text - offset) (drop offset text)) → field order text offset n ≡ x
field_read order text offset n x e = sym (e ∙ ap (number_in order n) (rest_of offset text))

-- a fraction below a second is below a second in nanoseconds too
pub nanos_below : (unit : TimeUnit) (x : ℕ) → x < per_second unit → x * nanos_in unit < 1000000000
nanos_below Micro x h = omega arith
nanos_below Nano x h = omega arith

-- one record more
pub AreRecords-push : (order : Order) (unit : TimeUnit) (text : List ℕ) (ps : List Packet) (p : Packet) (mid after : List ℕ)
    → AreRecords order unit text ps mid → IsRecord order unit mid p after → AreRecords order unit text (ps ++ p ∷ []) after
AreRecords-push order unit text [] p mid after e r = (after, subst (λ (t : List ℕ). IsRecord order unit t p after) (sym e) r, refl)
AreRecords-push order unit text (q ∷ ps) p mid after e r = (e.0, e.1, AreRecords-push order unit e.0 ps p mid after e.2 r)

-- where a record stands there is no fault
pub first_fault_none : (order : Order) (unit : TimeUnit) (place : ℕ) (text : List ℕ) (p : Packet) (after : List ℕ) → IsRecord order unit text p after → first_fault order unit place text ≡ None
first_fault_none order unit place text p after r =
    let some : (length text == 0) ≡ false = let size : 16 ≤ length text = r.size in ne_eqb (length text) 0 (λ z. omega arith) in
    let header : nat_lt (length text) 16 ≡ false = le-ltb (length text) 16 r.size in
    let below : nat_le (per_second unit) (fraction order text) ≡ false = lt-leb (per_second unit) (fraction order text) r.below_a_second in
    let short : nat_lt 262144 (captured order text) ≡ false = le-ltb 262144 (captured order text) r.short in
    let whole : nat_lt (length text) (16 + captured order text) ≡ false = le-ltb (length text) (16 + captured order text) r.whole in
    rw (some, header, below, short, whole) refl

-- where there is a fault no record stands
pub NoRecord-fault : (order : Order) (unit : TimeUnit) (place : ℕ) (text : List ℕ) (fault : Fault) → first_fault order unit place text ≡ Some fault → NoRecord order unit text
NoRecord-fault order unit place text fault e = λ p after r. let none = first_fault_none order unit place text p after r in absurd cc

-- no record stands where nothing is left
pub NoRecord-nil : (order : Order) (unit : TimeUnit) (text : List ℕ) → length text ≡ 0 → NoRecord order unit text
NoRecord-nil order unit text e = λ p after r. let size : 16 ≤ length text = r.size in omega arith

-- Nothing is left, or there is a fault, or a record stands.
pub record_or_fault : (order : Order) (unit : TimeUnit) (place : ℕ) (text : List ℕ)
    → (length text ≡ 0) ⊎ ((fault : Fault) × (first_fault order unit place text ≡ Some fault)) ⊎ ((p : Packet) × (after : List ℕ) × IsRecord order unit text p after)
record_or_fault order unit place text =
    let cut = fraction order text in
    let n = captured order text in
    elim (cases_eq (length text) 0) [
      | inl nothing ↦ inl nothing
      | inr some ↦ elim (cases_lt (length text) 16) [
        | inl torn ↦ inr (inl (TornRecord place, rw (ne_eqb (length text) 0 some, lt-ltb (length text) 16 torn) refl))
        | inr size ↦ elim (cases_lt cut (per_second unit)) [
          | inr bad ↦ inr (inl (BadFraction place, rw (ne_eqb (length text) 0 some, le-ltb (length text) 16 size, le-leb (per_second unit) cut bad) refl))
          | inl below ↦ elim (cases_lt 262144 n) [
            | inl long ↦ inr (inl (TooLong place, rw (ne_eqb (length text) 0 some, le-ltb (length text) 16 size, lt-leb (per_second unit) cut below, lt-ltb 262144 n long) refl))
            | inr short ↦ elim (cases_lt (length text) (16 + n)) [
              | inl torn ↦ inr (inl (TornRecord place, rw (ne_eqb (length text) 0 some, le-ltb (length text) 16 size, lt-leb (per_second unit) cut below, le-ltb 262144 n short, lt-ltb (length text) (16 + n) torn) refl))
              | inr whole ↦ inr (inr (
                packet (field order text 0 4) (cut * nanos_in unit) (field order text 12 4) (take n (drop 16 text)),
                drop (16 + n) text,
                record { size = size; seconds = refl; below_a_second = below; nanos = refl; short = short; on_the_wire = refl; whole = whole; bytes = refl; follows = refl },
              ))
            ]
          ]
        ]
      ]
    ]

-- ---- One reading

-- packets with the same parts are one
same_packet : (a b c d e f : ℕ) (s t : List ℕ) → a ≡ b → c ≡ d → e ≡ f → s ≡ t → packet a c e s ≡ packet b d f t
same_packet a b c d e f s t p q r u = cc

-- a text that begins with a record begins with one alone
pub one_record : (order : Order) (unit : TimeUnit) (text : List ℕ) (p q : Packet) (after after' : List ℕ) → IsRecord order unit text p after → IsRecord order unit text q after' → (p ≡ q) × (after ≡ after')
one_record order unit text p q after after' r s = (
  same_packet p.sec q.sec p.nanos q.nanos p.len q.len p.bytes q.bytes (sym r.seconds ∙ s.seconds) (sym r.nanos ∙ s.nanos) (sym r.on_the_wire ∙ s.on_the_wire) (sym r.bytes ∙ s.bytes),
  sym r.follows ∙ s.follows,
)

-- a list of records that is followed by none is the longest
pub longest_records : (order : Order) (unit : TimeUnit) (text : List ℕ) (ps qs : List Packet) (rest after : List ℕ)
    → AreRecords order unit text ps rest → NoRecord order unit rest → AreRecords order unit text qs after → length qs ≤ length ps
longest_records order unit text ps [] rest after e none f = omega arith
longest_records order unit text [] (q ∷ qs) rest after e none f = absurd (none q f.0 (subst (λ (t : List ℕ). IsRecord order unit t q f.0) e f.1))
longest_records order unit text (p ∷ ps) (q ∷ qs) rest after e none f =
    let same = one_record order unit text p q e.0 f.0 e.1 f.1 in
    let more = longest_records order unit e.0 ps qs rest after e.2 none (subst (λ (t : List ℕ). AreRecords order unit t qs after) (sym same.1) f.2) in
    omega (arith, more)

-- two lists of records of one length are one
pub one_list : (order : Order) (unit : TimeUnit) (text : List ℕ) (ps qs : List Packet) (rest after : List ℕ)
    → AreRecords order unit text ps rest → AreRecords order unit text qs after → length ps ≡ length qs → (ps ≡ qs) × (rest ≡ after)
one_list order unit text [] [] rest after e f len = (refl, sym e ∙ f)
one_list order unit text [] (q ∷ qs) rest after e f len = absurd (omega (arith, len))
one_list order unit text (p ∷ ps) [] rest after e f len = absurd (omega (arith, len))
one_list order unit text (p ∷ ps) (q ∷ qs) rest after e f len =
    let same = one_record order unit text p q e.0 f.0 e.1 f.1 in
    let more = one_list order unit e.0 ps qs rest after e.2 (subst (λ (t : List ℕ). AreRecords order unit t qs after) (sym same.1) f.2) (omega (arith, len)) in
    (ap (λ (x : Packet). x ∷ ps) same.0 ∙ ap (λ (xs : List Packet). q ∷ xs) more.0, more.1)
