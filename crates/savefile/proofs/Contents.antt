-- What a savefile is read as, and what it holds, is one.
use Rattle.std.proofs.Common.{◌≡◌, ◌↔◌, ℕ, List, [], ◌∷◌, ◌++◌, length, drop, Option, Some, None, refl, sym, ap, subst, ◌∙◌, arith, inl, inr, length-append}
use Rattle.std.proofs.lemmas.Bool.{cases_lt}
use Rattle.std.proofs.lemmas.List.{get_or_past, nil_from_length}
use Rattle.savefile.specs.declared.fault.Fault.{Fault}
use Rattle.savefile.specs.declared.header.Order.{Order}
use Rattle.savefile.specs.declared.header.Unit.{Unit as TimeUnit}
use Rattle.savefile.specs.declared.packet.Packet.{Packet}
use Rattle.savefile.specs.Savefile.{field, first_fault, Holds, IsSavefile, IsText}
use Rattle.savefile.proofs.Headers.{one_order, one_unit, AreBytes}
use Rattle.savefile.proofs.Records.{one_list, record_or_fault, AreRecords-push}

-- a text has bytes at each place, and zeros past its end
pub AreBytes-text : (text : List ℕ) → IsText text → AreBytes text
AreBytes-text text h i = elim (cases_lt i (length text)) [
  | inl lt ↦ h i 0 lt
  | inr le ↦ rw (get_or_past text i 0 le) (omega arith)
]

-- the header of two readings
pub record SameHeader (order order' : Order) (unit unit' : TimeUnit) (snap snap' : ℕ) : Type 0 where
  pub order_is : order ≡ order'
  pub unit_is : unit ≡ unit'
  pub snap_is : snap ≡ snap'

-- a text has one header
pub one_header : (text : List ℕ) (order order' : Order) (unit unit' : TimeUnit) (snap snap' : ℕ) (ps qs : List Packet) (rest rest' : List ℕ)
    → IsText text → IsSavefile text order unit snap ps rest → IsSavefile text order' unit' snap' qs rest' → SameHeader order order' unit unit' snap snap'
one_header text order order' unit unit' snap snap' ps qs rest rest' fits r s =
    let bytes = AreBytes-text text fits in
    let o = one_order text order order' unit unit' bytes r.header.magic s.header.magic in
    record {
      order_is = o;
      unit_is = one_unit text order order' unit unit' bytes r.header.magic s.header.magic;
      snap_is = sym r.header.snapshot ∙ ap (λ (x : Order). field x text 16 4) o ∙ s.header.snapshot;
    }

-- a reading under the other names of its header
renamed : (text : List ℕ) (order order' : Order) (unit unit' : TimeUnit) (snap snap' : ℕ) (qs : List Packet) (rest : List ℕ)
    → SameHeader order order' unit unit' snap snap' → IsSavefile text order' unit' snap' qs rest → IsSavefile text order unit snap qs rest
renamed text order order' unit unit' snap snap' qs rest e s =
    subst (λ (x : Order). IsSavefile text x unit snap qs rest) (sym e.order_is)
    (subst (λ (x : TimeUnit). IsSavefile text order' x snap qs rest) (sym e.unit_is)
    (subst (λ (x : ℕ). IsSavefile text order' unit' x qs rest) (sym e.snap_is) s))

-- a text is read in one way as this many packets
pub one_reading : (text : List ℕ) (order order' : Order) (unit unit' : TimeUnit) (snap snap' : ℕ) (ps qs : List Packet) (rest rest' : List ℕ)
    → IsText text → IsSavefile text order unit snap ps rest → IsSavefile text order' unit' snap' qs rest' → length ps ≡ length qs
    → (order ≡ order') × (unit ≡ unit') × (snap ≡ snap') × (ps ≡ qs) × (rest ≡ rest')
one_reading text order order' unit unit' snap snap' ps qs rest rest' fits r s len =
    let e = one_header text order order' unit unit' snap snap' ps qs rest rest' fits r s in
    let t = renamed text order order' unit unit' snap snap' qs rest' e s in
    let same = one_list _ _ _ ps qs rest rest' r.records t.records len in
    (e.order_is, e.unit_is, e.snap_is, same.0, same.1)

-- a text holds one list of packets, and ends with one fault or none
pub one_content : (text : List ℕ) (order order' : Order) (unit unit' : TimeUnit) (snap snap' : ℕ) (ps qs : List Packet) (f g : Option Fault)
    → IsText text → Holds text order unit snap ps f → Holds text order' unit' snap' qs g
    → (order ≡ order') × (unit ≡ unit') × (snap ≡ snap') × (ps ≡ qs) × (f ≡ g)
one_content text order order' unit unit' snap snap' ps qs f g fits h k =
    let e = one_header text order order' unit unit' snap snap' ps qs h.rest k.rest fits h.reads k.reads in
    let k' = renamed text order order' unit unit' snap snap' qs k.rest e k.reads in
    let back : SameHeader order' order unit' unit snap' snap = record { order_is = sym e.order_is; unit_is = sym e.unit_is; snap_is = sym e.snap_is } in
    let h' = renamed text order' order unit' unit snap' snap ps h.rest back h.reads in
    let len : length ps ≡ length qs = omega (arith, h.longest qs k.rest k', k.longest ps h.rest h') in
    let same = one_list _ _ _ ps qs h.rest k.rest h.reads.records k'.records len in
    let fault : first_fault order unit (length ps) h.rest ≡ first_fault order' unit' (length qs) k.rest =
    ap (λ (x : List ℕ). first_fault order unit (length ps) x) same.1
    ∙ ap (λ (x : ℕ). first_fault order unit x k.rest) len
    ∙ ap (λ (x : Order). first_fault x unit (length qs) k.rest) e.order_is
    ∙ ap (λ (x : TimeUnit). first_fault order' x (length qs) k.rest) e.unit_is in
    (e.order_is, e.unit_is, e.snap_is, same.0, h.ends ∙ fault ∙ sym k.ends)

-- Where a savefile has no fault, nothing is left of it, and the other way about.
pub clean_end : (text : List ℕ) (order : Order) (unit : TimeUnit) (snap : ℕ) (ps : List Packet) (f : Option Fault)
    → Holds text order unit snap ps f → (f ≡ None) ↔ IsSavefile text order unit snap ps []
clean_end text order unit snap ps f h = (to_the_end, no_fault)
  where
    to_the_end : f ≡ None → IsSavefile text order unit snap ps []
    to_the_end e = elim (record_or_fault order unit (length ps) h.rest) [
      | inl nothing ↦ subst (λ (t : List ℕ). IsSavefile text order unit snap ps t) (nil_from_length h.rest nothing) h.reads
      | inr some ↦ elim some [
        | inl g ↦ let none : None ≡ Some g.0 = sym e ∙ h.ends ∙ g.1 in absurd cc
        | inr r ↦
            let more : IsSavefile text order unit snap (ps ++ r.0 ∷ []) r.1 = record { header = h.reads.header; records = AreRecords-push order unit (drop 24 text) ps r.0 h.rest r.1 h.reads.records r.2 } in
            absurd (omega (arith, h.longest (ps ++ r.0 ∷ []) r.1 more, length-append ps (r.0 ∷ [])))
      ]
    ]

    no_fault : IsSavefile text order unit snap ps [] → f ≡ None
    no_fault s =
        let left = (one_list order unit (drop 24 text) ps ps h.rest [] h.reads.records s.records refl).1 in
        h.ends ∙ ap (λ (t : List ℕ). first_fault order unit (length ps) t) left
