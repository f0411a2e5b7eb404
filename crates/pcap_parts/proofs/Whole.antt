-- Parts that make a whole capture, and what the capture holds.
use Rattle.std.proofs.Common.{◌≡◌, ℕ, ◌+◌, ◌-◌, ◌≤◌, List, [], ◌∷◌, ◌++◌, length, length-append, length-take, take, drop, Option, Some, None, refl, sym, ap, ◌∙◌, subst, inl, inr, ◌⊎◌, arith, option_map, ne_eqb, lt-ltb, le-ltb}
use Rattle.std.specs.List.{AllZip}
use Rattle.std.proofs.lemmas.Bool.{cases_eq, cases_lt, lt-leb, le-leb}
use Rattle.std.proofs.lemmas.List.{append_assoc, append-nil, drop-drop, take-append-drop}
use Rattle.std.proofs.Math.Seq.{drop-length}
use Rattle.savefile.specs.declared.fault.Fault.{Fault}
use Rattle.savefile.specs.declared.fault.Fault.TheVariants as faults
use Rattle.savefile.specs.declared.header.Order.{Order}
use Rattle.savefile.specs.declared.header.Unit.{Unit as TimeUnit}
use Rattle.savefile.specs.declared.packet.Packet.{Packet}
use Rattle.savefile.specs.Savefile.{captured, first_fault, fraction, per_second, Holds, IsHeader}
use Rattle.savefile.proofs.Pieces.{field-front, IsSavefile-front, IsSavefile-header}
use Rattle.savefile.proofs.Records.{longest_records, NoRecord-fault, NoRecord-nil}
use Rattle.pcap_parts.specs.declared.join.Joined.{Joined}
use Rattle.pcap_parts.specs.declared.part.PartCut.{PartCut}
use Rattle.pcap_parts.specs.Joining.{at_record, begun, joined, IsBad, IsWhole, Joins}
use Rattle.pcap_parts.specs.Parts.{after_records}
use Rattle.pcap_parts.specs.Whole.{all_of, between, IsPartOf}
use Rattle.pcap_parts.proofs.Joining.{fault_later, reads_by_parts}

-- a header without records holds nothing
header_alone : (text : List ℕ) (order : Order) (unit : TimeUnit) (snap : ℕ) → IsHeader order text unit snap → Holds (take 24 text) order unit snap [] None
header_alone text order unit snap is =
    let reads = IsSavefile-header text order unit snap is in
    record {
      rest = [];
      reads = reads;
      longest = λ others after s. longest_records order unit (drop 24 (take 24 text)) [] others [] after reads.records (NoRecord-nil order unit [] refl) s.records;
      ends = refl;
    }

-- the fault of a bad header stays, whatever follows
bad_stays : (order : Order) (unit : TimeUnit) (place : ℕ) (rest more : List ℕ) (fault : Option Fault)
    → fault ≡ first_fault order unit place rest → IsBad fault → first_fault order unit place (rest ++ more) ≡ fault
bad_stays order unit place rest more fault is bad =
    let cut = fraction order rest in
    let size = captured order rest in
    elim (cases_eq (length rest) 0) [
      | inl nothing ↦ let none : fault ≡ None = is ∙ (rw nothing refl) in absurd (subst IsBad none bad)
      | inr some ↦ elim (cases_lt (length rest) 16) [
        | inl torn ↦ let t : fault ≡ Some (faults.TornRecord place) = is ∙ (rw (ne_eqb (length rest) 0 some, lt-ltb (length rest) 16 torn) refl) in absurd (subst IsBad t bad)
        | inr header ↦
            let long : 16 ≤ length (rest ++ more) = omega (arith, header, length-append rest more) in
            let cut-stays : fraction order (rest ++ more) ≡ cut = field-front order rest more 4 4 (omega (arith, header)) in
            let size-stays : captured order (rest ++ more) ≡ size = field-front order rest more 8 4 (omega (arith, header)) in
            let there : (length (rest ++ more) ≡ 0) → ⊥ = λ z. omega (arith, z, long) in
            elim (cases_lt cut (per_second unit)) [
              | inr over ↦
                  let f : fault ≡ Some (faults.BadFraction place) = is ∙ (rw (ne_eqb (length rest) 0 some, le-ltb (length rest) 16 header, le-leb (per_second unit) cut over) refl) in
                  (rw (ne_eqb (length (rest ++ more)) 0 there, le-ltb (length (rest ++ more)) 16 long, cut-stays, le-leb (per_second unit) cut over) refl) ∙ sym f
              | inl below ↦ elim (cases_lt 262144 size) [
                | inl over ↦
                    let f : fault ≡ Some (faults.TooLong place) = is ∙ (rw (ne_eqb (length rest) 0 some, le-ltb (length rest) 16 header, lt-leb (per_second unit) cut below, lt-ltb 262144 size over) refl) in
                    (rw (ne_eqb (length (rest ++ more)) 0 there, le-ltb (length (rest ++ more)) 16 long, cut-stays, size-stays, lt-leb (per_second unit) cut below, lt-ltb 262144 size over) refl) ∙ sym f
                | inr short ↦ elim (cases_lt (length rest) (16 + size)) [
                  | inl torn ↦
                      let t : fault ≡ Some (faults.TornRecord place) = is ∙ (rw (ne_eqb (length rest) 0 some, le-ltb (length rest) 16 header, lt-leb (per_second unit) cut below, le-ltb 262144 size short, lt-ltb (length rest) (16 + size) torn) refl) in
                      absurd (subst IsBad t bad)
                  | inr whole ↦
                      let none : fault ≡ None = is ∙ (rw (ne_eqb (length rest) 0 some, le-ltb (length rest) 16 header, lt-leb (per_second unit) cut below, le-ltb 262144 size short, le-ltb (length rest) (16 + size) whole) refl) in
                      absurd (subst IsBad none bad)
                ]
              ]
            ]
      ]
    ]

-- a capture that ends at a bad record holds the same, whatever follows
bad_ends : (text more : List ℕ) (order : Order) (unit : TimeUnit) (snap : ℕ) (packets : List Packet) (fault : Fault)
    → Holds text order unit snap packets (Some fault) → IsBad (Some fault) → Holds (text ++ more) order unit snap packets (Some fault)
bad_ends text more order unit snap packets fault h bad =
    let reads = IsSavefile-front text more order unit snap packets h.rest h.reads in
    let stays = bad_stays order unit (length packets) h.rest more (Some fault) h.ends bad in
    record {
      rest = h.rest ++ more;
      reads = reads;
      longest = λ others after s. longest_records order unit (drop 24 (text ++ more)) packets others (h.rest ++ more) after reads.records
          (NoRecord-fault order unit (length packets) (h.rest ++ more) fault stays) s.records;
      ends = sym stays;
    }

-- what is left of a text from a place on is a part and then what is left from its end on
cut_in_two : (first end : ℕ) (text : List ℕ) → first ≤ end → drop first text ≡ between first end text ++ drop end text
cut_in_two first end text ordered =
    let sum : first + (end - first) ≡ end = omega (arith, ordered) in
    sym (take-append-drop (end - first) (drop first text))
    ∙ ap (λ (t : List ℕ). between first end text ++ t) (drop-drop (end - first) first text ∙ ap (λ n. drop n text) sum)

-- the fault of a record, put at its place in the whole
at_place : (order : Order) (unit : TimeUnit) (place : ℕ) (n : ℕ) (rest : List ℕ) → option_map (at_record n) (first_fault order unit place rest) ≡ first_fault order unit n rest
at_place order unit place n rest =
    let cut = fraction order rest in
    let size = captured order rest in
    elim (cases_eq (length rest) 0) [
      | inl nothing ↦ rw nothing refl
      | inr some ↦ elim (cases_lt (length rest) 16) [
        | inl torn ↦ rw (ne_eqb (length rest) 0 some, lt-ltb (length rest) 16 torn) refl
        | inr header ↦ elim (cases_lt cut (per_second unit)) [
          | inr bad ↦ rw (ne_eqb (length rest) 0 some, le-ltb (length rest) 16 header, le-leb (per_second unit) cut bad) refl
          | inl below ↦ elim (cases_lt 262144 size) [
            | inl long ↦ rw (ne_eqb (length rest) 0 some, le-ltb (length rest) 16 header, lt-leb (per_second unit) cut below, lt-ltb 262144 size long) refl
            | inr short ↦ elim (cases_lt (length rest) (16 + size)) [
              | inl torn ↦ rw (ne_eqb (length rest) 0 some, le-ltb (length rest) 16 header, lt-leb (per_second unit) cut below, le-ltb 262144 size short, lt-ltb (length rest) (16 + size) torn) refl
              | inr whole ↦ rw (ne_eqb (length rest) 0 some, le-ltb (length rest) 16 header, lt-leb (per_second unit) cut below, le-ltb 262144 size short, le-ltb (length rest) (16 + size) whole) refl
            ]
          ]
        ]
      ]
    ]

-- ---- Faults

fault_cases : (fault : Option Fault) → (fault ≡ None) ⊎ ((f : Fault) × (fault ≡ Some f))
fault_cases None = inl refl
fault_cases (Some f) = inr (f, refl)

-- a bad record is one at each place
bad_kept : (n : ℕ) (fault : Option Fault) → IsBad (option_map (at_record n) fault) → IsBad fault
bad_kept n None bad = bad
bad_kept n (Some (faults.TornRecord place)) bad = bad
bad_kept n (Some (faults.BadFraction place)) bad = tt
bad_kept n (Some (faults.TooLong place)) bad = tt
bad_kept n (Some faults.ShortHeader) bad = bad
bad_kept n (Some faults.NotSavefile) bad = bad
bad_kept n (Some faults.Version) bad = bad
bad_kept n (Some faults.LinkType) bad = bad
bad_kept n (Some faults.NoMemory) bad = bad
bad_kept n (Some faults.Device) bad = bad
bad_kept n (Some faults.Failed) bad = bad
bad_kept n (Some faults.CountFull) bad = bad

-- places counted from a record, and that from an earlier one
later_fault : (m n : ℕ) (fault : Fault) → after_records (m + n) fault ≡ after_records m (after_records n fault)
later_fault m n (faults.TornRecord place) = ap faults.TornRecord (omega arith)
later_fault m n (faults.BadFraction place) = ap faults.BadFraction (omega arith)
later_fault m n (faults.TooLong place) = ap faults.TooLong (omega arith)
later_fault m n faults.ShortHeader = refl
later_fault m n faults.NotSavefile = refl
later_fault m n faults.Version = refl
later_fault m n faults.LinkType = refl
later_fault m n faults.NoMemory = refl
later_fault m n faults.Device = refl
later_fault m n faults.Failed = refl
later_fault m n faults.CountFull = refl

later_twice : (m n : ℕ) (fault : Option Fault) → option_map (after_records (m + n)) fault ≡ option_map (after_records m) (option_map (after_records n) fault)
later_twice m n None = refl
later_twice m n (Some fault) = ap (λ (f : Fault). Some f) (later_fault m n fault)

from_the_first : (fault : Fault) → after_records 0 fault ≡ fault
from_the_first (faults.TornRecord place) = ap faults.TornRecord (omega arith)
from_the_first (faults.BadFraction place) = ap faults.BadFraction (omega arith)
from_the_first (faults.TooLong place) = ap faults.TooLong (omega arith)
from_the_first faults.ShortHeader = refl
from_the_first faults.NotSavefile = refl
from_the_first faults.Version = refl
from_the_first faults.LinkType = refl
from_the_first faults.NoMemory = refl
from_the_first faults.Device = refl
from_the_first faults.Failed = refl
from_the_first faults.CountFull = refl

counted_from_the_first : (fault : Option Fault) → option_map (after_records 0) fault ≡ fault
counted_from_the_first None = refl
counted_from_the_first (Some fault) = ap (λ (f : Fault). Some f) (from_the_first fault)

-- ---- Parts

-- no part follows a fault
ends_there : (k : Joined) (f : Fault) (ps : List PartCut) (whole : Joined) → k.fault ≡ Some f → Joins k ps whole → (ps ≡ []) × (whole ≡ k)
ends_there k f [] whole is same = (refl, same)
ends_there k f (p ∷ ps) whole is (fits, more) = let clash : None ≡ Some f = sym fits.clean ∙ is in absurd cc

no_lists : (R : PartCut → List Packet → Type 0) (ps : List PartCut) (qs : List (List Packet)) → ps ≡ [] → AllZip R ps qs → qs ≡ []
no_lists R [] [] is zip = refl
no_lists R [] (q ∷ qs) is zip = absurd zip
no_lists R (p ∷ ps) qs is zip = absurd (omega (arith, ap length is))

-- the header of 24 bytes, and all that follows the place where the next part begins
abbrev pub FromNext : List ℕ → ℕ → List ℕ
FromNext text next = take 24 text ++ drop next text

-- a part, and all that follows it
part_first : (first end next : ℕ) (text : List ℕ) → first ≤ end → first ≡ next
    → (take 24 text ++ between first end text) ++ drop end text ≡ FromNext text next
part_first first end next text ordered is =
    append_assoc (take 24 text) (between first end text) (drop end text)
    ∙ ap (λ (t : List ℕ). take 24 text ++ t) (sym (cut_in_two first end text ordered))
    ∙ ap (λ n. FromNext text n) is

-- What the header and the bytes from the next part on hold: the packets of all further parts, up to the fault of the whole, with its place counted
-- from where they begin.
holds_from : (text : List ℕ) (order : Order) (unit : TimeUnit) (snap : ℕ) (parts : List PartCut) (lists : List (List Packet)) (j whole : Joined)
    → IsHeader order text unit snap → j.fault ≡ None → j.size ≡ length text → AllZip (IsPartOf text order unit snap) parts lists → Joins j parts whole → IsWhole whole
    → (fault : Option Fault) × Holds (FromNext text j.next) order unit snap (all_of lists) fault × (whole.fault ≡ option_map (after_records j.read) fault)
holds_from text order unit snap [] [] j whole is clean size zip same ended =
    let next : j.next ≡ length text = elim ended [
      | inl bad ↦ let nothing : whole.fault ≡ None = ap (λ (k : Joined). k.fault) same ∙ clean in absurd (subst IsBad nothing bad)
      | inr at_end ↦ ap (λ (k : Joined). k.next) (sym same) ∙ at_end ∙ ap (λ (k : Joined). k.size) same ∙ size
    ] in
    let alone : take 24 text ≡ FromNext text j.next =
    sym (append-nil (take 24 text)) ∙ ap (λ (t : List ℕ). take 24 text ++ t) (sym (drop-length text)) ∙ ap (λ n. FromNext text n) (sym next) in
    (None, subst (λ (t : List ℕ). Holds t order unit snap [] None) alone (header_alone text order unit snap is), ap (λ (k : Joined). k.fault) same ∙ clean)
holds_from text order unit snap [] (q ∷ qs) j whole is clean size zip same ended = absurd zip
holds_from text order unit snap (p ∷ ps) [] j whole is clean size zip same ended = absurd zip
holds_from text order unit snap (p ∷ ps) (q ∷ qs) j whole is clean size (part, zip) (fits, more) ended =
    let k = joined j p in
    let n = j.read + p.tally.read in
    let header = take 24 text in
    let bytes = between p.first p.end text in
    let rest = drop p.end text in
    let here : (header ++ bytes) ++ rest ≡ FromNext text j.next = part_first p.first p.end j.next text part.ordered fits.first in
    let sum : j.read + length q ≡ n = omega (arith, part.counted) in
    elim (fault_cases p.fault) [
      | inl whole-part ↦
          let (fault, holds, told) = holds_from text order unit snap ps qs k whole is (ap (option_map (at_record n)) whole-part) size zip more ended in (
            option_map (after_records (length q)) fault,
            subst (λ (t : List ℕ). Holds t order unit snap (q ++ all_of qs) (option_map (after_records (length q)) fault)) here
                (reads_by_parts header bytes rest order unit snap q (all_of qs) fault (omega (arith, length-take 24 text, is.size))
                (subst (λ (f : Option Fault). Holds (header ++ bytes) order unit snap q f) whole-part part.holds) holds),
            told ∙ ap (λ m. option_map (after_records m) fault) (sym sum) ∙ later_twice j.read (length q) fault,
          )
      | inr (f, faulty) ↦
          let last = ends_there k (at_record n f) ps whole (ap (option_map (at_record n)) faulty) more in
          let none = no_lists (IsPartOf text order unit snap) ps qs last.0 zip in
          let packets : q ≡ q ++ all_of qs = sym (append-nil q) ∙ ap (λ (ls : List (List Packet)). q ++ all_of ls) (sym none) in
          let holds : Holds ((header ++ bytes) ++ rest) order unit snap q (Some f) = elim (subst IsWhole last.1 ended) [
            | inl bad ↦
                bad_ends (header ++ bytes) rest order unit snap q f (subst (λ (g : Option Fault). Holds (header ++ bytes) order unit snap q g) faulty part.holds)
                (subst IsBad faulty (bad_kept n p.fault bad))
            | inr at_end ↦
                let nothing : rest ≡ [] = ap (λ m. drop m text) (at_end ∙ size) ∙ drop-length text in
                subst (λ (t : List ℕ). Holds t order unit snap q (Some f)) (sym (append-nil (header ++ bytes)) ∙ ap (λ (t : List ℕ). (header ++ bytes) ++ t) (sym nothing))
                (subst (λ (g : Option Fault). Holds (header ++ bytes) order unit snap q g) faulty part.holds)
          ] in
          let place : whole.fault ≡ option_map (after_records j.read) (Some f) =
          ap (λ (i : Joined). i.fault) last.1
          ∙ ap (option_map (at_record n)) part.holds.ends
          ∙ at_place order unit (length q) n part.holds.rest
          ∙ ap (λ m. first_fault order unit m part.holds.rest) (sym sum)
          ∙ fault_later order unit j.read (length q) part.holds.rest
          ∙ ap (option_map (after_records j.read)) (sym part.holds.ends ∙ faulty) in (
            Some f,
            subst (λ (t : List ℕ). Holds t order unit snap (q ++ all_of qs) (Some f)) here (subst (λ (ps : List Packet). Holds ((header ++ bytes) ++ rest) order unit snap ps (Some f)) packets holds),
            place,
          )
    ]

pub holds_its_parts : (text : List ℕ) (order : Order) (unit : TimeUnit) (snap : ℕ) (parts : List PartCut) (lists : List (List Packet)) (whole : Joined)
    → IsHeader order text unit snap → AllZip (IsPartOf text order unit snap) parts lists → Joins (begun (length text)) parts whole → IsWhole whole
    → Holds text order unit snap (all_of lists) whole.fault
holds_its_parts text order unit snap parts lists whole is zip joins ended =
    let (fault, holds, told) = holds_from text order unit snap parts lists (begun (length text)) whole is refl refl zip joins ended in
    let same : fault ≡ whole.fault = sym (counted_from_the_first fault) ∙ sym told in
    subst (λ (t : List ℕ). Holds t order unit snap (all_of lists) whole.fault) (take-append-drop 24 text)
    (subst (λ (f : Option Fault). Holds (FromNext text 24) order unit snap (all_of lists) f) same holds)
