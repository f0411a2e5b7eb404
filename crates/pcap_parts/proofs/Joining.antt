-- Captures in parts, joined.
use Rattle.std.proofs.Common.{◌≡◌, ℕ, ◌+◌, ◌≤◌, List, [], ◌∷◌, ◌++◌, length, length-append, length-drop, drop, Option, None, refl, sym, ap, ◌∙◌, subst, inl, inr, arith, option_map, ne_eqb, lt-ltb, le-ltb}
use Rattle.std.proofs.lemmas.Bool.{cases_eq, cases_lt, lt-leb, le-leb}
use Rattle.std.proofs.lemmas.List.{append_assoc, drop-append-le, nil_from_length}
use Rattle.std.proofs.lemmas.List.Concat.{flat_map-append}
use Rattle.std.specs.List.{flat_map}
use Rattle.bpfvm.specs.declared.insn.Insn.{Insn}
use Rattle.savefile.specs.declared.fault.Fault.{Fault}
use Rattle.savefile.specs.declared.header.Order.{Order}
use Rattle.savefile.specs.declared.header.Unit.{Unit as TimeUnit}
use Rattle.savefile.specs.declared.packet.Packet.{Packet}
use Rattle.savefile.specs.Savefile.{bytes_in, captured, encoded, first_fault, fraction, header_text, magic_of, per_second, record_text, AreRecords, Holds, IsSavefile, NoRecord}
use Rattle.savefile.proofs.Contents.{clean_end}
use Rattle.savefile.proofs.Joining.{IsSavefile-join}
use Rattle.savefile.proofs.Lengths.{length-bytes_in}
use Rattle.savefile.proofs.Records.{longest_records, AreRecords-push}
use Rattle.savefile.specs.Snapshot.{effective_snaplen}
use Rattle.pcap_cut.specs.Cut.{accepted, cut_text}
use Rattle.pcap_cut.proofs.Accepted.{accepted-append, accepted-nil}
use Rattle.pcap_parts.specs.Parts.{after_records}
use Rattle.pcap_parts.specs.Whole.{all_of, without_headers}

-- what follows the header of 24 bytes
pub behind : (header rest : List ℕ) → length header ≡ 24 → drop 24 (header ++ rest) ≡ rest
behind header rest long =
    drop-append-le 24 header rest (omega (arith, long)) ∙ ap (λ (t : List ℕ). t ++ rest) (nil_from_length (drop 24 header) (length-drop 24 header ∙ omega (arith, long)))

-- the first fault of a rest, with its place counted from a later record on
pub fault_later : (order : Order) (unit : TimeUnit) (n place : ℕ) (rest : List ℕ)
    → first_fault order unit (n + place) rest ≡ option_map (after_records n) (first_fault order unit place rest)
fault_later order unit n place rest =
    let cut = fraction order rest in
    let size = captured order rest in
    elim (cases_eq (length rest) 0) [
      | inl nothing ↦ rw nothing refl
      | inr some ↦ elim (cases_lt (length rest) 16) [
        | inl torn ↦ rw (ne_eqb (length rest) 0 some, lt-ltb (length rest) 16 torn) refl
        | inr header ↦ elim (cases_lt cut (per_second unit)) [
          | inr bad ↦ rw (ne_eqb (length rest) 0 some, le-ltb (length rest) 16 header, le-leb (per_second unit) cut bad) refl
          | inl below ↦ elim (cases_lt 262144 size) [
            | inl long ↦ rw (ne_eqb (length rest) 0 some, le-ltb (length rest) 16 header, lt-leb (per_second unit) cut below, lt-ltb 262144 size long) refl
            | inr short ↦ elim (cases_lt (length rest) (16 + size)) [
              | inl torn ↦ rw (ne_eqb (length rest) 0 some, le-ltb (length rest) 16 header, lt-leb (per_second unit) cut below, le-ltb 262144 size short, lt-ltb (length rest) (16 + size) torn) refl
              | inr whole ↦ rw (ne_eqb (length rest) 0 some, le-ltb (length rest) 16 header, lt-leb (per_second unit) cut below, le-ltb 262144 size short, le-ltb (length rest) (16 + size) whole) refl
            ]
          ]
        ]
      ]
    ]

-- no record stands where the longest list of a savefile ends
pub ends_records : (text : List ℕ) (order : Order) (unit : TimeUnit) (snap : ℕ) (ps : List Packet) (fault : Option Fault)
    → (h : Holds text order unit snap ps fault) → NoRecord order unit h.rest
ends_records text order unit snap ps fault h = λ p after r.
    let more : IsSavefile text order unit snap (ps ++ p ∷ []) after = record { header = h.reads.header; records = AreRecords-push order unit (drop 24 text) ps p h.rest after h.reads.records r } in
    absurd (omega (arith, h.longest (ps ++ p ∷ []) after more, length-append ps (p ∷ [])))

pub reads_by_parts : (header part rest : List ℕ) (order : Order) (unit : TimeUnit) (snap : ℕ) (packets more : List Packet) (fault : Option Fault)
    → length header ≡ 24 → Holds (header ++ part) order unit snap packets None → Holds (header ++ rest) order unit snap more fault
    → Holds (header ++ part ++ rest) order unit snap (packets ++ more) (option_map (after_records (length packets)) fault)
reads_by_parts header part rest order unit snap packets more fault long h k =
    let clean : IsSavefile (header ++ part) order unit snap packets [] = (clean_end (header ++ part) order unit snap packets None h).0 refl in
    let records : AreRecords order unit rest more k.rest = subst (λ (t : List ℕ). AreRecords order unit t more k.rest) (behind header rest long) k.reads.records in
    let whole : IsSavefile (header ++ part ++ rest) order unit snap (packets ++ more) k.rest = IsSavefile-join (header ++ part) rest order unit snap packets more k.rest clean records in
    record {
      rest = k.rest;
      reads = whole;
      longest = λ others after s. longest_records order unit (drop 24 (header ++ part ++ rest)) (packets ++ more) others k.rest after whole.records
          (ends_records (header ++ rest) order unit snap more fault k) s.records;
      ends = ap (option_map (after_records (length packets))) k.ends ∙ sym (fault_later order unit (length packets) (length more) k.rest)
          ∙ ap (λ n. first_fault order unit n k.rest) (sym (length-append packets more));
    }

-- the header that is written has 24 bytes
pub header_length : (order : Order) (unit : TimeUnit) (snap : ℕ) → length (header_text order unit snap) ≡ 24
unfolding header_text
header_length order unit snap =
    let n : ℕ → ℕ → List ℕ = bytes_in order in
    let a = n 4 (magic_of unit) in
    let b = a ++ n 2 2 in
    let c = b ++ n 2 4 in
    let d = c ++ n 4 0 in
    let e = d ++ n 4 0 in
    let f = e ++ n 4 snap in
    omega (
      arith,
      length-bytes_in order 4 (magic_of unit),
      length-bytes_in order 2 2,
      length-bytes_in order 2 4,
      length-bytes_in order 4 0,
      length-bytes_in order 4 snap,
      length-bytes_in order 4 1,
      length-append a (n 2 2),
      length-append b (n 2 4),
      length-append c (n 4 0),
      length-append d (n 4 0),
      length-append e (n 4 snap),
      length-append f (n 4 1),
    )

pub cuts_by_parts : (program : List Insn) (snap : ℕ) (order : Order) (unit : TimeUnit) (packets more : List Packet)
    → cut_text program snap order unit (packets ++ more) ≡ cut_text program snap order unit packets ++ drop 24 (cut_text program snap order unit more)
unfolding cut_text encoded
cuts_by_parts program snap order unit packets more =
    let n = effective_snaplen snap in
    let header = header_text order unit n in
    let records : List Packet → List ℕ = flat_map (record_text order unit) in
    let first = accepted program n packets in
    let others = accepted program n more in
    ap (λ (ps : List Packet). header ++ records ps) (accepted-append program n packets more)
    ∙ ap (λ (t : List ℕ). header ++ t) (flat_map-append (record_text order unit) first others)
    ∙ sym (append_assoc header (records first) (records others))
    ∙ ap (λ (t : List ℕ). (header ++ records first) ++ t) (sym (behind header (records others) (header_length order unit n)))

-- a cut of nothing is a header
cut_of_nothing : (program : List Insn) (snap : ℕ) (order : Order) (unit : TimeUnit) → drop 24 (cut_text program snap order unit []) ≡ []
unfolding cut_text encoded
cut_of_nothing program snap order unit =
    let n = effective_snaplen snap in
    let header = header_text order unit n in
    ap (λ (ps : List Packet). drop 24 (header ++ flat_map (record_text order unit) ps)) (accepted-nil program n) ∙ behind header [] (header_length order unit n)

-- a cut has its header at least
cut_has_header : (program : List Insn) (snap : ℕ) (order : Order) (unit : TimeUnit) (packets : List Packet) → 24 ≤ length (cut_text program snap order unit packets)
unfolding cut_text encoded
cut_has_header program snap order unit packets =
    let n = effective_snaplen snap in
    let header = header_text order unit n in
    let records = flat_map (record_text order unit) (accepted program n packets) in
    omega (arith, header_length order unit n, length-append header records)

-- the cut of the packets of some parts is that of the first, and those of the others without their headers
pub cuts_of_parts : (program : List Insn) (snap : ℕ) (order : Order) (unit : TimeUnit) (packets : List Packet) (lists : List (List Packet))
    → cut_text program snap order unit (packets ++ all_of lists) ≡ cut_text program snap order unit packets ++ without_headers (cut_text program snap order unit) lists
cuts_of_parts program snap order unit packets [] =
    let cut = cut_text program snap order unit in
    cuts_by_parts program snap order unit packets [] ∙ ap (λ (t : List ℕ). cut packets ++ t) (cut_of_nothing program snap order unit)
cuts_of_parts program snap order unit packets (more ∷ lists) =
    let cut = cut_text program snap order unit in
    let others = without_headers cut lists in
    cuts_by_parts program snap order unit packets (more ++ all_of lists)
    ∙ ap (λ (t : List ℕ). cut packets ++ drop 24 t) (cuts_of_parts program snap order unit more lists)
    ∙ ap (λ (t : List ℕ). cut packets ++ t) (drop-append-le 24 (cut more) others (cut_has_header program snap order unit more))
