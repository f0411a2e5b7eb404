-- Each text is refused, or holds something.
use Rattle.std.proofs.Common.{ℕ, zero, suc, ◌+◌, ◌≤◌, ◌⊎◌, List, [], ◌∷◌, length, drop, Option, refl, ap, arith, inl, inr, length-drop}
use Rattle.std.proofs.lemmas.Bool.{cases_eq, cases_lt}
use Rattle.savefile.specs.declared.fault.Fault.{Fault}
use Rattle.savefile.specs.declared.fault.Fault.TheVariants.{ShortHeader, NotSavefile, Version, LinkType}
use Rattle.savefile.specs.declared.header.Order.{Order}
use Rattle.savefile.specs.declared.header.Order.TheVariants.{Little, Big}
use Rattle.savefile.specs.declared.header.Unit.{Unit as TimeUnit}
use Rattle.savefile.specs.declared.header.Unit.TheVariants.{Micro, Nano}
use Rattle.savefile.specs.declared.packet.Packet.{Packet}
use Rattle.savefile.specs.Savefile.{captured, field, first_fault, magic_of, AreRecords, HasMagic, Holds, IsHeader, NoRecord, RefusesHeader}
use Rattle.savefile.proofs.Records.{longest_records, record_or_fault, NoRecord-fault, NoRecord-nil}

-- ---- The header

-- one of the four magic numbers, or none
none_of_four : (text : List ℕ) → (HasMagic text Little Micro → ⊥) → (HasMagic text Little Nano → ⊥) → (HasMagic text Big Micro → ⊥) → (HasMagic text Big Nano → ⊥)
    → (order : Order) (unit : TimeUnit) → HasMagic text order unit → ⊥
none_of_four text a b c d Little Micro = a
none_of_four text a b c d Little Nano = b
none_of_four text a b c d Big Micro = c
none_of_four text a b c d Big Nano = d

-- a text has a magic number or none
magic_or_none : (text : List ℕ) → ((order : Order) × (unit : TimeUnit) × HasMagic text order unit) ⊎ ((order : Order) (unit : TimeUnit) → HasMagic text order unit → ⊥)
magic_or_none text =
    let little = field Little text 0 4 in
    let big = field Big text 0 4 in
    elim (cases_eq little (magic_of Micro)) [
      | inl is ↦ inl (Little, Micro, is)
      | inr a ↦ elim (cases_eq little (magic_of Nano)) [
        | inl is ↦ inl (Little, Nano, is)
        | inr b ↦ elim (cases_eq big (magic_of Micro)) [
          | inl is ↦ inl (Big, Micro, is)
          | inr c ↦ elim (cases_eq big (magic_of Nano)) [
            | inl is ↦ inl (Big, Nano, is)
            | inr d ↦ inr (none_of_four text a b c d)
          ]
        ]
      ]
    ]

-- the header that a text begins with
abbrev HasHeader : List ℕ → Type 0
HasHeader text = (order : Order) × (unit : TimeUnit) × IsHeader order text unit (field order text 16 4)

-- the fault for which its header is refused
abbrev IsRefused : List ℕ → Type 0
IsRefused text = (fault : Fault) × RefusesHeader text fault

-- after a magic number there is a header, or a fault
behind_magic : (text : List ℕ) (order : Order) (unit : TimeUnit) → 24 ≤ length text → HasMagic text order unit → IsRefused text ⊎ HasHeader text
behind_magic text order unit size magic = elim (cases_eq (field order text 4 2) 2) [
  | inr wrong ↦ inl (Version, (size, order, unit, magic, λ version. wrong version.0))
  | inl major ↦ elim (cases_eq (field order text 6 2) 4) [
    | inr wrong ↦ inl (Version, (size, order, unit, magic, λ version. wrong version.1))
    | inl minor ↦ elim (cases_eq (field order text 20 4) 1) [
      | inr wrong ↦ inl (LinkType, (size, order, unit, magic, (major, minor), wrong))
      | inl link ↦ inr (order, unit, record { size = size; magic = magic; major = major; minor = minor; snapshot = refl; link_type = link })
    ]
  ]
]

-- each text begins with a header, or is refused
header_or_refusal : (text : List ℕ) → IsRefused text ⊎ HasHeader text
header_or_refusal text = elim (cases_lt (length text) 24) [
  | inl short ↦ inl (ShortHeader, short)
  | inr size ↦ elim (magic_or_none text) [
    | inl m ↦ behind_magic text m.0 m.1 size m.2
    | inr none ↦ inl (NotSavefile, (size, none))
  ]
]

-- ---- The records

-- a text of at most n bytes is records up to a rest that begins with none
pub all_records : (order : Order) (unit : TimeUnit) (n : ℕ) (text : List ℕ) → length text ≤ n
    → (ps : List Packet) × (rest : List ℕ) × AreRecords order unit text ps rest × NoRecord order unit rest
all_records order unit zero text le = ([], text, refl, NoRecord-nil order unit text (omega (arith, le)))
all_records order unit (suc n) text le = elim (record_or_fault order unit 0 text) [
  | inl nothing ↦ ([], text, refl, NoRecord-nil order unit text nothing)
  | inr some ↦ elim some [
    | inl f ↦ ([], text, refl, NoRecord-fault order unit 0 text f.0 f.1)
    | inr r ↦
        let size : 16 ≤ length text = r.2.size in
        let shorter : length r.1 ≤ n = omega (arith, ap length r.2.follows, length-drop (16 + captured order text) text, size, le) in
        let more = all_records order unit n r.1 shorter in
        (r.0 ∷ more.0, more.1, (r.1, r.2, more.2), more.3)
  ]
]

-- after a header there is what the savefile holds
held : (text : List ℕ) (order : Order) (unit : TimeUnit) (snap : ℕ) → IsHeader order text unit snap
    → (packets : List Packet) × (end : Option Fault) × Holds text order unit snap packets end
held text order unit snap header =
    let all = all_records order unit (length (drop 24 text)) (drop 24 text) (omega arith) in (
      all.0,
      first_fault order unit (length all.0) all.1,
      record {
        rest = all.1;
        reads = record { header = header; records = all.2 };
        longest = λ others after s. longest_records order unit (drop 24 text) all.0 others all.1 after all.2 all.3 s.records;
        ends = refl;
      },
    )

-- each text is refused, or holds something
pub refused_or_held : (text : List ℕ) → ((fault : Fault) × RefusesHeader text fault)
    ⊎ ((order : Order) × (unit : TimeUnit) × (snap : ℕ) × (packets : List Packet) × (end : Option Fault) × Holds text order unit snap packets end)
refused_or_held text = elim (header_or_refusal text) [
  | inl refused ↦ inl refused
  | inr h ↦
      let snap = field h.0 text 16 4 in
      let all = held text h.0 h.1 snap h.2 in
      inr (h.0, h.1, snap, all.0, all.1, all.2)
]
