-- Savefiles as pcap-savefile(5) describes them. A text is a list of bytes.
use Rattle.std.specs.Prelude.{◌≡◌, ◌≢◌, ℕ, ◌+◌, ◌*◌, ◌/◌, ◌^◌, ◌<◌, ◌≤◌, List, [], ◌∷◌, ◌++◌, length, take, drop, All, Option, Some, None, nat_lt, nat_le, ◌==◌, if◌then◌else◌}
use Rattle.std.specs.List.{flat_map}
use Rattle.byteorder.specs.Endian.{little_number, big_number, little_bytes, big_bytes}
use Rattle.savefile.specs.declared.fault.Fault.{Fault}
use Rattle.savefile.specs.declared.fault.Fault.TheVariants.{ShortHeader, NotSavefile, Version, LinkType, TornRecord, BadFraction, TooLong}
use Rattle.savefile.specs.declared.header.Order.{Order}
use Rattle.savefile.specs.declared.header.Order.TheVariants.{Little, Big}
use Rattle.savefile.specs.declared.header.Unit.{Unit as TimeUnit}
use Rattle.savefile.specs.declared.header.Unit.TheVariants.{Micro, Nano}
use Rattle.savefile.specs.declared.packet.Packet.{Packet}
use Rattle.savefile.specs.declared.record.TheConstants.{MAX_SNAP}

-- a packet of these parts
abbrev pub packet : ℕ → ℕ → ℕ → List ℕ → Packet
packet sec nanos len bytes = record { sec = sec; nanos = nanos; len = len; bytes = bytes }

-- each item of a text is a byte
abbrev pub IsText : List ℕ → Type 0
IsText text = All (λ b. b < 256) text

-- ---- Numbers

-- how a byte order reads the number in the first n bytes of a text
abbrev pub number_in : Order → ℕ → List ℕ → ℕ
number_in Little n text = little_number n text
number_in Big n text = big_number n text

-- how a byte order writes the number x in n bytes
abbrev pub bytes_in : Order → ℕ → ℕ → List ℕ
bytes_in Little n x = little_bytes n x
bytes_in Big n x = big_bytes n x

-- the number of n bytes that stands in a text at an offset
abbrev pub field : Order → List ℕ → ℕ → ℕ → ℕ
field order text offset n = number_in order n (drop offset text)

-- ---- Time

-- the magic number
abbrev pub magic_of : TimeUnit → ℕ
magic_of Micro = 0xa1b2c3d4
magic_of Nano = 0xa1b23c4d

-- how many of the unit make a second
abbrev pub per_second : TimeUnit → ℕ
per_second Micro = 1000000
per_second Nano = 1000000000

-- how many nanoseconds the unit has
abbrev pub nanos_in : TimeUnit → ℕ
nanos_in Micro = 1000
nanos_in Nano = 1

-- ---- The grammar

-- The header of 24 bytes: the magic number, the version 2.4, two reserved fields of any content,
-- the snapshot length, and the link type of Ethernet.
pub record IsHeader (order : Order) (text : List ℕ) (unit : TimeUnit) (snap : ℕ) : Type 0 where
  pub size : 24 ≤ length text
  pub magic : field order text 0 4 ≡ magic_of unit
  pub major : field order text 4 2 ≡ 2
  pub minor : field order text 6 2 ≡ 4
  pub snapshot : field order text 16 4 ≡ snap
  pub link_type : field order text 20 4 ≡ 1

-- the fraction of a second, and how many bytes were captured, in the record that a text begins with
abbrev pub fraction : Order → List ℕ → ℕ
fraction order text = field order text 4 4

abbrev pub captured : Order → List ℕ → ℕ
captured order text = field order text 8 4

-- A text begins with the record of a packet, and `after` is what follows the record: 16 bytes with
-- the seconds, the fraction, the captured length and the length on the wire, and then the captured bytes.
pub record IsRecord (order : Order) (unit : TimeUnit) (text : List ℕ) (p : Packet) (after : List ℕ) : Type 0 where
  pub size : 16 ≤ length text
  pub seconds : field order text 0 4 ≡ p.sec
  pub below_a_second : fraction order text < per_second unit
  pub nanos : fraction order text * nanos_in unit ≡ p.nanos
  pub short : captured order text ≤ MAX_SNAP
  pub on_the_wire : field order text 12 4 ≡ p.len
  pub whole : 16 + captured order text ≤ length text
  pub bytes : take (captured order text) (drop 16 text) ≡ p.bytes
  pub follows : drop (16 + captured order text) text ≡ after

-- a text is the records of these packets, one after the other, and then the rest
abbrev pub AreRecords : Order → TimeUnit → List ℕ → List Packet → List ℕ → Type 0
AreRecords order unit text [] rest = text ≡ rest
AreRecords order unit text (p ∷ ps) rest = (after : List ℕ) × IsRecord order unit text p after × AreRecords order unit after ps rest

-- a text begins with no record
abbrev pub NoRecord : Order → TimeUnit → List ℕ → Type 0
NoRecord order unit text = (p : Packet) (after : List ℕ) → IsRecord order unit text p after → ⊥

-- A text is a savefile of this order, unit and snapshot length with these packets, and then the rest.
pub record IsSavefile (text : List ℕ) (order : Order) (unit : TimeUnit) (snap : ℕ) (packets : List Packet) (rest : List ℕ) : Type 0 where
  pub header : IsHeader order text unit snap
  pub records : AreRecords order unit (drop 24 text) packets rest

-- ---- What a savefile holds

-- The first fault of a rest that begins with no whole record, with the record's place.
-- There is none where nothing is left.
abbrev pub first_fault : Order → TimeUnit → ℕ → List ℕ → Option Fault
first_fault order unit place rest =
    if length rest == 0 then None
    else if nat_lt (length rest) 16 then Some (TornRecord place)
    else if nat_le (per_second unit) (fraction order rest) then Some (BadFraction place)
    else if nat_lt MAX_SNAP (captured order rest) then Some (TooLong place)
    else if nat_lt (length rest) (16 + captured order rest) then Some (TornRecord place)
    else None

-- What a savefile holds: the longest list of packets that the grammar reads, and the first fault of the rest.
pub record Holds (text : List ℕ) (order : Order) (unit : TimeUnit) (snap : ℕ) (packets : List Packet) (fault : Option Fault) : Type 0 where
  pub rest : List ℕ
  pub reads : IsSavefile text order unit snap packets rest
  pub longest : (others : List Packet) (after : List ℕ) → IsSavefile text order unit snap others after → length others ≤ length packets
  pub ends : fault ≡ first_fault order unit (length packets) rest

-- A text is a capture, in whatever order and unit, of these packets, and this fault or none ends them.
pub record IsCapture (text : List ℕ) (packets : List Packet) (fault : Option Fault) : Type 0 where
  pub order : Order
  pub unit : TimeUnit
  pub snap : ℕ
  pub holds : Holds text order unit snap packets fault

-- ---- What is refused

-- the first four bytes are the magic number of this order and unit
abbrev pub HasMagic : List ℕ → Order → TimeUnit → Type 0
HasMagic text order unit = field order text 0 4 ≡ magic_of unit

abbrev pub HasVersion : Order → List ℕ → Type 0
HasVersion order text = (field order text 4 2 ≡ 2) × (field order text 6 2 ≡ 4)

-- The first check of the file header that fails, by its fault. Each check supposes the ones before.
abbrev pub RefusesHeader : List ℕ → Fault → Type 0
RefusesHeader text ShortHeader = length text < 24
RefusesHeader text NotSavefile = (24 ≤ length text) × ((order : Order) (unit : TimeUnit) → HasMagic text order unit → ⊥)
RefusesHeader text Version =
    (24 ≤ length text) × (order : Order) × (unit : TimeUnit) × HasMagic text order unit
    × (HasVersion order text → ⊥)
RefusesHeader text LinkType =
    (24 ≤ length text) × (order : Order) × (unit : TimeUnit) × HasMagic text order unit
    × HasVersion order text × (field order text 20 4 ≢ 1)
RefusesHeader text _ = ⊥

-- ---- What is written

-- the file header, with zeros in both reserved fields
unfoldable pub header_text : Order → TimeUnit → ℕ → List ℕ
header_text order unit snap =
    bytes_in order 4 (magic_of unit) ++ bytes_in order 2 2 ++ bytes_in order 2 4 ++ bytes_in order 4 0
    ++ bytes_in order 4 0 ++ bytes_in order 4 snap ++ bytes_in order 4 1

-- the header of a record
abbrev pub record_header_text : Order → ℕ → ℕ → ℕ → ℕ → List ℕ
record_header_text order sec fraction captured len =
    bytes_in order 4 sec ++ bytes_in order 4 fraction ++ bytes_in order 4 captured ++ bytes_in order 4 len

-- a packet's record; in microseconds what is below one is dropped
unfoldable pub record_text : Order → TimeUnit → Packet → List ℕ
record_text order unit p = record_header_text order p.sec (p.nanos / nanos_in unit) (length p.bytes) p.len ++ p.bytes

-- the written text of a list of packets
unfoldable pub encoded : Order → TimeUnit → ℕ → List Packet → List ℕ
encoded order unit snap packets = header_text order unit snap ++ flat_map (record_text order unit) packets

-- what may be written: numbers of 32 bits, less than a second of nanoseconds, and at most 262,144 bytes
pub record IsWritable (p : Packet) : Type 0 where
  pub seconds : p.sec < 2 ^ 32
  pub nanos : p.nanos < 1000000000
  pub on_the_wire : p.len < 2 ^ 32
  pub bytes : length p.bytes ≤ MAX_SNAP

-- the packet as it is read again: in microseconds the nanoseconds are rounded down to a multiple of 1,000
abbrev pub in_units : TimeUnit → Packet → Packet
in_units Micro p = record p { nanos = p.nanos / 1000 * 1000 }
in_units Nano p = p
