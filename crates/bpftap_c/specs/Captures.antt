-- Captures in memory: read record by record, and written.
use Rattle.std.specs.Prelude.{◌≡◌, ◌≢◌, ◌<◌, ◌≤◌, ◌+◌, ◌-◌, ◌^◌, ◌==◌, ◌⊎◌, ℕ, List, [], length, drop, Some, if◌then◌else◌}
use Rattle.savefile.specs.declared.fault.Fault.{Fault}
use Rattle.savefile.specs.declared.fault.Fault.TheVariants.{TooLong, BadFraction, CountFull}
use Rattle.savefile.specs.declared.header.Header.{Header}
use Rattle.savefile.specs.declared.header.Order.{Order}
use Rattle.savefile.specs.declared.header.Order.TheVariants.{Little, Big}
use Rattle.savefile.specs.declared.header.Unit.{Unit as TimeUnit}
use Rattle.savefile.specs.declared.header.Unit.TheVariants.{Micro, Nano}
use Rattle.savefile.specs.declared.packet.Packet.{Packet}
use Rattle.savefile.specs.declared.record.TheConstants.{MAX_SNAP}
use Rattle.savefile.specs.Savefile.{first_fault, packet, record_text, IsHeader, IsRecord, RefusesHeader}
use Rattle.bpftap_c.specs.declared.captures.BpftapReader.{BpftapReader}
use Rattle.bpftap_c.specs.declared.captures.BpftapRecord.{BpftapRecord}
use Rattle.bpftap_c.specs.declared.outcome.BpftapResult.{BpftapResult}
use Rattle.bpftap_c.specs.declared.outcome.Failure.TheVariants.{Capture}
use Rattle.bpftap_c.specs.Memory.{Puts}
use Rattle.bpftap_c.specs.Outcome.{capture_code, failed}

abbrev pub order_code : Order → ℕ
order_code Little = 0
order_code Big = 1

abbrev pub order_of : ℕ → Order
order_of code = if code == 0 then Little else Big

abbrev pub unit_code : TimeUnit → ℕ
unit_code Micro = 0
unit_code Nano = 1

abbrev pub unit_of : ℕ → TimeUnit
unit_of code = if code == 0 then Micro else Nano

abbrev pub header_in : BpftapReader → Header
header_in reader = record { order = order_of reader.order; unit = unit_of reader.unit; snap = reader.snap }

-- a reader at the first record of a capture with this header
abbrev pub begun : Order → TimeUnit → ℕ → BpftapReader
begun order unit snap =
    record { offset = 24; place = 0; fault = 0; order = order_code order; unit = unit_code unit; snap = snap }

-- a reader of what is not a capture
abbrev pub refused : Fault → BpftapReader
refused fault = record { offset = 0; place = 0; fault = capture_code fault; order = 0; unit = 0; snap = 0 }

abbrev pub IsOpened : List ℕ → BpftapReader → Type 0
IsOpened memory reader =
    ((order : Order) × (unit : TimeUnit) × (snap : ℕ) × IsHeader order memory unit snap × (reader ≡ begun order unit snap))
    ⊎ ((fault : Fault) × RefusesHeader memory fault × (reader ≡ refused fault))

-- what the reader has before it
abbrev pub rest_of : List ℕ → BpftapReader → List ℕ
rest_of memory reader = drop reader.offset memory

-- the record of a packet, which begins where the reader is
abbrev pub record_found : BpftapReader → Packet → BpftapRecord
record_found reader p =
    record { offset = reader.offset + 16; place = reader.place; fault = 0; seconds = p.sec; nanos = p.nanos; captured = length p.bytes; wire = p.len }

-- no record
abbrev pub unread : BpftapReader → ℕ → BpftapRecord
unread reader fault =
    record { offset = reader.offset; place = reader.place; fault = fault; seconds = 0; nanos = 0; captured = 0; wire = 0 }

-- the reader after the record of a packet
abbrev pub advanced : BpftapReader → Packet → BpftapReader
advanced reader p =
    record { offset = reader.offset + (16 + length p.bytes); place = reader.place + 1; fault = reader.fault; order = reader.order; unit = reader.unit; snap = reader.snap }

-- The record that comes next, and the reader is after it. Or there is none: nothing is left, it has this fault, or no more can be
-- counted; and the reader is where it was.
abbrev pub FindsNext : List ℕ → BpftapReader → BpftapReader → BpftapRecord → Type 0
FindsNext memory old new given =
    ((p : Packet) × IsRecord (header_in old).order (header_in old).unit (rest_of memory old) p (rest_of memory new)
    × (given ≡ record_found old p) × (new ≡ advanced old p))
    ⊎ ((rest_of memory old ≡ []) × (given ≡ unread old 4) × (new ≡ old))
    ⊎ ((fault : Fault) × (first_fault (header_in old).order (header_in old).unit old.place (rest_of memory old) ≡ Some fault)
    × (given ≡ unread old (capture_code fault)) × (new ≡ old))
    ⊎ ((old.place ≡ 2 ^ 64 - 1) × (given ≡ unread old (capture_code CountFull)) × (new ≡ old))

-- A reader whose header was refused gives the fault of that, and stays as it is.
abbrev pub GivesNext : List ℕ → BpftapReader → BpftapReader → BpftapRecord → Type 0
GivesNext memory old new given =
    ((old.fault ≡ 0) × FindsNext memory old new given)
    ⊎ ((old.fault ≢ 0) × (given ≡ unread old old.fault) × (new ≡ old))

-- The record of a packet is put. Or it may not be written, and all is as it was: it is too long, or else its nanoseconds are a second or more.
abbrev pub PutsRecord : Order → TimeUnit → BpftapRecord → List ℕ → List ℕ → List ℕ → BpftapResult → Type 0
PutsRecord order unit p bytes old new told =
    ((length bytes ≤ MAX_SNAP) × (p.nanos < 1000000000)
    × Puts (record_text order unit (packet p.seconds p.nanos p.wire bytes)) old new told)
    ⊎ ((MAX_SNAP < length bytes) × (told ≡ failed (Capture (TooLong p.place))) × (new ≡ old))
    ⊎ ((length bytes ≤ MAX_SNAP) × (1000000000 ≤ p.nanos) × (told ≡ failed (Capture (BadFraction p.place))) × (new ≡ old))
