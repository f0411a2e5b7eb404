-- The steps inside a call that reads.
use Rattle.std.specs.Prelude.{◌≡◌, ◌⊎◌, ℕ, List, [], ◌++◌, Bool, true, false, Option, Some, IfSome}
use Rattle.std.specs.Io.KnownBytes.{Consumes, IsAtEnd}
use Rattle.savefile.specs.declared.ahead.Ahead.{Ahead}
use Rattle.savefile.specs.declared.fault.Fault.{Fault}
use Rattle.savefile.specs.declared.fault.Fault.TheVariants.{Device}
use Rattle.savefile.specs.declared.header.Header.{Header}
use Rattle.savefile.specs.declared.packet.Packet.{Packet}
use Rattle.savefile.specs.declared.reader.State.{State}
use Rattle.savefile.specs.declared.reader.State.TheVariants.{Reading, Ended, Broken}
use Rattle.savefile.specs.declared.record.RecordHeader.{RecordHeader}
use Rattle.savefile.specs.Ahead.{waiting_in, lent_by, Grows}
use Rattle.savefile.specs.Savefile.{first_fault, packet, IsRecord, IsSavefile, NoRecord}

-- the packet of a record that was passed: its header, and its bytes, which are lent
abbrev pub passed_packet : {R : Type 0} → RecordHeader → Ahead R → Packet
passed_packet head ahead = packet head.sec head.nanos head.len (lent_by ahead)

-- a file header was passed
abbrev pub PassesHeader : {R : Type 0} → (R → Option (List ℕ)) → Ahead R → Ahead R → Header → Type 0
PassesHeader left old new header =
    (more text : List ℕ) × Consumes (left old.source) (left new.source) more × (waiting_in old ++ more ≡ text ++ waiting_in new)
    × IsSavefile text header.order header.unit header.snap [] []

-- the record of a packet was passed, of what waited and of more that the source gave
abbrev pub Passes : {R : Type 0} → (R → Option (List ℕ)) → Header → Ahead R → Ahead R → Packet → Type 0
Passes left header old new p =
    (more : List ℕ) × Consumes (left old.source) (left new.source) more
    × IsRecord header.order header.unit (waiting_in old ++ more) p (waiting_in new)

-- nothing is left
abbrev pub MeetsEnd : {R : Type 0} → (R → Option (List ℕ)) → Ahead R → Ahead R → Type 0
MeetsEnd left old new = Grows left old new × (waiting_in new ≡ []) × IsAtEnd (left new.source)

-- no record could be passed at this place
abbrev pub MeetsFault : {R : Type 0} → (R → Option (List ℕ)) → Header → ℕ → Ahead R → Ahead R → Fault → Type 0
MeetsFault left header place old new fault =
    Grows left old new
    × (((fault ≡ Device) × NoRecord header.order header.unit (waiting_in new))
    ⊎ ((rest : List ℕ) × IfSome (left new.source) (λ bytes. bytes ≡ rest)
    × (first_fault header.order header.unit place (waiting_in new ++ rest) ≡ Some fault)))

-- ---- How far a reader has come

-- it met the clean end
abbrev pub is_ended : State → Bool
is_ended Reading = false
is_ended Ended = true
is_ended Broken = false

-- it reported a fault, after which it cannot read
abbrev pub is_broken : State → Bool
is_broken Reading = false
is_broken Ended = false
is_broken Broken = true
