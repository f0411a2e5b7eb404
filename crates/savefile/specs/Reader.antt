-- What a reader has read of its source.
use Rattle.std.specs.Prelude.{◌≡◌, ℕ, ◌+◌, ◌-◌, ◌^◌, ◌<◌, ◌⊎◌, Bool, true, false, List, [], ◌++◌, length, Option, Some, IfSome, MatchOption, Result, Ok, Err}
use Rattle.std.specs.Io.KnownBytes.{Consumes, prepend_known}
use Rattle.savefile.specs.declared.fault.Fault.{Fault}
use Rattle.savefile.specs.declared.fault.Fault.TheVariants.{CountFull, Device, Failed}
use Rattle.savefile.specs.declared.header.Header.{Header}
use Rattle.savefile.specs.declared.packet.Packet.{Packet}
use Rattle.savefile.specs.Savefile.{Holds, IsRecord, IsSavefile, NoRecord, RefusesHeader}

-- ---- A reader as contracts see it

-- A reader: its source; the header of its savefile; how many packets it has given, and the one that it lends; the bytes that it
-- took from the source ahead of the packets to come; whether it has met the clean end; and whether it has reported a fault
-- after which it cannot read.
pub record Reading (R : Type 0) : Type 0 where
  pub source : R
  pub header : Header
  pub given : ℕ
  pub lent : Packet
  pub ahead : List ℕ
  pub ended : Bool
  pub failed : Bool

abbrev pub reading : {R : Type 0} → R → Header → ℕ → Packet → List ℕ → Bool → Bool → Reading R
reading source header given lent ahead ended failed =
    record { source = source; header = header; given = given; lent = lent; ahead = ahead; ended = ended; failed = failed }

-- it has met neither the end nor a fault, CountFull aside
abbrev pub GoesOn : {R : Type 0} → Reading R → Type 0
GoesOn r = (r.ended ≡ false) × (r.failed ≡ false)

-- it has met the clean end
abbrev pub HasEnded : {R : Type 0} → Reading R → Type 0
HasEnded r = r.ended ≡ true

-- it has reported a fault, after which it cannot read
abbrev pub HasFailed : {R : Type 0} → Reading R → Type 0
HasFailed r = r.failed ≡ true

-- it lends a packet: it has given one and goes on
abbrev pub Lends : {R : Type 0} → Reading R → Type 0
Lends r = GoesOn r × (0 < r.given)

-- a text begins with a record, as savefiles of this header have them
abbrev pub HasRecord : Header → List ℕ → Type 0
HasRecord header text = (p : Packet) × (after : List ℕ) × IsRecord header.order header.unit text p after

-- ---- Whole readings

-- A reader has given these packets and goes on: what it passed is a savefile of exactly these packets. Its source had
-- `start` left before. What it read ahead, and what its source has left now, is still to be passed.
pub record HasGiven {R : Type 0} (left : R → Option (List ℕ)) (start : Option (List ℕ)) (header : Header) (packets : List Packet) (r : Reading R) : Type 0 where
  pub text : List ℕ
  pub reads : IsSavefile text header.order header.unit header.snap packets []
  pub still_to_pass : Consumes start (prepend_known r.ahead (left r.source)) text
  pub told : r.header ≡ header
  pub counts : r.given ≡ length packets
  pub goes_on : GoesOn r

-- A text, which is what the source had left if that is known, holds these packets, and this fault or none ends them.
pub record WasRead (start : Option (List ℕ)) (header : Header) (packets : List Packet) (fault : Option Fault) : Type 0 where
  pub text : List ℕ
  pub told : IfSome start (λ bytes. bytes ≡ text)
  pub holds : Holds text header.order header.unit header.snap packets fault

-- These packets begin what such a text holds.
abbrev pub WasBegun : Option (List ℕ) → Header → List Packet → Type 0
WasBegun start header packets = (more : List Packet) × (fault : Option Fault) × WasRead start header (packets ++ more) fault

-- The header of a text, which is what the source had left if that is known, is refused for this fault.
pub record WasRefused (start : Option (List ℕ)) (fault : Fault) : Type 0 where
  pub text : List ℕ
  pub told : IfSome start (λ bytes. bytes ≡ text)
  pub refused : RefusesHeader text fault

-- All that was taken from a source is a savefile of exactly these packets, and then a rest with no whole record. The
-- source had `start` left before and has `left` left now.
pub record WasTaken (start left : Option (List ℕ)) (header : Header) (packets : List Packet) : Type 0 where
  pub text : List ℕ
  pub rest : List ℕ
  pub taken : Consumes start left text
  pub reads : IsSavefile text header.order header.unit header.snap packets rest
  pub no_more : NoRecord header.order header.unit rest

-- ---- One call

-- Why a reader that has given these packets gives no further one: they are all, and the fault comes after them; or
-- the source failed, and all that was taken from it is these packets and no whole record more; or no more can be
-- counted. The source had `start` left before and has `left` left now.
abbrev pub IsCause : Option (List ℕ) → Option (List ℕ) → Header → List Packet → Fault → Type 0
IsCause start left header packets fault =
    WasRead start header packets (Some fault)
    ⊎ ((fault ≡ Device) × WasTaken start left header packets)
    ⊎ ((fault ≡ CountFull) × (length packets ≡ 2 ^ 64 - 1))

-- How a call leaves a reader, by its answer.
abbrev pub Leaves : {R : Type 0} → Reading R → Reading R → Result Bool Fault → Type 0
Leaves old new (Ok true) = GoesOn new × (new.given ≡ old.given + 1) × (new.given < 2 ^ 64)
Leaves old new (Ok false) = HasEnded new
Leaves old new (Err CountFull) = new ≡ old
Leaves old new (Err Failed) = new ≡ old
Leaves old new (Err fault) = HasFailed new

-- The same for a call that answers with a packet of its own.
abbrev pub LeavesNext : {R : Type 0} → Reading R → Reading R → Result (Option Packet) Fault → Type 0
LeavesNext old new (Ok next) = MatchOption next (HasEnded new) (λ _. GoesOn new × (new.given ≡ old.given + 1) × (new.given < 2 ^ 64))
LeavesNext old new (Err fault) = Leaves old new (Err fault)
