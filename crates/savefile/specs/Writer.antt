-- What a writer has sent to its sink.
use Rattle.std.specs.Prelude.{◌≡◌, ◌<◌, ℕ, Bool, true, false, List, ◌++◌, length, Option}
use Rattle.std.specs.Io.KnownBytes.{Appends}
use Rattle.savefile.specs.declared.header.Order.{Order}
use Rattle.savefile.specs.declared.header.Unit.{Unit as TimeUnit}
use Rattle.savefile.specs.declared.packet.Packet.{Packet}
use Rattle.savefile.specs.Savefile.{encoded}

-- ---- A writer as contracts see it

-- A writer: its sink; the byte order and the unit of time that it writes; how many bytes it has sent; and whether the device
-- failed it.
pub record Writing (W : Type 0) : Type 0 where
  pub sink : W
  pub order : Order
  pub unit : TimeUnit
  pub sent : ℕ
  pub failed : Bool

abbrev pub writing : {W : Type 0} → W → Order → TimeUnit → ℕ → Bool → Writing W
writing sink order unit sent failed = record { sink = sink; order = order; unit = unit; sent = sent; failed = failed }

-- ---- What was sent

-- a text is the beginning of another
abbrev pub IsBeginning : List ℕ → List ℕ → Type 0
IsBeginning text whole = (more : List ℕ) × (whole ≡ text ++ more)

-- A writer sent this text: its sink, which had taken `start` before, took the text and no more.
pub record Sent {W : Type 0} (taken : W → Option (List ℕ)) (start : Option (List ℕ)) (text : List ℕ) (w : Writing W) : Type 0 where
  pub bytes : Appends start (taken w.sink) text
  pub count : w.sent ≡ length text

-- A writer that no device failed: it has sent the written text of these packets.
pub record HasWritten {W : Type 0} (taken : W → Option (List ℕ)) (start : Option (List ℕ))
    (order : Order) (unit : TimeUnit) (snap : ℕ) (packets : List Packet) (w : Writing W) : Type 0 where
  pub sent : Sent taken start (encoded order unit snap packets) w
  pub works : w.failed ≡ false
  pub in_order : w.order ≡ order
  pub in_unit : w.unit ≡ unit

-- A writer that a device failed: it has sent a beginning of the written text of these packets, and not the whole of it.
pub record HasWrittenPart {W : Type 0} (taken : W → Option (List ℕ)) (start : Option (List ℕ))
    (order : Order) (unit : TimeUnit) (snap : ℕ) (packets : List Packet) (w : Writing W) : Type 0 where
  pub text : List ℕ
  pub begins : IsBeginning text (encoded order unit snap packets)
  pub short : length text < length (encoded order unit snap packets)
  pub sent : Sent taken start text w
  pub failed : w.failed ≡ true
