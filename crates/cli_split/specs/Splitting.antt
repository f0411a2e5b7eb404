-- A split of captures.
use Rattle.std.specs.Prelude.{◌≡◌, ◌≤◌, ℕ, zero, suc, Bool, true, false, List, [], ◌∷◌, length, Option, Result, Ok, Err, vec_capacity}
use Rattle.std.specs.List.{AllZip}
use Rattle.savefile.specs.declared.header.Order.{Order}
use Rattle.savefile.specs.declared.header.Unit.{Unit as TimeUnit}
use Rattle.savefile.specs.declared.packet.Packet.{Packet}
use Rattle.cli_split.specs.declared.part.Part.{Part}
use Rattle.cli_split.specs.declared.part.PartEnd.{PartEnd}
use Rattle.cli_split.specs.declared.split.Room.{Room}
use Rattle.cli_split.specs.declared.split.SplitEnd.{SplitEnd}
use Rattle.cli_split.specs.declared.split.Stop.{Stop}
use Rattle.cli_split.specs.declared.split.Stop.TheVariants.{AtHeader, AtRecord}
use Rattle.cli_split.specs.Reading.{ReadsAll}
use Rattle.cli_split.specs.Writing.{IsLeft, IsWritten}

-- the header of the first capture was read, in a split that ended so
abbrev pub passes_header : Result (Unit {0}) Stop → Bool
passes_header (Ok done) = true
passes_header (Err (AtHeader zero fault)) = false
passes_header (Err (AtHeader (suc n) fault)) = true
passes_header (Err (AtRecord n fault)) = true

-- the parts are begun once the header of the first capture was read
abbrev pub is_begun : {R : Type 0} → List R → Result (Unit {0}) Stop → Bool
is_begun [] end = false
is_begun (s ∷ ss) end = passes_header end

-- Where the parts were begun, each was written; else all are as they were.
abbrev pub WritesAll : {W : Type 0} → (W → Option (List ℕ)) → (W → List ℕ) → (W → ℕ) → Order → TimeUnit → List Packet → Bool → List (Part W) → List (PartEnd W) → Type 0
WritesAll taken name failures order unit packets true parts ends = AllZip (IsWritten taken name failures order unit packets) parts ends
WritesAll taken name failures order unit packets false parts ends = AllZip IsLeft parts ends

-- The captures were read up to the first fault, and of their packets each part was written.
pub record Splits {R W : Type 0} (left : R → Option (List ℕ)) (source_failures : R → ℕ) (taken : W → Option (List ℕ)) (name : W → List ℕ) (sink_failures : W → ℕ)
    (captures : List R) (parts : List (Part W)) (order : Order) (unit : TimeUnit) (end : SplitEnd R W) : Type 0 where
  pub packets : List Packet
  pub reads : ReadsAll left source_failures (length packets) 0 captures end.sources.items packets end.end
  pub writes : WritesAll taken name sink_failures order unit packets (is_begun captures end.end) parts end.parts.items

-- There is room for what a split of so many captures into so many parts writes and returns.
pub record HasRoom {R W : Type 0} (captures parts : ℕ) (room : Room R W) : Type 0 where
  pub no_source : room.sources.items ≡ []
  pub sources : captures ≤ vec_capacity room.sources
  pub no_outlet : length room.outlets.items ≡ 0
  pub outlets : parts ≤ vec_capacity room.outlets
  pub no_end : length room.ends.items ≡ 0
  pub ends : parts ≤ vec_capacity room.ends
