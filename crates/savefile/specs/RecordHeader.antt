-- The header of a record, as it is read.
use Rattle.std.specs.Prelude.{◌≡◌, ℕ, ◌*◌, ◌^◌, ◌<◌, ◌≤◌, List, length}
use Rattle.savefile.specs.declared.header.Order.{Order}
use Rattle.savefile.specs.declared.header.Unit.{Unit as TimeUnit}
use Rattle.savefile.specs.declared.record.RecordHeader.{RecordHeader}
use Rattle.savefile.specs.declared.record.TheConstants.{MAX_SNAP}
use Rattle.savefile.specs.Savefile.{captured, field, fraction, nanos_in, per_second}

-- A text begins with the header of a record, whose numbers may be written again.
pub record IsRecordHeader (order : Order) (unit : TimeUnit) (text : List ℕ) (header : RecordHeader) : Type 0 where
  pub size : 16 ≤ length text
  pub seconds : field order text 0 4 ≡ header.sec
  pub below_a_second : fraction order text < per_second unit
  pub nanos : fraction order text * nanos_in unit ≡ header.nanos
  pub captured_is : captured order text ≡ header.captured
  pub short : header.captured ≤ MAX_SNAP
  pub on_the_wire : field order text 12 4 ≡ header.len
  pub seconds_fit : header.sec < 2 ^ 32
  pub nanos_fit : header.nanos < 1000000000
  pub length_fits : header.len < 2 ^ 32
