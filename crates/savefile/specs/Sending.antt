-- The steps inside a call that writes.
use Rattle.std.specs.Prelude.{◌≡◌, ℕ, ◌+◌, ◌<◌, true, List, length, Option}
use Rattle.std.specs.Io.KnownBytes.{Appends}
use Rattle.savefile.specs.Writer.{IsBeginning, Writing}

-- Between two states of a writer these bytes were sent, and no others.
pub record Sends {W : Type 0} (taken : W → Option (List ℕ)) (old new : Writing W) (text : List ℕ) : Type 0 where
  pub bytes : Appends (taken old.sink) (taken new.sink) text
  pub count : new.sent ≡ old.sent + length text
  pub in_order : new.order ≡ old.order
  pub in_unit : new.unit ≡ old.unit

-- A device failed the writer: a beginning of the text was sent, and not the whole of it.
pub record SendsPart {W : Type 0} (taken : W → Option (List ℕ)) (old new : Writing W) (text : List ℕ) : Type 0 where
  pub part : List ℕ
  pub begins : IsBeginning part text
  pub short : length part < length text
  pub sends : Sends taken old new part
  pub failed : new.failed ≡ true
