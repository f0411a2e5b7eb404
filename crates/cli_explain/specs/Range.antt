-- The packets of a range of places, printed in full.
use Rattle.std.specs.Prelude.{◌≡◌, ℕ, ◌+◌, ◌-◌, ◌<◌, ◌≤◌, ◌⊎◌, Bool, true, false, List, [], ◌∷◌, ◌++◌, length, Option, None, Result, Ok, Err, IsOk, IsErr, IsErrOf}
use Rattle.std.specs.Io.KnownBytes.{Keeps}
use Rattle.savefile.specs.declared.fault.Fault.{Fault}
use Rattle.savefile.specs.declared.header.Header.{Header}
use Rattle.savefile.specs.declared.packet.Packet.{Packet}
use Rattle.savefile.specs.Reader.{IsCause, WasBegun, WasRead}
use Rattle.cli_answers.specs.declared.printing.Unprinted.{Unprinted}
use Rattle.cli_answers.specs.declared.filter.AskedFilter.{AskedFilter}
use Rattle.cli_answers.specs.declared.form.PacketForm.{PacketForm}
use Rattle.cli_explain.specs.declared.one.Found.{Found}
use Rattle.cli_answers.specs.Reading.{IsUnopened}
use Rattle.cli_explain.specs.Explained.{PrintsWhole}

-- one packet was printed in full
abbrev pub PrintsOne : PacketForm → AskedFilter → ℕ → Packet → Option (List ℕ) → Option (List ℕ) → Type 0
PrintsOne form filter place p old new = PrintsWhole {A = Unit {0}} form filter place p old new (Ok tt)

-- these packets were, one after the other, of which the first has this place
abbrev pub PrintsEach : PacketForm → AskedFilter → ℕ → List Packet → Option (List ℕ) → Option (List ℕ) → Type 0
PrintsEach form filter place [] old new = new ≡ old
PrintsEach form filter place (p ∷ ps) old new = (mid : Option (List ℕ)) × PrintsOne form filter place p old mid × PrintsEach form filter (place + 1) ps mid new

-- How it ended to print the packets from one place to another, before which a capture has these: all were printed; or the capture ended
-- before the last place; or it could not be read so far; or the printing of one broke off.
abbrev pub PrintsRange : {A : Type 0} → Option (List ℕ) → Option (List ℕ) → Header → PacketForm → AskedFilter → (first last : ℕ) → List Packet → Option (List ℕ) → Option (List ℕ) → Result Bool Fault → Result A Unprinted → Type 0
PrintsRange from left header form filter first last before old new read printed =
    ((shown : List Packet) × PrintsEach form filter first shown old new × IsOk printed
    × (((length shown ≡ last - first + 1) × WasBegun from header (before ++ shown) × (read ≡ Ok true))
    ⊎ ((0 < length shown) × (length shown ≤ last - first) × WasRead from header (before ++ shown) None × (read ≡ Ok true))
    ⊎ ((0 < length shown) × (length shown ≤ last - first) × (fault : Fault) × IsCause from left header (before ++ shown) fault × (read ≡ Err fault))))
    ⊎ ((shown : List Packet) × (p : Packet) × (mid : Option (List ℕ)) × PrintsEach form filter first shown old mid
    × PrintsWhole form filter (first + length shown) p mid new printed × IsErr printed
    × WasBegun from header ((before ++ shown) ++ p ∷ []) × (read ≡ Ok true))

-- A capture has a packet at the first place, and those up to the last place were printed; or it has none there, or can't be read so far, and
-- nothing was printed.
abbrev pub ShowsRange : {A : Type 0} → Option (List ℕ) → Option (List ℕ) → Header → PacketForm → AskedFilter → (first last : ℕ) → Option (List ℕ) → Option (List ℕ) → Result Bool Fault → Result A Unprinted → Type 0
ShowsRange from left header form filter first last old new read printed =
    ((before : List Packet) × (length before ≡ first) × PrintsRange from left header form filter first last before old new read printed)
    ⊎ ((packets : List Packet) × (length packets ≤ first) × IsOk printed × Keeps old new
    × ((WasRead from header packets None × (read ≡ Ok false))
    ⊎ ((fault : Fault) × IsCause from left header packets fault × (read ≡ Err fault))))

-- or its header was not read
abbrev pub FindsRange : {R : Type 0} → (R → Option (List ℕ)) → R → PacketForm → AskedFilter → (first last : ℕ) → Option (List ℕ) → Option (List ℕ) → Found R → Type 0
FindsRange left from form filter first last old new f =
    ((fault : Fault) × IsUnopened left from f.source fault × IsErrOf f.read fault × IsOk f.printed × Keeps old new)
    ⊎ ((header : Header) × ShowsRange (left from) (left f.source) header form filter first last old new f.read f.printed)
