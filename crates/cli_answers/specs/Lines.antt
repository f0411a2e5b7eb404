-- Lines that are printed of several captures, in order up to the first fault, and then the counts.
use Rattle.std.specs.Prelude.{◌≡◌, ℕ, ◌||◌, Bool, true, false, List, Option, Result, Ok, IsErr, IsErrOf, IsOk, ◌⊎◌}
use Rattle.std.specs.Io.KnownBytes.{Keeps}
use Rattle.savefile.specs.declared.fault.Fault.{Fault}
use Rattle.savefile.specs.declared.header.Header.{Header}
use Rattle.savefile.specs.declared.packet.Packet.{Packet}
use Rattle.savefile.specs.Reader.{WasBegun}
use Rattle.line_text.specs.Sending.{Takes}
use Rattle.cli_walk.specs.declared.walk.Stop.{Stop}
use Rattle.cli_walk.specs.declared.walk.Visited.{Visited}
use Rattle.cli_walk.specs.Walking.{Walked, visited}
use Rattle.cli_answers.specs.declared.lines.Printed.{Printed}
use Rattle.cli_answers.specs.declared.lines.PrintedTotals.{PrintedTotals}
use Rattle.cli_answers.specs.declared.lines.PrintedCaptures.{PrintedCaptures}
use Rattle.cli_answers.specs.declared.printing.Unprinted.{Unprinted}
use Rattle.cli_answers.specs.Captures.{goes_on, read_of}
use Rattle.cli_answers.specs.Reading.{IsUnopened, ReadsTo}

-- nothing was printed so far
abbrev pub no_totals : {C : Type 0} → C → PrintedTotals C
no_totals none = record { opened = false; counts = none; printed = Ok tt }

-- ---- A capture

-- The printing broke off at a line: a beginning of the lines of packets that the capture begins with was printed.
abbrev pub BreaksOff : {A : Type 0} → (List Packet → Option (List ℕ) → Option (List ℕ) → Type 0) → Option (List ℕ) → Header → Option (List ℕ) → Option (List ℕ) → Result A Fault → Result A Unprinted → Type 0
BreaksOff begun from header old new read done =
    (packets : List Packet) × begun packets old new × WasBegun from header packets × IsOk read × IsErr done

-- the lines of the packets of a reader were printed, and the packets counted
abbrev pub PrintsPackets : {A C : Type 0} → (List Packet → Option (List ℕ) → Option (List ℕ) → C → Type 0) → (List Packet → Option (List ℕ) → Option (List ℕ) → Type 0) → Option (List ℕ) → Option (List ℕ) → Header → Option (List ℕ) → Option (List ℕ) → C → Result A Fault → Result A Unprinted → Type 0
PrintsPackets printed begun from left header old new counts read done =
    BreaksOff begun from header old new read done
    ⊎ ((packets : List Packet) × printed packets old new counts × ReadsTo from left header packets read × IsOk done)

-- The header was not read, and nothing was printed; or the packets up to some end were printed.
abbrev pub PrintsCapture : {R C : Type 0} → (R → Option (List ℕ)) → R → C → (List Packet → Option (List ℕ) → Option (List ℕ) → C → Type 0) → (List Packet → Option (List ℕ) → Option (List ℕ) → Type 0) → Option (List ℕ) → Option (List ℕ) → Printed R C → Type 0
PrintsCapture left from none printed begun old new p =
    ((fault : Fault) × IsUnopened left from p.source fault × IsErrOf p.read fault × IsOk p.printed × Keeps old new × (p.counts ≡ none)
    × (p.opened ≡ false))
    ⊎ ((p.opened ≡ true) × (header : Header) × PrintsPackets printed begun (left from) (left p.source) header old new p.counts p.read p.printed)

-- the capture of this number was, by what prints captures
abbrev pub PrintsNth : {R C P O : Type 0} → (R → Option (List ℕ)) → (O → Option (List ℕ)) → C → (P → List Packet → Option (List ℕ) → Option (List ℕ) → C → Type 0) → (P → List Packet → Option (List ℕ) → Option (List ℕ) → Type 0) → (P → ℕ → P) → P → ℕ → R → O → O → Printed R C → Type 0
PrintsNth left contents none printed begun nth printer n from old new p =
    PrintsCapture left from none (printed (nth printer n)) (begun (nth printer n)) (contents old) (contents new) p

-- ---- Several captures

-- The lines of the capture of this number were printed, and its packets were counted after those so far.
abbrev pub PrintsNext : {R C O : Type 0} → (C → C → C) → (ℕ → R → O → O → Printed R C → Type 0) → ℕ → PrintedTotals C → O → R → Visited R → PrintedTotals C → O → Type 0
PrintsNext {R = R} {C = C} plus prints n t old from v t' new =
    (p : Printed R C) × prints n from old new p × (v ≡ visited p.source (goes_on p.read p.printed))
    × (t' ≡ record { opened = t.opened || p.opened; counts = plus t.counts p.counts; printed = p.printed })

-- The lines of these captures were printed, each capture after the one before it, until a fault ended one, or the printing failed.
abbrev pub PrintsIn : {R C O : Type 0} → (R → Option (List ℕ)) → (R → ℕ) → C → (C → C → C) → (ℕ → R → O → O → Printed R C → Type 0) → List R → O → O → PrintedCaptures R C → Type 0
PrintsIn left failures none plus prints captures old new end =
    (ended : Result Bool Stop) × (end.read ≡ read_of ended)
    × Walked left failures (PrintsNext plus prints) captures end.sources.items (no_totals none) old end.totals new ended

-- The counts of all captures were printed, if a header was read and all lines were printed: `line` says what the line of counts is.
pub record PrintsTotals {C O : Type 0} (contents : O → Option (List ℕ)) (line : C → List ℕ) (totals : PrintedTotals C) (old new : O) (printed : Result (Unit {0}) Unprinted) : Type 0 where
  pub unopened : totals.opened ≡ false → (printed ≡ totals.printed) × (new ≡ old)
  pub broken : IsErr totals.printed → (printed ≡ totals.printed) × (new ≡ old)
  pub counted : totals.opened ≡ true → IsOk totals.printed → Takes (contents old) (contents new) printed (line totals.counts)
