-- What a call returns: 0 or the number of a fault, a size and a place. The numbers of faults stay from version to version.
use Rattle.std.specs.Prelude.{ℕ}
use Rattle.bpfvm.specs.declared.fault.Invalid.{Invalid}
use Rattle.bpfvm.specs.declared.fault.Invalid.TheVariants as invalid
use Rattle.bpfvm.specs.declared.fault.ListingFault.{ListingFault}
use Rattle.bpfvm.specs.declared.fault.ListingFault.TheVariants as unlisted
use Rattle.filterlang.specs.declared.fault.Fault.{Fault as TextFault}
use Rattle.filterlang.specs.declared.fault.Fault.TheVariants as misread
use Rattle.filtergen_facts.specs.declared.refusal.Refusal.{Refusal}
use Rattle.filtergen_facts.specs.declared.refusal.Refusal.TheVariants as uncompiled
use Rattle.filtergen.specs.declared.expression.ExpressionFault.TheVariants as expression
use Rattle.listener.specs.declared.fault.OpenFault.{OpenFault}
use Rattle.listener.specs.declared.fault.OpenFault.TheVariants as unopened
use Rattle.savefile.specs.declared.fault.Fault.{Fault as CaptureFault}
use Rattle.savefile.specs.declared.fault.Fault.TheVariants as unread
use Rattle.line_text.specs.declared.fault.LineFault.{LineFault}
use Rattle.line_text.specs.declared.fault.LineFault.TheVariants as lines
use Rattle.tap.specs.declared.fault.Fault.{Fault as ReplayFault}
use Rattle.tap.specs.declared.fault.Fault.TheVariants as unplayed
use Rattle.bpftap_c.specs.declared.outcome.BpftapResult.{BpftapResult}
use Rattle.bpftap_c.specs.declared.outcome.Failure.{Failure}
use Rattle.bpftap_c.specs.declared.outcome.Failure.TheVariants as failures

-- of instructions that are no program
abbrev pub invalid_code : Invalid → ℕ
invalid_code invalid.Empty = 16
invalid_code invalid.TooMany = 17
invalid_code (invalid.UnknownCode place) = 18
invalid_code (invalid.JumpOut place) = 19
invalid_code (invalid.Cell place) = 20
invalid_code (invalid.ZeroDivisor place) = 21
invalid_code invalid.NoReturn = 22

abbrev pub invalid_place : Invalid → ℕ
invalid_place invalid.Empty = 0
invalid_place invalid.TooMany = 0
invalid_place (invalid.UnknownCode place) = place
invalid_place (invalid.JumpOut place) = place
invalid_place (invalid.Cell place) = place
invalid_place (invalid.ZeroDivisor place) = place
invalid_place invalid.NoReturn = 0

-- of a text that is not the listing of a program
abbrev pub listing_code : ListingFault → ℕ
listing_code (unlisted.BadLine line) = 24
listing_code unlisted.Count = 25
listing_code (unlisted.Program fault) = invalid_code fault

abbrev pub listing_place : ListingFault → ℕ
listing_place (unlisted.BadLine line) = line
listing_place unlisted.Count = 0
listing_place (unlisted.Program fault) = invalid_place fault

-- of a text that is not an expression
abbrev pub text_code : TextFault → ℕ
text_code misread.NoMemory = 1
text_code misread.TextTooLong = 32
text_code (misread.BadByte place) = 33
text_code (misread.BadWord place) = 34
text_code (misread.BadNumber place) = 35
text_code (misread.Syntax place) = 36
text_code (misread.NoQualifier place) = 37
text_code (misread.BadQualifier place) = 38
text_code (misread.BadIdentifier place) = 39
text_code (misread.NetBits place) = 40
text_code (misread.OutOfRange place) = 41
text_code (misread.DivideByZero place) = 42
text_code (misread.TooNested place) = 43

abbrev pub text_place : TextFault → ℕ
text_place misread.NoMemory = 0
text_place misread.TextTooLong = 0
text_place (misread.BadByte place) = place
text_place (misread.BadWord place) = place
text_place (misread.BadNumber place) = place
text_place (misread.Syntax place) = place
text_place (misread.NoQualifier place) = place
text_place (misread.BadQualifier place) = place
text_place (misread.BadIdentifier place) = place
text_place (misread.NetBits place) = place
text_place (misread.OutOfRange place) = place
text_place (misread.DivideByZero place) = place
text_place (misread.TooNested place) = place

-- of an expression that has no program
abbrev pub tree_code : Refusal → ℕ
tree_code uncompiled.NoMemory = 1
tree_code uncompiled.TooLong = 48
tree_code uncompiled.TooDeep = 49
tree_code uncompiled.BadSnap = 50

-- of a listener that is not opened, or of a buffer that is not of its capacity
abbrev pub open_code : OpenFault → ℕ
open_code unopened.NoMemory = 1
open_code unopened.BadSnap = 50
open_code unopened.BadCapacity = 80

-- of bytes that are not a capture, or not a further record of one
abbrev pub capture_code : CaptureFault → ℕ
capture_code unread.NoMemory = 1
capture_code unread.ShortHeader = 64
capture_code unread.NotSavefile = 65
capture_code unread.Version = 66
capture_code unread.LinkType = 67
capture_code (unread.TornRecord place) = 68
capture_code (unread.BadFraction place) = 69
capture_code (unread.TooLong place) = 70
capture_code unread.Device = 71
capture_code unread.Failed = 72
capture_code unread.CountFull = 73

abbrev pub capture_place : CaptureFault → ℕ
capture_place (unread.TornRecord place) = place
capture_place (unread.BadFraction place) = place
capture_place (unread.TooLong place) = place
capture_place unread.ShortHeader = 0
capture_place unread.NotSavefile = 0
capture_place unread.Version = 0
capture_place unread.LinkType = 0
capture_place unread.NoMemory = 0
capture_place unread.Device = 0
capture_place unread.Failed = 0
capture_place unread.CountFull = 0

-- of the lines of LISTENERS and SCRIPT
abbrev pub line_code : LineFault → ℕ
line_code lines.NoMemory = 1
line_code (lines.Listeners line) = 88
line_code (lines.Script line) = 89

abbrev pub line_place : LineFault → ℕ
line_place lines.NoMemory = 0
line_place (lines.Listeners line) = line
line_place (lines.Script line) = line

-- of steps that are not played
abbrev pub replay_code : ReplayFault → ℕ
replay_code unplayed.NoMemory = 1
replay_code unplayed.TooMany = 90
replay_code (unplayed.NoListener step) = 91
replay_code (unplayed.Capture capture fault) = capture_code fault
replay_code (unplayed.Expression listener fault) = text_code fault
replay_code (unplayed.Compile listener refusal) = tree_code refusal
replay_code (unplayed.Open listener fault) = open_code fault

abbrev pub replay_place : ReplayFault → ℕ
replay_place unplayed.NoMemory = 0
replay_place unplayed.TooMany = 0
replay_place (unplayed.NoListener step) = step
replay_place (unplayed.Capture capture fault) = capture_place fault
replay_place (unplayed.Expression listener fault) = text_place fault
replay_place (unplayed.Compile listener refusal) = 0
replay_place (unplayed.Open listener fault) = 0

-- which listener or capture the fault is of
abbrev pub replay_number : ReplayFault → ℕ
replay_number unplayed.NoMemory = 0
replay_number unplayed.TooMany = 0
replay_number (unplayed.NoListener step) = 0
replay_number (unplayed.Capture capture fault) = capture
replay_number (unplayed.Expression listener fault) = listener
replay_number (unplayed.Compile listener refusal) = listener
replay_number (unplayed.Open listener fault) = listener

abbrev pub number_of : Failure → ℕ
number_of (failures.Replay fault) = replay_number fault
number_of other = 0

abbrev pub code_of : Failure → ℕ
code_of failures.NoMemory = 1
code_of (failures.NoRoom size) = 2
code_of (failures.NotText place) = 3
code_of (failures.Program fault) = invalid_code fault
code_of (failures.Listing fault) = listing_code fault
code_of (failures.Expression (expression.Text fault)) = text_code fault
code_of (failures.Expression (expression.Tree refusal)) = tree_code refusal
code_of (failures.Capture fault) = capture_code fault
code_of (failures.Open fault) = open_code fault
code_of (failures.Lines fault) = line_code fault
code_of (failures.Replay fault) = replay_code fault

abbrev pub place_of : Failure → ℕ
place_of failures.NoMemory = 0
place_of (failures.NoRoom size) = 0
place_of (failures.NotText place) = place
place_of (failures.Program fault) = invalid_place fault
place_of (failures.Listing fault) = listing_place fault
place_of (failures.Expression (expression.Text fault)) = text_place fault
place_of (failures.Expression (expression.Tree refusal)) = 0
place_of (failures.Capture fault) = capture_place fault
place_of (failures.Open fault) = 0
place_of (failures.Lines fault) = line_place fault
place_of (failures.Replay fault) = replay_place fault

-- how many items there are, where they find no room
abbrev pub size_of : Failure → ℕ
size_of failures.NoMemory = 0
size_of (failures.NoRoom size) = size
size_of (failures.NotText place) = 0
size_of (failures.Program fault) = 0
size_of (failures.Listing fault) = 0
size_of (failures.Expression fault) = 0
size_of (failures.Capture fault) = 0
size_of (failures.Open fault) = 0
size_of (failures.Lines fault) = 0
size_of (failures.Replay fault) = 0

-- the result of a call that put this many items
abbrev pub done : ℕ → BpftapResult
done size = record { fault = 0; size = size; place = 0 }

-- the result of a call that failed
abbrev pub failed : Failure → BpftapResult
failed failure = record { fault = code_of failure; size = size_of failure; place = place_of failure }
