-- The faults of captures as they are reported.
use Rattle.std.specs.Prelude.{◌≡◌, ℕ, Bool, true, false, List, Option, Some, None, codes, if◌then◌else◌, option_map, slice_get}
use Rattle.std.specs.Borrow.{Bor}
use Rattle.savefile.specs.Faults.{fault_name, fault_place}
use Rattle.savefile.specs.declared.fault.Fault.{Fault}
use Rattle.savefile.specs.declared.fault.Fault.TheVariants as fault
use Rattle.fault_report.specs.Words.{IsPart, one_word, place_word}
use Rattle.fault_report.specs.declared.report.Report.{Report}
use Rattle.fault_report.specs.declared.report.Subject.{Subject}
use Rattle.fault_report.specs.declared.report.Subject.TheVariants.{File, Capture}

-- a fault of the bytes of a capture
abbrev pub is_of_capture : Fault → Bool
is_of_capture fault.NoMemory = false
is_of_capture fault.Device = false
is_of_capture fault.Failed = false
is_of_capture fault.CountFull = false
is_of_capture other = true

-- what has the fault of the only capture, at a path: the file if that failed, and the capture if its bytes are at fault
abbrev pub capture_subject : Fault → Bor (List ℕ) → Option Subject
capture_subject fault.Device path = Some (File path)
capture_subject other path = if is_of_capture other then Some (Capture path) else None

-- why a capture at a path was not written further
abbrev pub output_subject : Fault → Bor (List ℕ) → Option Subject
output_subject fault.Device path = Some (File path)
output_subject other path = None

-- a report of the fault of the only capture, at a path
abbrev pub IsCaptureFault : Fault → Bor (List ℕ) → Report → Type 0
IsCaptureFault fault path report =
    (report.name.now ≡ fault_name fault) × (report.words ≡ one_word (place_word (fault_place fault))) × (report.subject ≡ capture_subject fault path)

-- why a capture at a path was not written further
abbrev pub IsOutputFault : Fault → Bor (List ℕ) → Report → Type 0
IsOutputFault fault path report =
    (report.name.now ≡ fault_name fault) × (report.words ≡ one_word (place_word (fault_place fault))) × (report.subject ≡ output_subject fault path)

-- the fault of the capture of this number, of those at these paths
abbrev pub IsNthCaptureFault : Fault → ℕ → List (Bor (List ℕ)) → Report → Type 0
IsNthCaptureFault fault number paths report =
    (report.name.now ≡ codes "Capture") × IsPart number (fault_name fault) (place_word (fault_place fault)) report.words × (report.subject ≡ option_map Capture (slice_get paths number))
