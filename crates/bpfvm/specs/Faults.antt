-- How the faults of programs and listings read: the name, and after a blank the place, the line, or the fault of the program.
use Rattle.std.specs.Prelude.{ℕ, List, [], ◌++◌, Option, Some, None, codes}
use Rattle.std.specs.Fmt.{decimal}
use Rattle.bpfvm.specs.declared.fault.Invalid.{Invalid}
use Rattle.bpfvm.specs.declared.fault.Invalid.TheVariants as invalid
use Rattle.bpfvm.specs.declared.fault.ListingFault.{ListingFault}
use Rattle.bpfvm.specs.declared.fault.ListingFault.TheVariants as listing

abbrev pub invalid_name : Invalid → List ℕ
invalid_name invalid.Empty = codes "Empty"
invalid_name invalid.TooMany = codes "TooMany"
invalid_name (invalid.UnknownCode place) = codes "UnknownCode"
invalid_name (invalid.JumpOut place) = codes "JumpOut"
invalid_name (invalid.Cell place) = codes "Cell"
invalid_name (invalid.ZeroDivisor place) = codes "ZeroDivisor"
invalid_name invalid.NoReturn = codes "NoReturn"

-- the place of the instruction that is at fault
abbrev pub invalid_place : Invalid → Option ℕ
invalid_place (invalid.UnknownCode place) = Some place
invalid_place (invalid.JumpOut place) = Some place
invalid_place (invalid.Cell place) = Some place
invalid_place (invalid.ZeroDivisor place) = Some place
invalid_place other = None

-- a number after a blank
abbrev pub numbered : Option ℕ → List ℕ
numbered (Some place) = codes " " ++ decimal place
numbered None = []

abbrev pub invalid_text : Invalid → List ℕ
invalid_text fault = invalid_name fault ++ numbered (invalid_place fault)

abbrev pub listing_fault_name : ListingFault → List ℕ
listing_fault_name (listing.BadLine line) = codes "BadLine"
listing_fault_name listing.Count = codes "Count"
listing_fault_name (listing.Program fault) = codes "Program"

-- what stands after the name of a listing's fault
abbrev pub listing_fault_rest : ListingFault → List ℕ
listing_fault_rest (listing.BadLine line) = codes " " ++ decimal line
listing_fault_rest listing.Count = []
listing_fault_rest (listing.Program fault) = codes " " ++ invalid_text fault

abbrev pub listing_fault_text : ListingFault → List ℕ
listing_fault_text fault = listing_fault_name fault ++ listing_fault_rest fault
