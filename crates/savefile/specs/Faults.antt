-- How the fault of a savefile reads: its name, and after a blank the place of its record if it has one.
use Rattle.std.specs.Prelude.{ℕ, List, [], ◌++◌, Option, Some, None, codes}
use Rattle.std.specs.Fmt.{decimal}
use Rattle.savefile.specs.declared.fault.Fault.{Fault}
use Rattle.savefile.specs.declared.fault.Fault.TheVariants.{ShortHeader, NotSavefile, Version, LinkType, TornRecord, BadFraction, TooLong, NoMemory, Device, Failed, CountFull}

abbrev pub fault_name : Fault → List ℕ
fault_name ShortHeader = codes "ShortHeader"
fault_name NotSavefile = codes "NotSavefile"
fault_name Version = codes "Version"
fault_name LinkType = codes "LinkType"
fault_name (TornRecord place) = codes "TornRecord"
fault_name (BadFraction place) = codes "BadFraction"
fault_name (TooLong place) = codes "TooLong"
fault_name NoMemory = codes "NoMemory"
fault_name Device = codes "Device"
fault_name Failed = codes "Failed"
fault_name CountFull = codes "CountFull"

-- the place of the record that is at fault
abbrev pub fault_place : Fault → Option ℕ
fault_place (TornRecord place) = Some place
fault_place (BadFraction place) = Some place
fault_place (TooLong place) = Some place
fault_place other = None

-- a number after a blank
abbrev pub numbered : Option ℕ → List ℕ
numbered (Some place) = codes " " ++ decimal place
numbered None = []

abbrev pub fault_text : Fault → List ℕ
fault_text fault = fault_name fault ++ numbered (fault_place fault)
