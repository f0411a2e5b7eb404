-- How the fault of an expression reads: its name, and after a blank its place if it has one.
use Rattle.std.specs.Prelude.{ℕ, List, [], ◌++◌, Option, Some, None, codes}
use Rattle.std.specs.Fmt.{decimal}
use Rattle.filterlang.specs.declared.fault.Fault.{Fault}
use Rattle.filterlang.specs.declared.fault.Fault.TheVariants.{TextTooLong, BadByte, BadWord, BadNumber, Syntax, NoQualifier, BadQualifier, BadIdentifier, NetBits, OutOfRange, DivideByZero, TooNested, NoMemory}

abbrev pub fault_name : Fault → List ℕ
fault_name TextTooLong = codes "TextTooLong"
fault_name (BadByte place) = codes "BadByte"
fault_name (BadWord place) = codes "BadWord"
fault_name (BadNumber place) = codes "BadNumber"
fault_name (Syntax place) = codes "Syntax"
fault_name (NoQualifier place) = codes "NoQualifier"
fault_name (BadQualifier place) = codes "BadQualifier"
fault_name (BadIdentifier place) = codes "BadIdentifier"
fault_name (NetBits place) = codes "NetBits"
fault_name (OutOfRange place) = codes "OutOfRange"
fault_name (DivideByZero place) = codes "DivideByZero"
fault_name (TooNested place) = codes "TooNested"
fault_name NoMemory = codes "NoMemory"

-- the byte at which the text is at fault
abbrev pub fault_place : Fault → Option ℕ
fault_place (BadByte place) = Some place
fault_place (BadWord place) = Some place
fault_place (BadNumber place) = Some place
fault_place (Syntax place) = Some place
fault_place (NoQualifier place) = Some place
fault_place (BadQualifier place) = Some place
fault_place (BadIdentifier place) = Some place
fault_place (NetBits place) = Some place
fault_place (OutOfRange place) = Some place
fault_place (DivideByZero place) = Some place
fault_place (TooNested place) = Some place
fault_place other = None

-- a number after a blank
abbrev pub numbered : Option ℕ → List ℕ
numbered (Some place) = codes " " ++ decimal place
numbered None = []

abbrev pub fault_text : Fault → List ℕ
fault_text fault = fault_name fault ++ numbered (fault_place fault)
