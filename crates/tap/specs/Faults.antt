-- How the fault of a replay reads: its name, its number and the fault inside it, each after a blank.
use Rattle.std.specs.Prelude.{ℕ, List, [], ◌++◌, codes}
use Rattle.std.specs.Fmt.{decimal}
use Rattle.filtergen_facts.specs.Faults.{refusal_text}
use Rattle.filterlang.specs.Faults.{fault_text as expression_text}
use Rattle.listener.specs.Faults.{open_fault_text}
use Rattle.savefile.specs.Faults.{fault_text as capture_text}
use Rattle.tap.specs.declared.fault.Fault.{Fault}
use Rattle.tap.specs.declared.fault.Fault.TheVariants.{TooMany, NoListener, Capture, Expression, Compile, Open, NoMemory}

abbrev pub fault_name : Fault → List ℕ
fault_name TooMany = codes "TooMany"
fault_name (NoListener step) = codes "NoListener"
fault_name (Capture capture fault) = codes "Capture"
fault_name (Expression listener fault) = codes "Expression"
fault_name (Compile listener refusal) = codes "Compile"
fault_name (Open listener fault) = codes "Open"
fault_name NoMemory = codes "NoMemory"

-- what stands after the name
abbrev pub fault_rest : Fault → List ℕ
fault_rest (NoListener step) = codes " " ++ decimal step
fault_rest (Capture capture fault) = codes " " ++ decimal capture ++ codes " " ++ capture_text fault
fault_rest (Expression listener fault) = codes " " ++ decimal listener ++ codes " " ++ expression_text fault
fault_rest (Compile listener refusal) = codes " " ++ decimal listener ++ codes " " ++ refusal_text refusal
fault_rest (Open listener fault) = codes " " ++ decimal listener ++ codes " " ++ open_fault_text fault
fault_rest other = []

abbrev pub fault_text : Fault → List ℕ
fault_text fault = fault_name fault ++ fault_rest fault
