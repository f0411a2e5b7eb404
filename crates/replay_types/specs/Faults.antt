-- How the fault of a replay in threads reads: its name, its numbers and the fault inside it, each after a blank.
use Rattle.std.specs.Prelude.{ℕ, List, [], ◌++◌, codes}
use Rattle.std.specs.Fmt.{decimal}
use Rattle.listener.specs.Faults.{open_fault_text}
use Rattle.replay_types.specs.declared.fault.RunFault.{RunFault}
use Rattle.replay_types.specs.declared.fault.RunFault.TheVariants.{TooMany, Open, NoStart}

abbrev pub run_fault_name : RunFault → List ℕ
run_fault_name TooMany = codes "TooMany"
run_fault_name (Open interface task fault) = codes "Open"
run_fault_name NoStart = codes "NoStart"

-- what stands after the name
abbrev pub run_fault_rest : RunFault → List ℕ
run_fault_rest (Open interface task fault) = codes " " ++ decimal interface ++ codes " " ++ decimal task ++ codes " " ++ open_fault_text fault
run_fault_rest other = []

abbrev pub run_fault_text : RunFault → List ℕ
run_fault_text fault = run_fault_name fault ++ run_fault_rest fault
