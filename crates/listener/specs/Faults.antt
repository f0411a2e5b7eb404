-- How the fault of a listener that is not opened reads: its name.
use Rattle.std.specs.Prelude.{ℕ, List, codes}
use Rattle.listener.specs.declared.fault.OpenFault.{OpenFault}
use Rattle.listener.specs.declared.fault.OpenFault.TheVariants.{BadSnap, BadCapacity, NoMemory}

abbrev pub open_fault_text : OpenFault → List ℕ
open_fault_text BadSnap = codes "BadSnap"
open_fault_text BadCapacity = codes "BadCapacity"
open_fault_text NoMemory = codes "NoMemory"
