-- How the fault of a playlist reads: its name, the number of the capture and the fault of that, each after a blank.
use Rattle.std.specs.Prelude.{ℕ, List, [], ◌++◌, codes}
use Rattle.std.specs.Fmt.{decimal}
use Rattle.savefile.specs.Faults.{fault_text}
use Rattle.tap_steps.specs.declared.fault.PlaylistFault.{PlaylistFault}
use Rattle.tap_steps.specs.declared.fault.PlaylistFault.TheVariants.{Capture, NoMemory}

abbrev pub playlist_fault_name : PlaylistFault → List ℕ
playlist_fault_name (Capture capture fault) = codes "Capture"
playlist_fault_name NoMemory = codes "NoMemory"

-- what stands after the name
abbrev pub playlist_fault_rest : PlaylistFault → List ℕ
playlist_fault_rest (Capture capture fault) = codes " " ++ decimal capture ++ codes " " ++ fault_text fault
playlist_fault_rest NoMemory = []

abbrev pub playlist_fault_text : PlaylistFault → List ℕ
playlist_fault_text fault = playlist_fault_name fault ++ playlist_fault_rest fault
