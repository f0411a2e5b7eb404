-- What the files LISTENERS and SCRIPT ask for.
use Rattle.std.specs.Prelude.{ℕ, List}
use Rattle.tap_steps.specs.declared.filters.Spec.{Spec}
use Rattle.line_text.specs.declared.fault.LineFault.{LineFault}
use Rattle.line_text.specs.declared.fault.LineFault.TheVariants.{Listeners, Script, NoMemory}
use Rattle.line_text.specs.Files.{IsFileOf, IsFirstBad}
use Rattle.tap_text.specs.Listeners.{IsListenerLine}
use Rattle.tap_text.specs.Script.{IsStepLine}

-- Why the files are not taken: the first bad line, one of LISTENERS before one of SCRIPT, or memory ran out.
abbrev pub IsRefusedFiles : List ℕ → List ℕ → LineFault → Type 0
IsRefusedFiles listeners script (Listeners n) = IsFirstBad IsListenerLine listeners n
IsRefusedFiles listeners script (Script n) = ((specs : List Spec) × IsFileOf IsListenerLine listeners specs) × IsFirstBad IsStepLine script n
IsRefusedFiles listeners script NoMemory = Unit {0}
