-- Exit statuses.
use Rattle.std.specs.Prelude.{ℕ}
use Rattle.cli_text.specs.declared.status.Status.{Status}
use Rattle.cli_text.specs.declared.status.Status.TheVariants.{Clean, Negative, Undecided, Refused, Damaged, Failed}

-- the number that a process ends with
abbrev pub code : Status → ℕ
code Clean = 0
code Refused = 1
code Damaged = 2
code Failed = 3
code Negative = 4
code Undecided = 5

-- where several statuses apply, the worst does: any fault goes before an answer that is no, or that is not decided
abbrev pub greater : Status → Status → Status
greater Failed other = Failed
greater Damaged Failed = Failed
greater Damaged other = Damaged
greater Refused Clean = Refused
greater Refused Negative = Refused
greater Refused Undecided = Refused
greater Refused other = other
greater Undecided Clean = Undecided
greater Undecided Negative = Undecided
greater Undecided other = other
greater Negative Clean = Negative
greater Negative other = other
greater Clean other = other
