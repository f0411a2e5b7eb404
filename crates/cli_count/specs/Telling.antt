-- The exit statuses.
use Rattle.std.specs.Prelude.{ℕ, Bool, true, false, ◌&&◌, nat_le, Option, Some, None, if◌then◌else◌}
use Rattle.cli_args.specs.declared.counting.CountBounds.{CountBounds}
use Rattle.cli_text.specs.declared.status.Status.{Status}
use Rattle.cli_text.specs.declared.status.Status.TheVariants.{Clean, Negative}

-- of captures of which this many packets are accepted: without bounds it says nothing
abbrev pub bounds_status : Option CountBounds → ℕ → Status
bounds_status None accepted = Clean
bounds_status (Some b) accepted = if nat_le b.least accepted && nat_le accepted b.most then Clean else Negative

-- of captures of which one has an accepted packet, or none has
abbrev pub listed_status : Bool → Status
listed_status found = if found then Clean else Negative
