-- The snapshot length that a number stands for.
use Rattle.std.specs.Prelude.{ℕ, ◌==◌, if◌then◌else◌}
use Rattle.savefile.specs.declared.record.TheConstants.{MAX_SNAP}

-- the snapshot length that is meant: 0 stands for the largest
abbrev pub effective_snaplen : ℕ → ℕ
effective_snaplen snap = if snap == 0 then MAX_SNAP else snap
