-- Reserved for what threads hand back.
use Rattle.std.specs.Prelude.{◌≡◌, ◌≤◌, ℕ, length, vec_capacity}
use Rattle.replay.specs.declared.reserved.Reserved.{Reserved}

-- nothing is in it yet, and there is room for what this many captures and tasks hand back
pub record HasRoom {R W : Type 0} (captures tasks : ℕ) (room : Reserved R W) : Type 0 where
  pub none : (length room.sources.items ≡ 0) × (length room.ends.items ≡ 0) × (length room.all_threads.items ≡ 0) × (length room.reports.items ≡ 0)
  pub sources : captures ≤ vec_capacity room.sources
  pub ends : tasks ≤ vec_capacity room.ends
  pub all_threads : tasks ≤ vec_capacity room.all_threads
  pub reports : tasks ≤ vec_capacity room.reports
