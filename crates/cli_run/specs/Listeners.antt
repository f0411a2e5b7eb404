-- The file LISTENERS.
use Rattle.std.specs.Prelude.{◌≡◌, ℕ, Bool, false, ◌-◌, ◌^◌, ◌<◌, List, ◌∷◌, ◌++◌}
use Rattle.bpfvm.specs.Listing.{space, IsNumber}
use Rattle.bpfvm.specs.declared.insn.Insn.{Insn}
use Rattle.line_text.specs.Fields.{IsWord, IsSnap, IsCapacity}
use Rattle.cli_filter.specs.Plan as plan
use Rattle.cli_filter.specs.Plan.{AreLastFields}
use Rattle.cli_filter.specs.declared.plan.PlanFault.{PlanFault}
use Rattle.cli_run.specs.declared.plan.RunLine.{RunLine}

-- INTERFACE, FLUSH, SNAP, CAPACITY and SPARES, each with one space after it, and the rest
pub record AreNumbers (line interface flush_every snap capacity spares rest : List ℕ) : Type 0 where
  pub cut : line ≡ interface ++ space ∷ (flush_every ++ space ∷ (snap ++ space ∷ (capacity ++ space ∷ (spares ++ space ∷ rest))))
  pub one_interface : IsWord interface
  pub one_flush : IsWord flush_every
  pub one_snap : IsWord snap
  pub one_capacity : IsWord capacity
  pub one_spares : IsWord spares

-- `INTERFACE FLUSH SNAP CAPACITY SPARES OUT EXPRESSION`: the interface is there
pub record IsRunLine (interfaces : ℕ) (line : List ℕ) (asked : RunLine) : Type 0 where
  pub interface : List ℕ
  pub flush_every : List ℕ
  pub snap : List ℕ
  pub capacity : List ℕ
  pub spares : List ℕ
  pub rest : List ℕ
  pub numbers : AreNumbers line interface flush_every snap capacity spares rest
  pub interface_is : IsNumber (2 ^ 64 - 1) interface asked.interface
  pub flush_every_is : IsNumber (2 ^ 32 - 1) flush_every asked.flush_every
  pub snap_is : IsSnap snap asked.snap
  pub capacity_is : IsCapacity capacity asked.capacity asked.mode
  pub spares_is : IsNumber (2 ^ 64 - 1) spares asked.spares
  pub there : asked.interface < interfaces
  pub last : AreLastFields rest asked.output.now asked.expression.now

-- what a line has of its OUT, its filter and its snapshot length
abbrev pub output_of : RunLine → List ℕ
output_of line = line.output.now

abbrev pub expression_of : RunLine → List ℕ
expression_of line = line.expression.now

abbrev pub snap_of : RunLine → ℕ
snap_of line = line.snap

-- no OUT may stand in several lines
abbrev pub none_shared : List ℕ → Bool
none_shared output = false

-- no two have the same OUT
abbrev pub HaveOwnOutputs : List RunLine → Type 0
HaveOwnOutputs asked = plan.HaveOwnOutputs output_of none_shared asked

-- the lines of a text ask for listeners, each with an OUT of its own
abbrev pub AreRunLines : ℕ → List ℕ → List RunLine → Type 0
AreRunLines interfaces text asked = plan.AreAllLines (IsRunLine interfaces) output_of none_shared text asked

-- The lines of a text ask for listeners, each with an OUT of its own, and each expression has a program; of both the first 1,024 and one more are kept.
abbrev pub ArePlanned : ℕ → List ℕ → List RunLine → List (List Insn) → Type 0
ArePlanned interfaces text lines programs = plan.ArePlanned (IsRunLine interfaces) output_of none_shared expression_of snap_of 1025 text lines programs

-- the n-th line of a text, from 1, is the first bad one: it lacks the form, or has the OUT of an earlier line
abbrev pub IsFirstBadRunLine : ℕ → List ℕ → ℕ → Type 0
IsFirstBadRunLine interfaces text n = plan.IsFirstBadLine (IsRunLine interfaces) output_of none_shared text n

-- Why LISTENERS is not replayed: its first bad line; else its first expression that has no program, kept or not; or out of memory.
abbrev pub IsRefusedPlan : ℕ → List ℕ → PlanFault → Type 0
IsRefusedPlan interfaces text fault = plan.IsRefusedPlan (IsRunLine interfaces) output_of none_shared expression_of snap_of text fault
