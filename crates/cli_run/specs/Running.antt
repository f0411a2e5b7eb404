-- `run`, from the bytes of LISTENERS and the captures to what is printed, reported and handed back.
use denote.Ref.{Bor}
use Rattle.std.specs.Prelude.{◌≡◌, ℕ, ◌⊎◌, List, [], ◌∷◌, length, Option}
use Rattle.std.specs.List.{AllZip}
use Rattle.std.specs.Io.KnownBytes.{Keeps}
use Rattle.std.specs.declared.alloc.Global.{Global}
use Rattle.std.specs.declared.vec.Vec.{Vec}
use Rattle.bpfvm.specs.declared.insn.Insn.{Insn}
use Rattle.line_text.specs.declared.form.LineForm.TheVariants.{Text}
use Rattle.cli_text.specs.declared.report.Outcome.{Outcome}
use Rattle.cli_text.specs.declared.status.Status.TheVariants.{Refused}
use Rattle.cli_text.specs.Status.{code}
use Rattle.line_text.specs.Sending.{Streams, Takes}
use Rattle.cli_text.specs.Telling.{told_line}
use Rattle.replay_types.specs.Refusals.{IsFirst, NoneStands}
use Rattle.replay.specs.Replayed.{IsReplayed}
use Rattle.replay_types.specs.Faults.{run_fault_text}
use Rattle.replay_types.specs.declared.fault.RunFault.{RunFault}
use Rattle.replay_types.specs.declared.fault.RunFault.TheVariants.{NoStart}
use Rattle.replay_types.specs.declared.report.InterfaceReport.{InterfaceReport}
use Rattle.replay_types.specs.declared.task.Interface.{Interface}
use Rattle.cli_run.specs.declared.plan.RunLine.{RunLine}
use Rattle.cli_filter.specs.declared.plan.PlanFault.{PlanFault}
use Rattle.cli_run.specs.Faults.{listeners_fault_text}
use Rattle.cli_run.specs.Layout.{places_of, tasks_of, AreLaidOut, AreSinksOf}
use Rattle.cli_run.specs.Listeners.{ArePlanned, IsRefusedPlan}
use Rattle.cli_run.specs.Replaying.{ReportsRun}

-- The captures were replayed to the listeners of the lines, each with its program and its sink.
pub record IsReplayOf {S W : Type 0} (left : S → Option (List ℕ)) (broken : S → ℕ) (taken : W → Option (List ℕ)) (failures : W → ℕ)
    (lines : List RunLine) (programs : List (List Insn)) (captures : List (Vec S Global)) (sinks : List W) (reports : List (InterfaceReport S W)) : Type 0 where
  pub interfaces : List (Interface S W)
  pub laid_out : AreLaidOut (places_of lines) (tasks_of lines programs sinks) captures interfaces
  pub stand : NoneStands interfaces
  pub replayed : AllZip (IsReplayed left broken taken failures) interfaces reports

-- Why they were not: the first fault that stands; or memory or a thread was refused.
abbrev pub IsNoReplayOf : {S W : Type 0} → List RunLine → List (List Insn) → List (Vec S Global) → List W → RunFault → Type 0
IsNoReplayOf {S} {W} lines programs captures sinks fault =
    (fault ≡ NoStart) ⊎ ((interfaces : List (Interface S W)) × AreLaidOut (places_of lines) (tasks_of lines programs sinks) captures interfaces × IsFirst interfaces fault)

-- calls of a closure at the OUTs of these lines, one after the other, gave these sinks and left the closure so
abbrev pub Makes : {M W : Type 0} → (M → Bor (List ℕ) → W → M → Type 0) → M → List RunLine → List W → M → Type 0
Makes step make [] [] last = make ≡ last
Makes step make (line ∷ lines) (sink ∷ sinks) last = (next : _) × step make line.output sink next × Makes step next lines sinks last
Makes step make [] (sink ∷ sinks) last = ⊥
Makes step make (line ∷ lines) [] last = ⊥

-- LISTENERS asks for listeners, each expression has a program, and a sink was made of each OUT. The captures were replayed to these;
-- the reports were printed, faults were reported, and the sinks came back in the order of the lines.
pub record Ran {S W M : Type 0} (left : S → Option (List ℕ)) (broken : S → ℕ) (taken : W → Option (List ℕ)) (failures : W → ℕ)
    (step : M → Bor (List ℕ) → W → M → Type 0) (make : M) (listeners : List ℕ) (captures : List (Vec S Global)) (old new : Streams) (outcome : Outcome) (back : List W) : Type 0 where
  pub lines : List RunLine
  pub programs : List (List Insn)
  pub planned : ArePlanned (length captures) listeners lines programs
  pub sinks : List W
  pub last : M
  pub made : Makes step make lines sinks last
  pub reports : List (InterfaceReport S W)
  pub replayed : IsReplayOf left broken taken failures lines programs captures sinks reports
  pub tells : ReportsRun Text reports old new outcome
  pub all_back : length back ≡ length lines
  pub in_order : AreSinksOf (places_of lines) reports back

-- A fault that reads so was reported, nothing was printed, and no sink comes back.
pub record Refuses {W : Type 0} (text : List ℕ) (old new : Streams) (outcome : Outcome) (back : List W) : Type 0 where
  pub nothing : Keeps old.out new.out
  pub tells : Takes old.err new.err outcome.told (told_line text)
  pub refused : outcome.status ≡ Refused
  pub none : back ≡ []

-- LISTENERS is refused.
pub record Unplanned {S W : Type 0} (listeners : List ℕ) (captures : List (Vec S Global)) (old new : Streams) (outcome : Outcome) (back : List W) : Type 0 where
  pub fault : PlanFault
  pub stands : IsRefusedPlan (length captures) listeners fault
  pub refuses : Refuses (listeners_fault_text fault) old new outcome back

-- LISTENERS asks for listeners, each expression has a program, and there is no replay.
pub record Unplayed {S W : Type 0} (listeners : List ℕ) (captures : List (Vec S Global)) (old new : Streams) (outcome : Outcome) (back : List W) : Type 0 where
  pub lines : List RunLine
  pub programs : List (List Insn)
  pub planned : ArePlanned (length captures) listeners lines programs
  pub sinks : List W
  pub fault : RunFault
  pub stands : IsNoReplayOf lines programs captures sinks fault
  pub refuses : Refuses (run_fault_text fault) old new outcome back

-- a run: LISTENERS is refused, or there is no replay, or there is one
abbrev pub Runs : {S W M : Type 0} → (S → Option (List ℕ)) → (S → ℕ) → (W → Option (List ℕ)) → (W → ℕ) → (M → Bor (List ℕ) → W → M → Type 0) → M
    → List ℕ → List (Vec S Global) → Streams → Streams → Outcome → List W → Type 0
Runs left broken taken failures step make listeners captures old new outcome back =
    Unplanned listeners captures old new outcome back ⊎ (Unplayed listeners captures old new outcome back
    ⊎ Ran left broken taken failures step make listeners captures old new outcome back)

-- a run of which only the status is known, as a number
abbrev pub RunsTo : {S W M : Type 0} → (S → Option (List ℕ)) → (S → ℕ) → (W → Option (List ℕ)) → (W → ℕ) → (M → Bor (List ℕ) → W → M → Type 0) → M
    → List ℕ → List (Vec S Global) → Streams → Streams → ℕ → List W → Type 0
RunsTo left broken taken failures step make listeners captures old new status back =
    (outcome : Outcome) × Runs left broken taken failures step make listeners captures old new outcome back × (status ≡ code outcome.status)
