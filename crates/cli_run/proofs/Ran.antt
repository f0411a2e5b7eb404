-- What a replay of lines hands back.
use denote.Ref.{Bor}
use Rattle.std.proofs.Common.{◌≡◌, ◌+◌, ◌<◌, ℕ, List, [], ◌∷◌, ◌++◌, All, Option, Some, get_or, length, slice_get, take, refl, ap, sym, subst, ◌∙◌, arith, zero, suc, inr, Result, Ok, Err, IfOk, IfErr, OnOk}
use Rattle.std.specs.List.{AllZip}
use Rattle.std.specs.declared.alloc.Global.{Global}
use Rattle.std.specs.declared.vec.Vec.{Vec}
use Rattle.std.proofs.lemmas.List.{take_more}
use Rattle.std.proofs.lemmas.List.Elements.{All-map, All-same}
use Rattle.bpfvm.specs.declared.insn.Insn.{Insn}
use Rattle.replay.specs.Replayed.{IsReplayed, IsServed}
use Rattle.replay_types.specs.declared.report.InterfaceReport.{InterfaceReport}
use Rattle.replay_types.specs.declared.task.Interface.{Interface}
use Rattle.cli_run.specs.declared.plan.RunLine.{RunLine}
use Rattle.cli_run.specs.Bare.{HaveTheirListeners}
use Rattle.replay_types.specs.Refusals.{IsFirst, NoneStands}
use Rattle.replay_types.specs.declared.fault.RunFault.{RunFault}
use Rattle.cli_run.specs.Layout.{places_of, tasks_of, those_at, AreLaidOut}
use Rattle.cli_run.specs.Running.{IsReplayOf, IsNoReplayOf, Makes}
use Rattle.cli_filter.proofs.Planned.{zip-length}
use Rattle.cli_run.proofs.Laid.{length-those}

-- ---- a replay of lines

length-tasks : {W : Type 0} (lines : List RunLine) (programs : List (List Insn)) (sinks : List W) → length programs ≡ length lines → length sinks ≡ length lines → length (tasks_of lines programs sinks) ≡ length (places_of lines)
length-tasks [] programs sinks many too = refl
length-tasks (line ∷ lines) [] sinks many too = absurd (omega arith)
length-tasks (line ∷ lines) (program ∷ programs) [] many too = absurd (omega arith)
length-tasks (line ∷ lines) (program ∷ programs) (sink ∷ sinks) many too = ap suc (length-tasks lines programs sinks (omega arith) (omega arith))

zip-here : {A B : Type 0} (R : A → B → Type 0) (xs : List A) (ys : List B) (i : ℕ) (y : B) → AllZip R xs ys → slice_get ys i ≡ Some y → (x : A) × (slice_get xs i ≡ Some x) × R x y
zip-here R [] [] i y each is = absurd cc
zip-here R [] (w ∷ ys) i y each is = absurd each
zip-here R (x ∷ xs) [] i y each is = absurd each
zip-here {A} {B} R (x ∷ xs) (w ∷ ys) zero y each is = let same : w ≡ y = cc in (x, refl, subst (λ (z : B). R x z) same each.0)
zip-here R (x ∷ xs) (w ∷ ys) (suc i) y each is = zip-here R xs ys i y each.1 is

module _ {S W : Type 0} (left : S → Option (List ℕ)) (broken : S → ℕ) (taken : W → Option (List ℕ)) (failures : W → ℕ)
    (lines : List RunLine) (programs : List (List Insn)) (captures : List (Vec S Global)) (sinks : List W) (reports : List (InterfaceReport S W))
    (replay : IsReplayOf left broken taken failures lines programs captures sinks reports) (places : List ℕ) (are : places ≡ places_of lines) where
  length-reports : length captures ≡ length reports
  length-reports =
      zip-length (λ its_captures interface. interface.captures.items ≡ its_captures.items) captures replay.interfaces replay.laid_out.with_captures
      ∙ zip-length (IsReplayed left broken taken failures) replay.interfaces reports replay.replayed

  pub places_there : All (λ line. line.interface < length captures) lines → All (λ place. place < length reports) places
  places_there there =
      All-same (λ place. place < length reports) places (places_of lines) are
      (All-map (λ place. place < length reports) (λ line. line.interface) lines
      (subst (λ (n : ℕ). All (λ line. line.interface < n) lines) length-reports there))

  pub their_listeners : length programs ≡ length lines → length sinks ≡ length lines → HaveTheirListeners places reports
  their_listeners many too i report is =
      let found = zip-here (IsReplayed left broken taken failures) replay.interfaces reports i report replay.replayed is in
      let served = found.2.served in
      let tasks = replay.laid_out.with_tasks i found.0 found.1 in
      sym (zip-length (IsServed taken failures found.2.playlist) found.0.tasks.items report.listeners.items served)
      ∙ ap length tasks
      ∙ length-those i (places_of lines) (tasks_of lines programs sinks) (places_of lines) (length-tasks lines programs sinks many too) refl
      ∙ ap (λ (ps : List ℕ). length (those_at i ps ps)) (sym are)

-- ---- sinks that are made

pub length_made : {M W : Type 0} (step : M → Bor (List ℕ) → W → M → Type 0) (make : M) (lines : List RunLine) (sinks : List W) (last : M) → Makes step make lines sinks last → length sinks ≡ length lines
length_made step make [] [] last made = refl
length_made step make [] (sink ∷ sinks) last made = absurd made
length_made step make (line ∷ lines) [] last made = absurd made
length_made step make (line ∷ lines) (sink ∷ sinks) last made = ap suc (length_made step made.0 lines sinks last made.2)

made-push : {M W : Type 0} (step : M → Bor (List ℕ) → W → M → Type 0) (make : M) (lines : List RunLine) (sinks : List W) (last : M) (line : RunLine) (sink : W) (next : M) →
    Makes step make lines sinks last → step last line.output sink next → Makes step make (lines ++ line ∷ []) (sinks ++ sink ∷ []) next
made-push {M} step make [] [] last line sink next made is = (next, subst (λ (m : M). step m line.output sink next) (sym made) is, refl)
made-push step make [] (s ∷ sinks) last line sink next made is = absurd made
made-push step make (l ∷ lines) [] last line sink next made is = absurd made
made-push step make (l ∷ lines) (s ∷ sinks) last line sink next made is = (made.0, made.1, made-push step made.0 lines sinks last line sink next made.2 is)

pub made_more : {M W : Type 0} (step : M → Bor (List ℕ) → W → M → Type 0) (make : M) (lines : List RunLine) (sinks : List W) (last : M) (i : ℕ) (d : RunLine) (sink : W) (next : M) →
    i < length lines → Makes step make (take i lines) sinks last → step last (get_or lines i d).output sink next → Makes step make (take (i + 1) lines) (sinks ++ sink ∷ []) next
made_more {M} {W} step make lines sinks last i d sink next inside made stepped =
    subst (λ (t : List RunLine). Makes step make t (sinks ++ sink ∷ []) next) (sym (take_more lines i d inside))
    (made-push step make (take i lines) sinks last (get_or lines i d) sink next made stepped)

-- ---- the replay of what is laid out

pub as_replayed : {S W : Type 0} (left : S → Option (List ℕ)) (broken : S → ℕ) (taken : W → Option (List ℕ)) (failures : W → ℕ)
    (lines : List RunLine) (programs : List (List Insn)) (captures : List (Vec S Global)) (sinks : List W) (interfaces : List (Interface S W)) (r : Result (Vec (InterfaceReport S W) Global) RunFault) →
    AreLaidOut (places_of lines) (tasks_of lines programs sinks) captures interfaces → OnOk r (NoneStands interfaces) →
    IfOk r (λ reports. AllZip (IsReplayed left broken taken failures) interfaces reports.items) →
    IfOk r (λ reports. IsReplayOf left broken taken failures lines programs captures sinks reports.items)
as_replayed left broken taken failures lines programs captures sinks interfaces (Ok reports) laid stand replayed =
    record { interfaces = interfaces; laid_out = laid; stand = stand; replayed = replayed }
as_replayed left broken taken failures lines programs captures sinks interfaces (Err fault) laid stand replayed = tt

pub as_refused : {S W A : Type 0} (lines : List RunLine) (programs : List (List Insn)) (captures : List (Vec S Global)) (sinks : List W) (interfaces : List (Interface S W)) (r : Result A RunFault) →
    AreLaidOut (places_of lines) (tasks_of lines programs sinks) captures interfaces → IfErr r (IsFirst interfaces) → IfErr r (λ fault. IsNoReplayOf lines programs captures sinks fault)
as_refused lines programs captures sinks interfaces (Ok reports) laid first = tt
as_refused lines programs captures sinks interfaces (Err fault) laid first = inr (interfaces, laid, first)

pub length_places : (lines : List RunLine) → length (places_of lines) ≡ length lines
length_places [] = refl
length_places (line ∷ lines) = ap suc (length_places lines)
