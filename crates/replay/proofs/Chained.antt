-- Interfaces from what was asked for to what is promised of them.
use Rattle.std.proofs.Common.{ℕ, List, [], ◌∷◌, length, ◌∙◌, subst, Option}
use Rattle.std.specs.List.{AllZip}
use Rattle.std.specs.declared.alloc.Global.{Global}
use Rattle.std.specs.declared.vec.Vec.{Vec}
use Rattle.atomic_table.specs.Seated.{TableId}
use Rattle.replay.specs.Captures.{GivesPlaylist}
use Rattle.replay.specs.Replayed.{IsReplayed, IsServed}
use Rattle.replay.specs.Runs.{IsRunningOf}
use Rattle.replay.specs.RunsEnded.{HasItsPairs, IsReportOf}
use Rattle.replay.specs.Setups.{HasLinks, IsPreparedFor}
use Rattle.replay.specs.declared.states.interface.Prepared.{Prepared}
use Rattle.replay.specs.declared.states.interface.Running.{Running}
use Rattle.replay_types.specs.declared.report.InterfaceReport.{InterfaceReport}
use Rattle.replay_types.specs.declared.task.Interface.{Interface}
use Rattle.replay_types.specs.declared.task.Task.{Task}

-- the threads of an interface work for the pairs of its links
pub still-paired : {R W : Type 0} (links : List (Vec TableId Global)) (prepared : List (Prepared R W)) (running : List (Running R W))
    → AllZip HasLinks links prepared → AllZip IsRunningOf prepared running → AllZip HasItsPairs links running
still-paired [] [] [] a b = tt
still-paired [] [] (x ∷ xs) a b = absurd b
still-paired [] (x ∷ xs) rs a b = absurd a
still-paired (x ∷ xs) [] rs a b = absurd a
still-paired (x ∷ xs) (l ∷ ls) [] a b = absurd b
still-paired (x ∷ xs) (l ∷ ls) (r ∷ rs) a b = (b.0.pairs ∙ a.0, still-paired xs ls rs a.1 b.1)

module _ {S W : Type 0} (left : S → Option (List ℕ)) (broken : S → ℕ) (taken : W → Option (List ℕ)) (failures : W → ℕ) where
  -- what is promised of one that ran is promised of what was asked for
  told-of-asked : (i : Interface S W) (l : Prepared S W) (r : Running S W) (t : InterfaceReport S W)
      → IsPreparedFor i l → IsRunningOf l r → IsReportOf left broken taken failures r t → IsReplayed left broken taken failures i t
  told-of-asked i l r t prepared running told = record {
    playlist = told.playlist;
    plays = subst (λ (cs : List S). GivesPlaylist left broken (length told.playlist) 0 cs t.sources.items told.playlist t.end) (running.captures ∙ prepared.1) told.plays;
    served = subst (λ (ts : List (Task W)). AllZip (IsServed taken failures told.playlist) ts t.listeners.items) (running.tasks ∙ prepared.0) told.served;
  }

  pub all-told : (is' : List (Interface S W)) (ls : List (Prepared S W)) (rs : List (Running S W)) (ts : List (InterfaceReport S W))
      → AllZip IsPreparedFor is' ls → AllZip IsRunningOf ls rs → AllZip (IsReportOf left broken taken failures) rs ts
      → AllZip (IsReplayed left broken taken failures) is' ts
  all-told [] [] [] [] a b c = tt
  all-told [] [] [] (t ∷ ts) a b c = absurd c
  all-told [] [] (r ∷ rs) ts a b c = absurd b
  all-told [] (l ∷ ls) rs ts a b c = absurd a
  all-told (i ∷ is') [] rs ts a b c = absurd a
  all-told (i ∷ is') (l ∷ ls) [] ts a b c = absurd b
  all-told (i ∷ is') (l ∷ ls) (r ∷ rs) [] a b c = absurd c
  all-told (i ∷ is') (l ∷ ls) (r ∷ rs) (t ∷ ts) a b c = (told-of-asked i l r t a.0 b.0 c.0, all-told is' ls rs ts a.1 b.1 c.1)
