-- What is asked of a listener while the packets of a playlist arrive.
use Rattle.std.specs.Prelude.{ℕ, ◌+◌, ◌%◌, Bool, List, [], ◌∷◌, ◌++◌, ◌==◌, ◌&&◌, not, if◌then◌else◌}
use Rattle.listener.specs.Messages.{Arrival, kept_by}
use Rattle.listener.specs.PlainList.{Request, Arrive, Flush}
use Rattle.bpfvm.specs.declared.insn.Insn.{Insn}
use Rattle.replay_types.specs.declared.task.Task.{Task}

-- What a listener is asked by: its filter, the snapshot length, and after how many arrivals it is flushed.
pub record Asking : Type 0 where
  pub program : List Insn
  pub snap : ℕ
  pub flush_every : ℕ

-- what a task's listener is asked by
abbrev pub asking_of : {W : Type 0} → Task W → Asking
asking_of t = record { program = t.program; snap = t.snap; flush_every = t.flush_every }

-- a flush is due after arrival n where `every` is not 0 and divides n + 1
abbrev pub is_due : ℕ → ℕ → Bool
is_due every n = not (every == 0) && ((n + 1) % every == 0)

-- what is asked for arrival n
abbrev pub asked_at : Asking → ℕ → Arrival → List Request
asked_at t n a = Arrive (kept_by t.program t.snap a) ∷ (if is_due t.flush_every n then Flush ∷ [] else [])

-- what is asked for a list of arrivals, of which the first is arrival n
abbrev pub asked_from : Asking → ℕ → List Arrival → List Request
asked_from t n [] = []
asked_from t n (a ∷ as') = asked_at t n a ++ asked_from t (n + 1) as'

abbrev pub asked : Asking → List Arrival → List Request
asked t playlist = asked_from t 0 playlist
