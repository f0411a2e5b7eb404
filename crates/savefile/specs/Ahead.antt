-- What is read ahead of its use.
use Rattle.std.specs.Prelude.{◌≡◌, ◌-◌, ℕ, List, ◌++◌, Option, slice_range}
use Rattle.std.specs.Io.KnownBytes.{Consumes}
use Rattle.savefile.specs.declared.ahead.Ahead.{Ahead}

-- what was read and is still to be passed
abbrev pub waiting_in : {R : Type 0} → Ahead R → List ℕ
waiting_in a = slice_range a.memory.items a.start a.end

-- what was passed last
abbrev pub lent_by : {R : Type 0} → Ahead R → List ℕ
lent_by a = slice_range a.memory.items (a.start - a.lent) a.start

-- Between two states more bytes were taken from the source, and they follow those that waited.
abbrev pub Grows : {R : Type 0} → (R → Option (List ℕ)) → Ahead R → Ahead R → Type 0
Grows left old new = (more : List ℕ) × (waiting_in new ≡ waiting_in old ++ more) × Consumes (left old.source) (left new.source) more
