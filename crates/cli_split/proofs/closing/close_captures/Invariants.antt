use Rattle.std.proofs.Common.{◌≡◌, Bool, true}
use Rattle.cli_store.specs.Files.{Keeps}
use Rattle.cli_split.specs.Texts.{NotesFailures}
use Rattle.cli_split.proofs.closing.close_captures.Given as goal

-- no file changed, and what fails of the captures that are left makes the failures of all noted
abbrev pub invariant-loop-capture : goal.invariant-loop-capture
invariant-loop-capture g l =
    (goal.iterator-loop-capture g).can_next l.capture-iterator × (goal.iterator-loop-capture g).is_finite l.capture-iterator
    × Keeps (g.F.FileStore.place l.fn.files) (g.F.FileStore.place l.files) (g.F.FileStore.text l.fn.files) (g.F.FileStore.text l.files) (g.F.FileStore.pending l.fn.files) (g.F.FileStore.pending l.files)
    × (g.F.FileStore.known ≡ true → g.F.FileStore.failed l.fn.files ≡ true → g.F.FileStore.failed l.files ≡ true)
    × (g.F.FileStore.known ≡ true → (later : Bool) → (g.F.FileStore.failed l.files ≡ true → later ≡ true) → NotesFailures g.F.Input.Source.failures later l.capture-iterator.rest.items
    → NotesFailures g.F.Input.Source.failures later l.fn.captures.items)
