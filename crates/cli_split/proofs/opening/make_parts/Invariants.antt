use Rattle.std.proofs.Common.{◌≡◌, ◌+◌, ◌≤◌, [], All, Some, length, true, vec_capacity}
use Rattle.std.specs.List.{AllZip}
use Rattle.cli_split.specs.Lines.{IsCompiled}
use Rattle.cli_split.proofs.Openings.{AreMade}
use Rattle.cli_split.proofs.opening.make_parts.Given as goal

-- the parts so far, and the programs that are left
abbrev pub invariant-loop-program : goal.invariant-loop-program
invariant-loop-program g l =
    (goal.iterator-loop-program g).can_next l.program-iterator × (goal.iterator-loop-program g).is_finite l.program-iterator
    × (length l.parts.items + length l.program-iterator.rest.items ≡ length l.fn.lines)
    × (length l.fn.lines ≤ vec_capacity l.parts)
    × (g.F.FileStore.place l.files ≡ g.F.FileStore.place l.fn.files)
    × (g.F.FileStore.text l.files ≡ g.F.FileStore.text l.fn.files)
    × (g.F.FileStore.opened l.files ≡ g.F.FileStore.opened l.fn.files)
    × (g.F.FileStore.known ≡ true → g.F.FileStore.pending l.files ≡ g.F.FileStore.pending l.fn.files + length l.parts.items)
    × (g.F.FileStore.known ≡ true → All (λ part. g.F.Output.Sink.taken part.sink ≡ Some []) l.parts.items)
    × (g.F.FileStore.known ≡ true → AllZip IsCompiled l.fn.lines l.fn.programs.items
    → AreMade g.F.Output.Sink.taken g.F.Output.Sink.name g.F.Output.Sink.failures (g.F.FileStore.place l.fn.files) IsCompiled l.fn.lines l.parts.items l.program-iterator.rest.items)
