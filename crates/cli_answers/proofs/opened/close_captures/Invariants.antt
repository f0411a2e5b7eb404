use Rattle.std.proofs.Common.{◌≡◌, ◌≢◌, ◌⊎◌, true}
use Rattle.std.specs.List.{Any}
use Rattle.cli_store.specs.Files.{Keeps}
use Rattle.cli_answers.proofs.opened.close_captures.Given as goal

-- a capture that failed was closed, or is left
abbrev pub invariant-loop-capture : goal.invariant-loop-capture
invariant-loop-capture g l =
    let F = g.F.FileStore in
    (goal.iterator-loop-capture g).can_next l.capture-iterator × (goal.iterator-loop-capture g).is_finite l.capture-iterator
    × Keeps (F.place l.fn.files) (F.place l.files) (F.text l.fn.files) (F.text l.files) (F.pending l.fn.files) (F.pending l.files)
    × (F.known ≡ true → F.failed l.fn.files ≡ true → F.failed l.files ≡ true)
    × (F.known ≡ true → Any (λ (capture : g.row.F-Input.Denot). g.F.Input.Source.failures capture ≢ 0) l.fn.captures.items → (F.failed l.files ≡ true) ⊎ Any (λ (capture : g.row.F-Input.Denot). g.F.Input.Source.failures capture ≢ 0) l.capture-iterator.rest.items)
