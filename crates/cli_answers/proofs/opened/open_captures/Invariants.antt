use Rattle.std.proofs.Common.{◌≡◌, ◌≤◌, ◌+◌, ◌-◌, true, drop, length, vec_capacity}
use Rattle.cli_store.specs.Files.{Keeps}
use Rattle.cli_answers.specs.Asked.{IsCaptureAt}
use Rattle.cli_answers.proofs.Opening.{Completes}
use Rattle.cli_answers.proofs.opened.open_captures.Given as goal

-- the captures that were opened, and the paths that are left
abbrev pub invariant-loop-path : goal.invariant-loop-path
invariant-loop-path g l =
    let F = g.F.FileStore in
    let R = IsCaptureAt g.F.Input.Source.left g.F.Input.Source.failures (F.place l.fn.files) (F.text l.fn.files) in
    Keeps (F.place l.fn.files) (F.place l.files) (F.text l.fn.files) (F.text l.files) (F.pending l.fn.files) (F.pending l.files)
    × (F.known ≡ true → Completes R l.paths l.captures.items (drop l.path-index l.paths))
    × (length l.captures.items + (length l.paths - l.path-index) ≤ vec_capacity l.captures)
