use Rattle.std.proofs.Common.{◌≡◌, ◌++◌, map, take, true}
use Rattle.std.specs.List.{AllZip}
use Rattle.cli_store.specs.Files.{Keeps}
use Rattle.cli_split.specs.Opened.{IsLate}
use Rattle.cli_split.proofs.opening.late_captures.Given as goal

-- the captures before
abbrev pub invariant-loop-path : goal.invariant-loop-path
invariant-loop-path g l =
    Keeps (g.F.FileStore.place l.fn.files) (g.F.FileStore.place l.files) (g.F.FileStore.text l.fn.files) (g.F.FileStore.text l.files) (g.F.FileStore.pending l.fn.files) (g.F.FileStore.pending l.files)
    × (g.F.FileStore.known ≡ true → g.F.FileStore.opened l.files ≡ g.F.FileStore.opened l.fn.files ++ map (λ path. g.F.FileStore.place l.fn.files path.now) (take l.path-index l.paths))
    × (g.F.FileStore.known ≡ true → AllZip (IsLate g.F.Input.Source.left g.F.Input.Source.failures (g.F.FileStore.place l.fn.files) (g.F.FileStore.text l.fn.files)) (take l.path-index l.paths) l.captures.items)
