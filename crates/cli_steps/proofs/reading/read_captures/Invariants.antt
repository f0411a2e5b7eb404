use Rattle.std.proofs.Common.{◌≡◌, true, map, take}
use Rattle.cli_store.specs.Files.{Keeps}
use Rattle.cli_steps.specs.FromFiles.{AreCapturesRead}
use Rattle.cli_steps.proofs.reading.read_captures.Given as goal

-- the captures before were read, and no file changed
abbrev pub invariant-loop-path : goal.invariant-loop-path
invariant-loop-path g l = let F = g.F.FileStore in record {
  kept : Keeps (F.place l.fn.files) (F.place l.files) (F.text l.fn.files) (F.text l.files) (F.pending l.fn.files) (F.pending l.files);
  opened : F.opened l.files ≡ F.opened l.fn.files;
  texts : F.known ≡ true → AreCapturesRead (F.place l.fn.files) (F.text l.fn.files) (take l.path-index l.paths) (map (λ t. t.items) l.texts.items);
}
