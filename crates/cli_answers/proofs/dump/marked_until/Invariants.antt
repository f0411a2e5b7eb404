use Rattle.std.proofs.Common.{◌≡◌, []}
use Rattle.cli_answers.proofs.dump.marked_until.Given as goal

abbrev pub invariant-loop-n : goal.invariant-loop-n
invariant-loop-n l = l.fn.looks ≡ [] → l.until ≡ 0
