use Rattle.std.proofs.Common.{◌≡◌, ◌+◌, ◌≤◌, length}
use Rattle.filterlang.specs.Phrases.{kinds}
use Rattle.filterlang.specs.Grammar.{after_matching}
use Rattle.filterlang.proofs.lookahead.after_matching.Given as goal

abbrev pub invariant-loop-rest : goal.invariant-loop-rest
invariant-loop-rest l =
    (after_matching l.depth (kinds l.rest) ≡ after_matching 0 (kinds l.tokens))
    × (l.depth + length l.rest ≤ length l.tokens)

abbrev pub decreases-loop-rest : goal.decreases-loop-rest
decreases-loop-rest l = length l.rest
