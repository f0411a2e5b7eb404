use Rattle.filterlang.specs.Phrases.{kinds}
use Rattle.filterlang.proofs.Directions.{no_word, one_word, two_words}
use Rattle.filterlang.proofs.phrases.direction_at.Goals as goal

pub returns-in_default : goal.returns-in_default
returns-in_default c = no_word (kinds c.args.tokens.now) (rw c.in_default.is at c.side_at.ensures)

pub returns-in-Some-joined_at : goal.returns-in-Some-joined_at
returns-in-Some-joined_at c =
    two_words (kinds c.args.tokens.now) (kinds c.in-Some.rest.now) (kinds c.in-Some-joined_at.rest.now) c.in-Some.first c.in-Some-joined_at.direction (rw c.in-Some.is at c.side_at.ensures) (rw c.in-Some-joined_at.is at c.joined_at.ensures)

pub returns-in-None : goal.returns-in-None
returns-in-None c =
    rw c.one_side.ensures (one_word (kinds c.args.tokens.now) (kinds c.in-Some.rest.now) c.in-Some.first (rw c.in-Some.is at c.side_at.ensures) (rw c.in-None.is at c.joined_at.ensures))
