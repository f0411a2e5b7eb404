use Rattle.std.proofs.Common.{sym, ◌∙◌, rules}
use Rattle.filter_diagrams.proofs.States.{spots_same, state-same, word-same}
use Rattle.filter_diagrams.proofs.spots.Spot.is.Goals as goal

pub returns-then-self-other : goal.returns-then-self-other
returns-then-self-other c = λ yes'.
    spots_same c.args.self.now c.args.other.now (search rules) (state-same _ c.args.self.now.state c.args.other.now.state (λ x y e. word-same x y e) (sym c.eq.ensures ∙ yes'))
