use Rattle.std.proofs.Common.{◌≡◌, ◌∷◌}
use Rattle.tap_text.specs.Answers.{cursor}
use Rattle.tap_text.proofs.Rejecting.{next_arrived}
use Rattle.tap_text.proofs.answers.AnswerCursor.put_arrived.Goals as goal

pub returns : goal.returns
returns c =
    let inside = c.self.inside in
    let cut : inside.answers.now ≡ c.in-Some.answered.now ∷ c.in-Some.field-0-1.now = c.in-Some.ensures.cases.0 in
    next_arrived _ c.args.head.form c.args.head.n c.args.placed.now c.args.l (cursor inside.expr.now inside.capacity inside.held_since inside.answers.now) c.args.self.now _ _ _ _ _ _ c.answer_end.ensures
    c.self.view_is cut c.in_ok-put_reason.ensures c.in_ok-put_rejection.ensures c.push_str.ensures.bytes
