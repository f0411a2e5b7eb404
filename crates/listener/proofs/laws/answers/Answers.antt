use Rattle.listener.proofs.Events.{answers_right, answers_legal}
use Rattle.listener.proofs.laws.answers.Goals as goal

pub returns-clause-is_right : goal.returns-clause-is_right
returns-clause-is_right c = answers_right

pub returns-clause-legal : goal.returns-clause-legal
returns-clause-legal c = answers_legal
