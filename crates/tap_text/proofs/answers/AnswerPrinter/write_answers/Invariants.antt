use Rattle.std.proofs.Common.{suc, drop}
use Rattle.tap_text.specs.Answers.{answers_from}
use Rattle.tap_text.proofs.Answering.{IsSoFar}
use Rattle.tap_text.proofs.answers.AnswerPrinter.write_answers.Given as goal

-- the steps before were written, and these are left
abbrev pub invariant-loop-i : goal.invariant-loop-i
invariant-loop-i g l =
    IsSoFar (g.O.Write.contents l.fn.out) (g.O.Write.contents l.out) (answers_from l.form 1 l.steps l.fn.self.packets.now l.fn.self.cursors.items)
    (answers_from l.form (suc l.i) (drop l.i l.steps) l.self.packets.now l.self.cursors.items)
