use Rattle.cli_steps.proofs.steps.StepsReplay.play.Goals as goal

pub returns-in-Trace : goal.returns-in-Trace
returns-in-Trace g c = rw c.in-Trace.is (rw c.in-Trace.is at c.play_trace.ensures)

pub returns-in-Answers : goal.returns-in-Answers
returns-in-Answers g c = rw c.in-Answers.is (rw c.in-Answers.is at c.play_trace-in-Answers.ensures)
