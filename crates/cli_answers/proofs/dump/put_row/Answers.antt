use Rattle.std.proofs.Common.{arith, append_assoc}
use Rattle.std.proofs.lemmas.Grind.{common_steps}
use Rattle.cli_answers.specs.Dumps.{row_text}
use Rattle.cli_answers.proofs.dump.put_row.Goals as goal

pub returns : goal.returns
unfolding row_text
returns c = grind (arith, common_steps, append_assoc)
