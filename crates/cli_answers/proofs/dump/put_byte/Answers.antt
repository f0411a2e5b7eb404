use Rattle.std.proofs.Common.{arith, false, rules, append_assoc}
use Rattle.std.proofs.lemmas.Fmt.{hex_byte}
use Rattle.std.proofs.lemmas.Grind.{common_steps}
use Rattle.cli_answers.specs.Dumps.{byte_digits, group_text}
use Rattle.cli_answers.proofs.dump.put_byte.Goals as goal

pub returns-then-begins : goal.returns-then-begins
unfolding group_text byte_digits
returns-then-begins c = search (rules, hex_byte false c.args.byte)

pub returns-else-begins : goal.returns-else-begins
unfolding group_text byte_digits
returns-else-begins c = search (rules, hex_byte false c.args.byte)
