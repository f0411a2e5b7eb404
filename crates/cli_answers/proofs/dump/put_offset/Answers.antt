use Rattle.std.proofs.Common.{false, rules}
use Rattle.std.specs.Fmt.{digits}
use Rattle.cli_answers.specs.Dumps.{offset_text}
use Rattle.cli_answers.proofs.Rows.{four_padded}
use Rattle.cli_answers.proofs.dump.put_offset.Goals as goal

pub returns : goal.returns
unfolding offset_text
returns c = search (rules, four_padded (digits 16 false c.args.at))
