use Rattle.line_text.proofs.Taking.{TakesPart-none}
use Rattle.cli_count.proofs.line.print_count.Goals as goal

pub returns-in-Err : goal.returns-in-Err
returns-in-Err g c = TakesPart-none _ _
