use Rattle.std.proofs.Common.{ap}
use Rattle.filterlang.specs.Words.{signs, stands}
use Rattle.filterlang.specs.Finding.{entries_of}
use Rattle.filterlang.proofs.Entries.{found_in}
use Rattle.filterlang.proofs.Within.{sign_within}
use Rattle.filterlang.proofs.lexer.words.sign_at.Goals as goal

pub returns-clause-value : goal.returns-clause-value
unfolding signs
returns-clause-value c = found_in (stands c.args.text.now) c.as_slice.result.now signs _ c.leading_sign.ensures (ap entries_of c.as_slice.ensures)

pub returns-clause-within : goal.returns-clause-within
unfolding signs
returns-clause-within c = rw (found_in (stands c.args.text.now) c.as_slice.result.now signs _ c.leading_sign.ensures (ap entries_of c.as_slice.ensures)) (sign_within c.args.text.now)
