use Rattle.std.proofs.Common.{ap}
use Rattle.filterlang.specs.Words.{words, stands_whole}
use Rattle.filterlang.specs.Finding.{entries_of}
use Rattle.filterlang.proofs.Entries.{found_in}
use Rattle.filterlang.proofs.Within.{word_within}
use Rattle.filterlang.proofs.lexer.words.word_at.Goals as goal

pub returns-clause-value : goal.returns-clause-value
unfolding words
returns-clause-value c = found_in (stands_whole c.args.text.now) c.as_slice.result.now words _ c.whole_word.ensures (ap entries_of c.as_slice.ensures)

pub returns-clause-within : goal.returns-clause-within
unfolding words
returns-clause-within c = rw (found_in (stands_whole c.args.text.now) c.as_slice.result.now words _ c.whole_word.ensures (ap entries_of c.as_slice.ensures)) (word_within c.args.text.now)
