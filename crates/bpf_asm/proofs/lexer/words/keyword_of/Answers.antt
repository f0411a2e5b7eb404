use Rattle.std.proofs.Common.{ap}
use Rattle.bpf_asm.specs.Words.{keywords}
use Rattle.bpf_asm.proofs.Entries.{entries_of, found_in}
use Rattle.bpf_asm.proofs.lexer.words.keyword_of.Goals as goal

pub returns : goal.returns
unfolding keywords
returns c = found_in c.args.word.now c.as_slice.result.now keywords _ c.find_word.ensures (ap entries_of c.as_slice.ensures)
