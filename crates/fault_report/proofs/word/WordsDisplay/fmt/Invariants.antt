use Rattle.std.proofs.Common.{take}
use Rattle.std.specs.Fmt.{HasWritten, IsPlainFormatter}
use Rattle.fault_report.specs.Words.{words_text}
use Rattle.fault_report.proofs.word.WordsDisplay.fmt.Given as goal

abbrev pub invariant-loop-word : goal.invariant-loop-word
invariant-loop-word g l =
    IsPlainFormatter l.initial.f → HasWritten g.W.Write.write_str_gives l.initial.f (words_text (take l.word-index l.self.0.now)) l.f
