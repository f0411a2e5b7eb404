use Rattle.std.proofs.Common.{drop, take}
use Rattle.std.specs.Fmt.{HasWritten, IsPlainFormatter}
use Rattle.std.specs.List.{flat_map}
use Rattle.fault_report.specs.Words.{further_number}
use Rattle.fault_report.proofs.Numbers.{IsBegun}
use Rattle.fault_report.proofs.word.NumbersDisplay.fmt.Given as goal

-- the numbers so far, and whether there is one
abbrev pub invariant-loop-word : goal.invariant-loop-word
invariant-loop-word g l =
    let so_far = flat_map further_number (take l.word-index l.self.0.now) in
    IsBegun l.is_first so_far × (IsPlainFormatter l.initial.f → HasWritten g.W.Write.write_str_gives l.initial.f (drop 1 so_far) l.f)
