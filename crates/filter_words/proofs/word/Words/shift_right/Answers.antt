use Rattle.std.proofs.Common.{refl}
use Rattle.filter_bdd.proofs.Calls.{map-ok}
use Rattle.bpfvm.specs.Codes.{ShiftRight}
use Rattle.filter_words.specs.declared.shift.Shift.TheVariants.{Right}
use Rattle.filter_words.proofs.Values.{shift-calculates}
use Rattle.filter_words.proofs.word.Words.shift_right.Goals as goal

pub returns-clause-calculates : goal.returns-clause-calculates
returns-clause-calculates c =
    map-ok c.shift.result
    (λ w h. shift-calculates c.args.self.now.diagrams c.shift.new.self.diagrams ShiftRight Right c.args.word c.args.by w (λ n k. refl) h)
    c.shift.ensures.value
