use Rattle.std.proofs.Common.{refl}
use Rattle.filter_bdd.proofs.Calls.{map-ok}
use Rattle.bpfvm.specs.Codes.{ShiftLeft}
use Rattle.filter_words.specs.declared.shift.Shift.TheVariants.{Left}
use Rattle.filter_words.proofs.Values.{shift-calculates}
use Rattle.filter_words.proofs.word.Words.shift_left.Goals as goal

pub returns-clause-calculates : goal.returns-clause-calculates
returns-clause-calculates c =
    map-ok c.shift.result
    (λ w h. shift-calculates c.args.self.now.diagrams c.shift.new.self.diagrams ShiftLeft Left c.args.word c.args.by w (λ n k. refl) h)
    c.shift.ensures.value
