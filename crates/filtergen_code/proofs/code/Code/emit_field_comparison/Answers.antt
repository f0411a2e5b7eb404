use Rattle.filter_meaning.specs.Meaning.{compared}
use Rattle.filtergen_code.specs.Insns.{load_insn}
use Rattle.filtergen_code.specs.Emission.{field_of}
use Rattle.filtergen_code.proofs.Growing.{load-sound}
use Rattle.filtergen_code.proofs.Runs.{load-effect}
use Rattle.filtergen_code.proofs.Deciding.{decides-tested}
use Rattle.filtergen_code.proofs.code.Code.emit_field_comparison.Goals as goal

pub emit-requires-clause-sound : goal.emit-requires-clause-sound
emit-requires-clause-sound c = rw c.load_insn-load.ensures (load-sound c.args.field _)

pub returns : goal.returns
returns c =
    let n = c.args.n in
    let passed = c.exits_after-exits.ensures in
    rw (c.len.ensures.value, c.emit.ensures, c.load_insn-load.ensures)
    (decides-tested (load_insn c.args.field) (field_of c.args.field) (λ m. compared c.args.comparison m n) (load-effect c.args.field) (rw c.load_insn-load.ensures at passed.yes) (rw c.load_insn-load.ensures at passed.no) c.emit_comparison.ensures)
