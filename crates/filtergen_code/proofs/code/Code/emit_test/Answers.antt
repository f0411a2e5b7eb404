use Rattle.bpfvm.specs.Machine.{holds}
use Rattle.filtergen_code.specs.Insns.{load_insn}
use Rattle.filtergen_code.specs.Emission.{comparison_of, field_of}
use Rattle.filtergen_code.proofs.Growing.{load-sound}
use Rattle.filtergen_code.proofs.Runs.{load-effect}
use Rattle.filtergen_code.proofs.Deciding.{decides-tested}
use Rattle.filtergen_code.proofs.code.Code.emit_test.Goals as goal

pub emit-requires-clause-sound : goal.emit-requires-clause-sound
emit-requires-clause-sound c = rw c.load_insn-load.ensures (load-sound c.args.field _)

pub returns : goal.returns
returns c =
    let v = c.args.value in
    let passed = c.exits_after-exits.ensures in
    rw (c.len.ensures.value, c.emit.ensures, c.load_insn-load.ensures)
    (decides-tested (load_insn c.args.field) (field_of c.args.field) (λ n. holds (comparison_of c.args.jump) n v) (load-effect c.args.field) (rw c.load_insn-load.ensures at passed.yes) (rw c.load_insn-load.ensures at passed.no) c.emit_branch.ensures)
