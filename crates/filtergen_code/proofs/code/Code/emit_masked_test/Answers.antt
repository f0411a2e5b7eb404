use Rattle.std.proofs.Common.{◌==◌}
use Rattle.filtergen_code.specs.Insns.{load_insn}
use Rattle.filtergen_code.specs.Emission.{field_of}
use Rattle.filtergen_code.proofs.Growing.{load-sound, mask-sound}
use Rattle.filtergen_code.proofs.Runs.{load-effect}
use Rattle.filtergen_code.proofs.Deciding.{decides-masked}
use Rattle.filtergen_code.proofs.code.Code.emit_masked_test.Goals as goal

pub emit-requires-clause-sound : goal.emit-requires-clause-sound
emit-requires-clause-sound c = rw c.plain_insn.ensures (mask-sound c.args.mask _)

pub emit-requires-2-clause-sound : goal.emit-requires-2-clause-sound
emit-requires-2-clause-sound c = rw c.load_insn.ensures (load-sound c.args.field _)

pub returns : goal.returns
returns c =
    rw (c.len.ensures.value, c.emit-2.ensures, c.load_insn.ensures, c.emit.ensures, c.plain_insn.ensures)
    (decides-masked (load_insn c.args.field) c.args.mask (field_of c.args.field) (λ n. n == c.args.bits) (load-effect c.args.field) c.requires.1 c.emit_branch.ensures)
