use Rattle.filtergen_code.specs.Insns.{plain_insn}
use Rattle.filtergen_code.proofs.Growing.{sound-alone}
use Rattle.filtergen_code.proofs.code.Code.emit_plain.Goals as goal

pub emit-requires-clause-sound : goal.emit-requires-clause-sound
emit-requires-clause-sound c = rw c.plain_insn.ensures (sound-alone (plain_insn c.args.code c.args.k) _ c.requires.sound)
