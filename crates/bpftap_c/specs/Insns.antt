-- Instructions as C has them.
use Rattle.std.specs.Prelude.{List, map}
use Rattle.bpfvm.specs.declared.insn.Insn.{Insn}
use Rattle.bpftap_c.specs.declared.insns.BpftapInsn.{BpftapInsn}

abbrev pub insn_of : BpftapInsn → Insn
insn_of i = record { code = i.code; jt = i.jt; jf = i.jf; k = i.k }

abbrev pub insns_of : List BpftapInsn → List Insn
insns_of insns = map insn_of insns
