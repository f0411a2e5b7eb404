-- The program that `bpftap_program_init` leaves can be lent to any number of calls of `bpftap_program_run`.
use Rattle.std.proofs.Common.{List}
use seplogic.Ra.Ura.{Ura}
use base.Fraction.{full_share}
use types.Logic.{Logic}
use denote.RawPtr.{Ptr, lies_at}
use denote.Struct.Lending.{Lends, Lends-lies, lent_at}
use Rattle.bpfvm.specs.declared.insn.Insn.{Insn}
use Rattle.bpfvm.specs.contracts.program.Program.{the_row as R}
use Rattle.bpfvm.proofs.program.Program.TheLaws as laws

pub lends_program : {M : Type 1} {𝓤 : Ura M} (𝓛 : Logic 𝓤) (at : Ptr) (insns : List Insn)
    → Lends 𝓛 (lies_at R full_share at insns) (lent_at R at insns) R.lives
lends_program 𝓛 at insns = Lends-lies 𝓛 R R.lives at insns (laws.the_row_laws.shares 𝓛 insns)
