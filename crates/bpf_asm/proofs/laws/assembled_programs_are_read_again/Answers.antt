use Rattle.bpf_asm.proofs.Images.{assembled_again}
use Rattle.bpf_asm.proofs.laws.assembled_programs_are_read_again.Goals as goal

pub returns : goal.returns
returns c = assembled_again
