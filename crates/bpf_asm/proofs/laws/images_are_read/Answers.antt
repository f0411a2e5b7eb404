use Rattle.bpf_asm.proofs.Images.{image_read, image_assembly}
use Rattle.bpf_asm.proofs.Cleared.{cleared_valid, verdict_kept}
use Rattle.bpf_asm.proofs.laws.images_are_read.Goals as goal

pub returns-clause-read : goal.returns-clause-read
returns-clause-read c = image_read

pub returns-clause-assembly : goal.returns-clause-assembly
returns-clause-assembly c = image_assembly

pub returns-clause-valid : goal.returns-clause-valid
returns-clause-valid c = cleared_valid

pub returns-clause-alike : goal.returns-clause-alike
returns-clause-alike c = verdict_kept
