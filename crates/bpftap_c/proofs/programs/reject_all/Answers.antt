use Rattle.bpftap_c.proofs.Rejecting.{is_valid}
use Rattle.bpftap_c.proofs.programs.reject_all.Goals as goal

pub unwrap-requires : goal.unwrap-requires
unwrap-requires c = c.new.ensures.valid.1 is_valid
