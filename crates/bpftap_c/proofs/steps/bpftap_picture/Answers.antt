use Rattle.bpftap_c.proofs.Playing.{puts}
use Rattle.bpftap_c.proofs.steps.bpftap_picture.Goals as goal

pub returns : goal.returns
returns c = puts c.picture-picture.result _ _ _ c.picture-picture.ensures.ok c.picture-picture.ensures.err c.put_played.ensures.text c.put_played.ensures.none
