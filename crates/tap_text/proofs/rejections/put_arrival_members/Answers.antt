use Rattle.tap_text.proofs.Rejecting.{one_more}
use Rattle.tap_text.proofs.rejections.put_arrival_members.Goals as goal

pub returns : goal.returns
returns c = one_more _ _ _ _ _ _ c.in_ok-put_place.ensures c.put_rejection_members.ensures
