use Rattle.handover.proofs.stand.Stand.take.Given as goal

abbrev pub ghost-rotate : goal.ghost-rotate
ghost-rotate g a = g.message

abbrev pub ghost-keep : goal.ghost-keep
ghost-keep g a = g.message

abbrev pub ghost-hand_over : goal.ghost-hand_over
ghost-hand_over g a = g.message
