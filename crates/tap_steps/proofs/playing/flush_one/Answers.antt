use Rattle.std.proofs.lemmas.Result.{on_ok_weaker}
use Rattle.listener.specs.PlainList as P
use Rattle.tap_steps.proofs.Counting.{one_set}
use Rattle.tap_steps.proofs.playing.flush_one.Goals as goal

pub returns : goal.returns
returns c = on_ok_weaker c.flush.result (λ e. one_set c.args.l P.Flush c.args.watched.now.items c.index_mut-one.result.now c.flush.new.self c.requires c.index_mut-one.ensures.value e) c.flush.ensures
