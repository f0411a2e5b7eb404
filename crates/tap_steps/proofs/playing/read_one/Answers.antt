use Rattle.std.proofs.lemmas.Result.{on_ok_weaker}
use Rattle.listener.specs.PlainList as P
use Rattle.tap_steps.proofs.Counting.{one_set}
use Rattle.tap_steps.proofs.playing.read_one.Goals as goal

pub returns : goal.returns
returns c = on_ok_weaker c.read.result (λ e. one_set c.args.l P.Read c.args.watched.now.items c.index_mut-one.result.now c.read.new.self c.requires c.index_mut-one.ensures.value e) c.read.ensures
