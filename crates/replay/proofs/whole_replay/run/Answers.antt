use Rattle.std.proofs.Common.{length, arith, ap}
use Rattle.std.proofs.lemmas.Slice.Zip.{AllZip-long}
use Rattle.replay.specs.Setups.{IsPreparedFor}
use Rattle.replay.proofs.whole_replay.run.Goals as goal

pub replay_prepared-requires-clause-few : goal.replay_prepared-requires-clause-few
replay_prepared-requires-clause-few g c =
    let few = c.in_ok-check_all.ensures.stand.number.0 in
    let same = ap length c.as_slice.ensures.value in
    let prepared = AllZip-long IsPreparedFor _ _ c.in_ok-all.ensures.prepared in omega (arith, few, same, prepared)

pub returns-clause-replayed : goal.returns-clause-replayed
returns-clause-replayed g c = c.in_ok-replay_prepared.ensures c.args.interfaces.items c.in_ok-all.ensures.prepared
