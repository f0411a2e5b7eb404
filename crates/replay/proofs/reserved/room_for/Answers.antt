use Rattle.std.proofs.Common.{length, ap}
use Rattle.replay.proofs.reserved.room_for.Goals as goal

pub returns : goal.returns
returns g c =
    let played = c.in_ok-played.ensures in
    let told = c.in_ok-all_threads.ensures in record {
      none = (ap length played.empty.0, ap length played.empty.1, ap length told.empty.0, ap length told.empty.1);
      sources = played.enough.0;
      ends = played.enough.1;
      all_threads = told.enough.0;
      reports = told.enough.1;
    }
