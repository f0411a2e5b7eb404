use Rattle.tap.proofs.Headline.{replays_by}
use Rattle.tap.proofs.run.replay.Goals as goal

pub returns-clause-tells : goal.returns-clause-tells
returns-clause-tells c = (
  _,
  replays_by c.answers.ensures.legal c.looking_back.ensures c.fitting.ensures _ _ _ _ _ _ _ c.in_ok-playlist.ensures.ok _ c.in_ok-reports.ensures,
)
