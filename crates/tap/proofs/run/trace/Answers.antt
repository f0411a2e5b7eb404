use Rattle.tap.proofs.Headline.{replays_by, traces_by}
use Rattle.tap.proofs.run.trace.Goals as goal

pub returns-clause-tells : goal.returns-clause-tells
returns-clause-tells c =
    replays_by c.answers.ensures.legal c.looking_back.ensures c.fitting.ensures _ _ _ _ _ _ _ c.in_ok-playlist.ensures.ok _ c.in_ok-reports.ensures.reports

pub returns-clause-answers : goal.returns-clause-answers
returns-clause-answers c =
    traces_by c.answers.ensures.legal _ _ _ _ _ _ c.in_ok-playlist.ensures.ok _ c.in_ok-reports.ensures.answers
