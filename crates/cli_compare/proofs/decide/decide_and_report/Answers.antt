use Rattle.cli_compare.proofs.Handing.{answer-handed}
use Rattle.cli_compare.proofs.decide.decide_and_report.Goals as goal

pub returns-clause-pair : goal.returns-clause-pair
returns-clause-pair g c = (c.answer-answer.result, c.answer-answer.ensures.holds, (c.answer-answer.ensures.silent, c.answer-answer.ensures.unanswered, c.answer-answer.ensures.printed, c.answer-answer.ensures.fault), c.report_and_write.ensures.status)

pub returns-clause-decides : goal.returns-clause-decides
returns-clause-decides g c tells = (c.answer-answer.result, c.answer-answer.ensures.holds, (c.answer-answer.ensures.silent, c.answer-answer.ensures.unanswered, c.answer-answer.ensures.printed, c.answer-answer.ensures.fault), c.report_and_write.ensures.told, c.report_and_write.ensures.writes tells)

pub returns-clause-handed_on : goal.returns-clause-handed_on
returns-clause-handed_on g c none answers = answer-handed c.args.words.now.output c.answer-answer.result _ _ c.report_and_write.ensures.status answers (c.answer-answer.ensures.handed_on none)
