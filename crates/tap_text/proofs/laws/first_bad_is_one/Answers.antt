use Rattle.tap_text.specs.Listeners.{IsListenerLine}
use Rattle.tap_text.specs.Script.{IsStepLine}
use Rattle.tap_text.proofs.FirstBad.{first_bad_one}
use Rattle.tap_text.proofs.laws.first_bad_is_one.Goals as goal

pub returns-clause-listeners : goal.returns-clause-listeners
returns-clause-listeners c = first_bad_one IsListenerLine

pub returns-clause-script : goal.returns-clause-script
returns-clause-script c = first_bad_one IsStepLine
