use Rattle.tap_text.specs.Listeners.{IsListenerLine}
use Rattle.tap_text.specs.Script.{IsStepLine}
use Rattle.line_text.proofs.Reading.{none_bad}
use Rattle.tap_text.proofs.laws.none_is_bad.Goals as goal

pub returns-clause-listeners : goal.returns-clause-listeners
returns-clause-listeners c = none_bad IsListenerLine

pub returns-clause-script : goal.returns-clause-script
returns-clause-script c = none_bad IsStepLine
