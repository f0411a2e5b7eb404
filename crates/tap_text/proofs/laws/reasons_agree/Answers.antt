use Rattle.tap_text.proofs.Agreeing.{flushes-agree, reads-agree}
use Rattle.tap_text.proofs.laws.reasons_agree.Goals as goal

pub returns-clause-flushes : goal.returns-clause-flushes
returns-clause-flushes c = flushes-agree

pub returns-clause-reads : goal.returns-clause-reads
returns-clause-reads c = reads-agree
