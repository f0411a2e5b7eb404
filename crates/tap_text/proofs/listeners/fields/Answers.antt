use Rattle.line_text.proofs.Cuts.{if_none}
use Rattle.tap_text.proofs.Fielded.{HasNoFields, one_word}
use Rattle.tap_text.proofs.listeners.fields.Goals as goal

pub returns-in_err-snap-clause-none : goal.returns-in_err-snap-clause-none
returns-in_err-snap-clause-none c = if_none _ (HasNoFields c.args.line.now) (one_word c.args.line.now c.in_err-snap.ensures.none)
