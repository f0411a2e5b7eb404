use Rattle.filtergen_trim.proofs.Reached.{none-count_marked, trimmed-within, trimmed-sound, trimmed-same, all-reached}
use Rattle.filtergen_trim.proofs.unreached.trim_unreached.Goals as goal

pub mark_reached-requires-clause-clear : goal.mark_reached-requires-clause-clear
mark_reached-requires-clause-clear c = none-count_marked 552

pub returns-clause-code : goal.returns-clause-code
returns-clause-code c = rw c.keep_marked.ensures (trimmed-sound _ _ c.requires.code c.mark_reached.ensures.marks)

pub returns-clause-shorter : goal.returns-clause-shorter
returns-clause-shorter c = rw c.keep_marked.ensures (trimmed-within _ _)

pub returns-clause-same : goal.returns-clause-same
returns-clause-same c = rw c.keep_marked.ensures (trimmed-same _ _ c.mark_reached.ensures.marks)

pub returns-clause-reached : goal.returns-clause-reached
returns-clause-reached c = rw c.keep_marked.ensures (all-reached _ _ c.mark_reached.ensures.marks)
