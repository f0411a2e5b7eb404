use Rattle.line_text.proofs.Added.{line_adds}
use Rattle.line_text.proofs.line.Line.write_fmt.Goals as goal
use Rattle.line_text.proofs.line.Line.write_fmt.Goals.{in-Ok, in-Err}

pub returns : goal.returns
returns g c = elim c.match-write.branch [
  | in-Ok w ↦ rw (w.result-is, ← c.self.view_is) (line_adds _ _ _ (rw w.in-Ok.is at c.write.ensures.writes))
  | in-Err w ↦ rw w.result-is tt
]
