use Rattle.std.proofs.Common.{ap, ◌∙◌}
use Rattle.savefile.specs.Reader.{Reading}
use Rattle.savefile.proofs.reader.Reader.next.Goals as goal

pub returns-in-Err-clause-idle : goal.returns-in-Err-clause-idle
returns-in-Err-clause-idle g c = λ p after is.
    ap (λ (r : Reading g.row.R.Denot). r.source) c.self.view_is ∙ c.in_ok-advance.ensures.idle p after is
