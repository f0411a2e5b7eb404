use Rattle.std.proofs.Common.{refl}
use Rattle.savefile.proofs.Given.{gives_packet}
use Rattle.savefile.proofs.reader.Reader.advance_ahead.Goals as goal

pub returns-clause-packet : goal.returns-clause-packet
returns-clause-packet g c =
    rw (← c.self.view_is) (λ start header packets given _.
    gives_packet g.R.Source.left start header packets _ _ given refl refl refl refl (c.pass_record.ensures.packet (cc)))
