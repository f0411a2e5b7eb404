use Rattle.filtergen_code.proofs.Runs.{extends-both}
use Rattle.filtergen_code.proofs.Leading.{relays-later, relays-after}
use Rattle.filtergen_code.proofs.code.Code.emit_relays.Goals as goal

pub returns-clause-extends : goal.returns-clause-extends
returns-clause-extends c = extends-both c.emit_entry_relays-no.ensures.extends c.emit_entry_relays-yes.ensures.extends

pub returns-clause-relays : goal.returns-clause-relays
returns-clause-relays c = record {
  yes = relays-after c.requires.1.0 c.emit_entry_relays-no.ensures.extends c.emit_entry_relays-yes.ensures.relays;
  no = relays-later c.emit_entry_relays-no.ensures.relays c.emit_entry_relays-yes.ensures.extends;
}
