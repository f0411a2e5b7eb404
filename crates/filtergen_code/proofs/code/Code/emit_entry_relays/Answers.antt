use Rattle.filtergen_code.proofs.Leading.{relays-near}
use Rattle.filtergen_code.proofs.code.Code.emit_entry_relays.Goals as goal

pub returns-clause-relays : goal.returns-clause-relays
returns-clause-relays c =
    relays-near c.args.entry c.emit_relay-any.result c.place_in_reach.result c.place_in_reach-2.result c.place_in_reach-3.result c.args.self.now c.emit_relay-any.new.self c.requires.entry c.emit_relay-any.ensures c.place_in_reach.ensures c.place_in_reach-2.ensures c.place_in_reach-3.ensures
