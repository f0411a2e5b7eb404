use Rattle.filtergen_code.proofs.code.Code.emit_ip_guard.Goals as goal

pub emit_ip_split-requires : goal.emit_ip_split-requires
emit_ip_split-requires c = rw c.at.ensures c.requires

pub returns : goal.returns
returns c = record {
  test = rw c.at.ensures at c.emit_ip_split.ensures.test;
  places = rw c.at.ensures at c.emit_ip_split.ensures.places;
}
