use Rattle.savefile.proofs.Lengths.{length-encoded, length-read}
use Rattle.savefile.proofs.laws.packets_take_room.Goals as goal

pub returns-clause-read : goal.returns-clause-read
returns-clause-read c = length-read

pub returns-clause-written : goal.returns-clause-written
returns-clause-written c = length-encoded
