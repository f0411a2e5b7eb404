use Rattle.std.proofs.Common.{◌-◌, ◌^◌, ℕ, List, [], All, Some, vec_len}
use Rattle.savefile.specs.Reader.{HasGiven}
use Rattle.savefile.specs.Savefile.{IsWritable}
use Rattle.savefile.specs.declared.header.Header.{Header}
use Rattle.savefile.proofs.reading.read_packets.Given as goal

-- a reader that had given nothing has given the packets so far, and each may be written
abbrev pub invariant-loop-packets : goal.invariant-loop-packets
invariant-loop-packets l = record {
  given : (text : List ℕ) (header : Header) → HasGiven (λ s. Some s.now) (Some text) header [] l.fn.reader → HasGiven (λ s. Some s.now) (Some text) header l.packets.items l.reader;
  writable : All IsWritable l.packets.items;
}

abbrev pub decreases-loop-packets : goal.decreases-loop-packets
decreases-loop-packets l = 2 ^ 64 - vec_len l.packets
