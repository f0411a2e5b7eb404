use Rattle.std.proofs.Common.{arith}
use Rattle.listener.specs.Decoded.{messages_in}
use Rattle.listener.proofs.Rooms.{room_least}
use Rattle.listener.proofs.Decoding.{room_is}
use Rattle.listener.proofs.buffer.Buffer.len.Goals as goal

-- each of the messages takes 32 bytes of the capacity at least
pub returns-clause-bound : goal.returns-clause-bound
returns-clause-bound c =
    let b = c.self.invariant in
    omega (arith, room_least (messages_in c.self.inside.bytes.items), room_is c.self.inside.bytes.items b.records, b.counted, b.within, b.most)
