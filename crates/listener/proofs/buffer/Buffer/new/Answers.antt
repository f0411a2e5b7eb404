use Rattle.std.proofs.Common.{sym, ap, ◌∙◌, subst, arith, length}
use Rattle.listener.specs.Buffers.{filled}
use Rattle.listener.specs.Decoded.{AreRecords, messages_in}
use Rattle.listener.proofs.Decoding.{no_records, no_messages}
use Rattle.listener.proofs.buffer.Buffer.new.Goals as goal

pub invariant_of-result : goal.invariant_of-result
invariant_of-result c = record { reserved = c.in_ok-with_capacity.ensures.capacity; within = omega (arith, ap length c.in_ok-with_capacity.ensures.items); most = omega arith; records = subst AreRecords (sym c.in_ok-with_capacity.ensures.items) no_records; counted = sym (ap length (ap messages_in c.in_ok-with_capacity.ensures.items ∙ no_messages)) }

pub returns-clause-ok : goal.returns-clause-ok
returns-clause-ok c = ap (filled c.args.capacity) (ap messages_in c.in_ok-with_capacity.ensures.items ∙ no_messages)
