use Rattle.std.proofs.Common.{take}
use Rattle.std.specs.Io.KnownBytes.{Appends}
use Rattle.tap_text.specs.Printed.{messages_in}
use Rattle.tap_text.proofs.report.write_messages.Given as goal

abbrev pub invariant-loop-message : goal.invariant-loop-message
invariant-loop-message g l = Appends (g.O.Write.contents l.fn.out) (g.O.Write.contents l.out) (messages_in l.head.form l.head.l l.part (take l.message-index l.messages))
