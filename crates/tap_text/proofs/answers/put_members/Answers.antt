use Rattle.std.specs.Prelude.{◌++◌, codes}
use Rattle.std.proofs.Common.{ap}
use Rattle.tap_text.specs.Members.{flush_members, read_members}
use Rattle.tap_text.proofs.Putting.{behind}
use Rattle.tap_text.proofs.answers.put_members.Goals as goal

pub returns-in-Flushed : goal.returns-in-Flushed
returns-in-Flushed c =
    rw c.in-Flushed.is (behind _ _ _ _ _ c.write-in-Flushed.ensures.bytes (ap (λ x. codes "\"action\":\"flush\"," ++ flush_members x) c.flush_end.ensures))

pub returns-in-Read : goal.returns-in-Read
returns-in-Read c =
    rw c.in-Read.is (behind _ _ _ _ _ c.write-in-Read.ensures.bytes (ap (λ x. codes "\"action\":\"read\"," ++ read_members x) c.read_end.ensures))

pub returns-in-Closed : goal.returns-in-Closed
returns-in-Closed c = rw c.in-Closed.is c.write-in-Closed.ensures.bytes
