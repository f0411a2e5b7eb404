use Rattle.std.proofs.Common.{refl}
use Rattle.savefile.specs.declared.header.Order.TheVariants.{Little, Big}
use Rattle.savefile.proofs.record.RecordHeader.read.Goals as goal

pub returns-in-Little-clause-err : goal.returns-in-Little-clause-err
returns-in-Little-clause-err c = rw c.in-Little.is (c.read_in.ensures.err Little refl)

pub returns-in-Big-clause-err : goal.returns-in-Big-clause-err
returns-in-Big-clause-err c = rw c.in-Big.is (c.read_in-in-Big.ensures.err Big refl)
