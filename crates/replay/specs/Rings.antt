-- Which ring an end is of.
use Rattle.std.specs.declared.alloc.Global.{Global}
use Rattle.rtrb.specs.Shared.{Names}
use Rattle.rtrb.specs.declared.AnyItems.{AnyItems}
use Rattle.rtrb.specs.declared.end.End.{End}
use Rattle.listener.specs.Buffers.{Filled}
use denote.RawPtr.{Ptr}

-- a ring, by what its two ends share
pub record Ring : Type 0 where
  pub words : Ptr
  pub slots : Ptr
  pub names : Names
  pub heap : Global

abbrev pub ring_of : End Filled Global AnyItems → Ring
ring_of e = record { words = e.words; slots = e.slots; names = e.names; heap = e.heap }
