-- What a writer thread left in the ring of what is read.
use Rattle.std.specs.Prelude.{◌≡◌, ℕ, ◌++◌, length, Option, Some}
use Rattle.std.specs.declared.alloc.Global.{Global}
use Rattle.rtrb.specs.Ring.{all_sent, known_items, received}
use Rattle.rtrb.specs.declared.AnyItems.{AnyItems}
use Rattle.rtrb.specs.declared.consumer.Consumer.{Consumer}
use Rattle.rtrb.specs.declared.finished.Finished.{Finished}
use Rattle.listener.specs.Buffers.{Filled}

-- the ring's end was handed over, and this many buffers are left: all that were not popped
abbrev pub HasLeft : Option (Finished Filled Global AnyItems) → Consumer Filled Global AnyItems → ℕ → Type 0
HasLeft end ring left =
    (f : Finished Filled Global AnyItems) × (end ≡ Some f) × (received ring ++ known_items ring ≡ all_sent f) × (left ≡ length (known_items ring))
