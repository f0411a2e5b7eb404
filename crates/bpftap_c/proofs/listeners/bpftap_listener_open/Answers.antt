use Rattle.std.proofs.Common.{◌≡◌, ◌++◌, length, inl, inr, false, refl, arith}
use Rattle.listener.specs.declared.fault.OpenFault.{OpenFault}
use Rattle.listener.specs.declared.fault.OpenFault.TheVariants.{BadSnap, BadCapacity, NoMemory}
use Rattle.listener.specs.Listening.{RefusesOpen}
use Rattle.listener.specs.PlainList.{plain}
use Rattle.listener.proofs.Decoding.{no_messages, no_records}
use Rattle.bpftap_c.specs.declared.listeners.BpftapListener.{BpftapListener}
use Rattle.bpftap_c.specs.Buffers.{capacity}
use Rattle.bpftap_c.specs.Listeners.{reset, IsListener, RefusesListener}
use Rattle.bpftap_c.proofs.listeners.bpftap_listener_open.Goals as goal

-- a listener without messages that is closed
closed_listener : (l : BpftapListener) → IsListener (reset l 1)
closed_listener l = record {
  store = record { within = omega arith; records = no_records };
  hold = record { within = omega arith; records = no_records };
  if_open = λ now. absurd (omega (arith, now));
}

refuses : (l : BpftapListener) (fault : OpenFault) → RefusesOpen l.snap (capacity l.store) fault → (fault ≡ NoMemory → ⊥) → RefusesListener l fault
refuses l BadSnap only other = inl only
refuses l BadCapacity only other = inl only
refuses l NoMemory only other = absurd (other refl)

pub returns : goal.returns
returns c =
    let range = rw c.reset.ensures at c.in_default.ensures.in_range in
    let same = rw c.reset.ensures at c.if-listener.false in
    rw c.reset.ensures (inl (
      refl,
      record {
        store = record { within = omega arith; records = no_records };
        hold = record { within = omega arith; records = no_records };
        if_open = λ now. record { same = same; range = range; matched = omega arith; dropped = omega arith };
      },
      (λ i. plain (no_messages i ++ no_messages i) (length (no_messages i)) 0 0 0 false),
      refl,
    ))

pub returns-in-Err : goal.returns-in-Err
returns-in-Err c =
    let l = c.args.listener.now in
    let only = rw c.reset.ensures at c.in-Err.ensures.only in
    rw c.reset.ensures (inr (c.in-Err.fault, refuses l c.in-Err.fault only c.in-Err.ensures.no_memory, c.code_of.ensures, closed_listener l, refl))

pub returns-then-listener : goal.returns-then-listener
returns-then-listener c =
    let range = rw c.reset.ensures at c.in_default.ensures.in_range in
    let other = rw c.reset.ensures at c.if-listener.true in
    rw c.reset.ensures (inr (BadCapacity, inr (refl, range, other), c.code_of-then-listener.ensures, closed_listener c.args.listener.now, refl))
