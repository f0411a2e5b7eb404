use Rattle.std.proofs.Common.{◌≡◌, ℕ, ◌+◌, ◌-◌, ◌<◌, ◌≤◌, List, ◌++◌, length}
use Rattle.bpfvm.specs.declared.tracing.Executed.{Executed}
use Rattle.bpfvm.specs.Machine.{beginning}
use Rattle.bpfvm.specs.Next.{with_memory}
use Rattle.bpfvm.specs.Traces.{Runs}
use Rattle.bpfvm.proofs.counting.count_instructions.Given as goal

abbrev pub invariant-loop-passed : goal.invariant-loop-passed
invariant-loop-passed l = record {
  inside : l.place < length l.insns;
  few : l.count ≤ l.place + 1;
  front : (executed : List Executed) × (length executed + 1 ≡ l.count) × ((others : List Executed) (n : ℕ)
      → Runs l.insns l.packet l.wire (record { place = l.place; registers = with_memory l.registers l.memory }) others n
      → Runs l.insns l.packet l.wire beginning (executed ++ others) n);
}

abbrev pub decreases-loop-passed : goal.decreases-loop-passed
decreases-loop-passed l = length l.insns - l.place
