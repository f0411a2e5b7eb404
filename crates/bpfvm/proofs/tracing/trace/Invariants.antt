use Rattle.std.proofs.Common.{◌≡◌, ℕ, ◌-◌, ◌<◌, List, ◌++◌, drop, length}
use Rattle.bpfvm.specs.declared.tracing.Executed.{Executed}
use Rattle.bpfvm.specs.Machine.{answer, verdict, beginning}
use Rattle.bpfvm.specs.Next.{with_memory}
use Rattle.bpfvm.specs.Traces.{Runs}
use Rattle.bpfvm.proofs.tracing.trace.Given as goal

abbrev pub invariant-loop-passed : goal.invariant-loop-passed
invariant-loop-passed l = record {
  inside : l.place < length l.insns;
  answers : answer (drop l.place l.insns) l.packet l.wire 0 (with_memory l.registers l.memory) ≡ verdict l.insns l.packet l.wire;
  front : (others : List Executed) (n : ℕ)
      → Runs l.insns l.packet l.wire (record { place = l.place; registers = with_memory l.registers l.memory }) others n
      → Runs l.insns l.packet l.wire beginning (l.executed.items ++ others) n;
}

abbrev pub decreases-loop-passed : goal.decreases-loop-passed
decreases-loop-passed l = length l.insns - l.place
