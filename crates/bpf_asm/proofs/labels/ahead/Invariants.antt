use Rattle.std.proofs.Common.{◌≡◌, ◌≤◌, drop}
use Rattle.bpf_asm.specs.Assembly.{ahead}
use Rattle.bpf_asm.proofs.Insns.{past}
use Rattle.bpf_asm.proofs.labels.ahead.Given as goal

abbrev pub invariant-loop-line : goal.invariant-loop-line
invariant-loop-line l = record {
  so_far : ahead l.label l.fn.lines ≡ past l.passed (ahead l.label (drop l.line-index l.fn.lines));
  few : l.passed ≤ l.line-index;
}
