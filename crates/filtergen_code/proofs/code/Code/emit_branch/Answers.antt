use Rattle.std.proofs.Common.{arith, ◌-◌, length, ◌≤◌, inl, inr}
use Rattle.filtergen_code.proofs.Growing.{branch-sound}
use Rattle.filtergen_code.proofs.Runs.{branch-chooses, reach-kept}
use Rattle.filtergen_code.proofs.code.Code.emit_branch.Goals as goal
use Rattle.filtergen_code.proofs.code.Code.emit_branch.Goals.{then-len-exits-gt-REACH, else-len-exits-gt-REACH}

-- the first exit stays within reach when the second one is brought near
within : (c : goal.After-len-3) → length c.emit_relay-yes.new.self - c.emit_relay-no.result ≤ 255
within c =
    reach-kept c.args.exits c.if-len-exits-gt-REACH.reach c.emit_relay-no.result c.emit_relay-yes.result c.args.self.now c.emit_relay-no.new.self c.emit_relay-yes.new.self c.emit_relay-no.ensures c.emit_relay-yes.ensures
    (elim c.if-len-exits-gt-REACH.branch [ then-len-exits-gt-REACH w ↦ inl w.reach-is | else-len-exits-gt-REACH w ↦ inr (w.reach-is, omega arith) ])

pub overflow_cast-jf : goal.overflow_cast-jf
overflow_cast-jf c = omega (arith, within c)

pub emit-requires-clause-sound : goal.emit-requires-clause-sound
emit-requires-clause-sound c =
    rw c.branch_insn.ensures (branch-sound c.args.jump c.args.operand c.emit_relay-yes.new.self _ _ (omega (arith, c.emit_relay-yes.ensures.here)) (omega (arith, c.emit_relay-no.ensures.here, c.emit_relay-yes.ensures.extends.longer)))

pub returns : goal.returns
returns c =
    rw (c.emit.ensures, c.branch_insn.ensures, c.len-2.ensures.value, c.len-3.ensures.value)
    (branch-chooses c.args.jump c.args.operand c.args.exits c.if-len-exits-gt-REACH.reach c.emit_relay-no.result c.emit_relay-yes.result c.args.self.now c.emit_relay-no.new.self c.emit_relay-yes.new.self c.requires.1 c.emit_relay-no.ensures c.emit_relay-yes.ensures)
