use Rattle.std.proofs.Common.{◌≡◌, take, subst, arith}
use Rattle.std.proofs.lemmas.List.{take_all}
use Rattle.std.specs.Fmt.{decimal}
use Rattle.std.specs.List.{AllByRecursion}
use Rattle.bpfvm.specs.Laws.{HasFields}
use Rattle.bpfvm.specs.Listing.{listing_of}
use Rattle.bpfvm.proofs.Written.{written-listing, fields-more, text-more}
use Rattle.bpfvm.proofs.listing.write_listing.Goals as goal

pub loop-insn-preserved : goal.loop-insn-preserved
loop-insn-preserved c =
    let insns = c.insns-insns.result.now in
    let place = c.loop-insn.insn-index in
    record {
      text = text-more _ _ (decimal _) insns place _ c.loop-insn-test.true c.loop-insn.invariant.text (c.in_ok-write_line.ensures.text);
      fields = fields-more insns place _ c.loop-insn-test.true c.loop-insn.invariant.fields c.write_line.ensures.fields;
    }

pub returns-clause-text : goal.returns-clause-text
unfolding listing_of
returns-clause-text c =
    let insns = c.insns-insns.result.now in
    let all : take c.loop-insn.insn-index insns ≡ insns = take_all c.loop-insn.insn-index insns (omega arith) in
    rw c.into_bytes.ensures.value (rw (all, c.insns-insns.ensures.value) at c.loop-insn.invariant.text)

pub returns-clause-read : goal.returns-clause-read
returns-clause-read c =
    let insns = c.insns-insns.result.now in
    let all : take c.loop-insn.insn-index insns ≡ insns = take_all c.loop-insn.insn-index insns (omega arith) in
    let is = written-listing insns c.insns-insns.ensures.valid (subst (AllByRecursion HasFields) all c.loop-insn.invariant.fields) in
    rw (returns-clause-text c) (rw c.insns-insns.ensures.value at is)
