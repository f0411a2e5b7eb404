use Rattle.std.proofs.Common.{◌+◌, arith}
use Rattle.filtergen_code.specs.declared.insns.Field.TheVariants as fields
use Rattle.filtergen_facts.specs.Lists.{any_of, has_tail}
use Rattle.filtergen_code.proofs.Deciding.{decides-more, decides-same}
use Rattle.filtergen_code.proofs.Growing.{load-sound}
use Rattle.filtergen_code.proofs.Tails.{tails-shared}
use Rattle.filtergen_code.proofs.Beyond.{decides-beyond}
use Rattle.filtergen_code.proofs.code.Code.emit_tail_lookup.Goals as goal

pub emit-requires-clause-sound : goal.emit-requires-clause-sound
emit-requires-clause-sound c = rw c.load_insn-load.ensures (load-sound (fields.Word (c.args.offset + 2)) _)

pub returns : goal.returns
returns c =
    let o = c.args.offset in
    let ranges = c.args.group.now.ranges.items in
    let choice = rw c.as_slice-ranges.ensures.value at c.in_ok-emit_comparisons.ensures in
    let head = rw c.from-number.ensures at c.emit_test-yes.ensures in
    let passed = rw c.load_insn-load.ensures at c.exits_after-exits.ensures in
    rw (c.len.ensures.value, c.emit.ensures, c.load_insn-load.ensures)
    (decides-more _ (omega arith)
    (decides-same _ (any_of (λ x. has_tail c.args.group.now.kind.head x o) ranges) (λ p bytes. tails-shared c.args.group.now.kind.head o ranges p bytes c.requires.some)
    (decides-beyond (fields.Word (o + 2)) ranges c.requires.exits (choice.1 c.requires.some) (rw c.as_slice-ranges.ensures.value at c.place_past_comparisons-no.ensures) head passed.yes passed.no choice.0)))
