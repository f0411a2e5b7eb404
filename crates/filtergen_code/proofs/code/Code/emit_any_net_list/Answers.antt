use Rattle.std.proofs.Common.{◌<◌, length, arith}
use Rattle.filtergen_code.specs.declared.insns.Field.TheVariants as fields
use Rattle.filtergen_facts.specs.declared.lists.ValueRange.{ValueRange}
use Rattle.filter_meaning.specs.Meaning.{by_direction}
use Rattle.filtergen_facts.specs.Lists.{any_of, direction_of, in_range, of_any_type}
use Rattle.filtergen_code.proofs.Growing.{load-sound}
use Rattle.filtergen_code.proofs.Leading.{decides-by-same, decides-by-more}
use Rattle.filtergen_code.proofs.Runs.{extends-none}
use Rattle.filtergen_code.proofs.Shared.{types-shared}
use Rattle.filtergen_code.proofs.Nets.{decides-listed-nets}
use Rattle.filtergen_code.proofs.code.Code.emit_any_net_list.Goals as goal

pub emit-requires-clause-sound : goal.emit-requires-clause-sound
emit-requires-clause-sound c = rw c.load_insn.ensures (load-sound (fields.Half 12) _)

pub returns : goal.returns
returns c =
    let ranges = c.args.group.now.ranges.items in
    let d = direction_of c.args.group.now.kind.sides in
    let m = c.args.group.now.kind.mask in
    let some : 0 < length ranges = omega (arith, c.requires.many) in
    let t = λ (x : ValueRange). by_direction d (in_range x m 26) (in_range x m 30) in
    let u = λ (x : ValueRange). by_direction d (in_range x m 28) (in_range x m 38) in
    let both = c.in_ok-ip.ensures in
    let rarp-jump = rw c.other_exits-exits.ensures at c.emit_branch.ensures in
    rw (c.at-entry.ensures, c.len.ensures.value, c.emit.ensures, c.load_insn.ensures)
    (decides-by-same _ (any_of (λ x. of_any_type (t x) (u x)) ranges) (λ p bytes. types-shared t u ranges p some)
    (decides-by-more _ (omega arith)
    (decides-listed-nets (any_of t ranges) (any_of u ranges) c.args.targets c.requires.targets both.0 (extends-none _) both.1 c.len-no.ensures.value c.len-no-2.ensures.value rarp-jump c.emit_branch-2.ensures c.emit_branch-3.ensures)))
