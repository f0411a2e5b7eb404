use Rattle.std.proofs.Common.{arith}
use Rattle.filtergen_facts.specs.Lists.{any_of, bytes_test}
use Rattle.filtergen_code.proofs.Deciding.{decides-both}
use Rattle.filtergen_code.proofs.Leading.{decides_any}
use Rattle.filtergen_code.proofs.Narrowed.{given-more, given-rest}
use Rattle.filtergen_code.proofs.Shared.{bytes-shared}
use Rattle.filtergen_code.proofs.code.Code.emit_other_bytes_list.Goals as goal

pub returns : goal.returns
returns c =
    let ranges = c.args.group.now.ranges.items in
    let targets = c.args.context.targets in
    let inner = rw c.any_exits-exits.ensures at c.in_ok-next.ensures in
    let rest = rw (c.of_layer-layer.ensures, c.any_exits-exits.ensures) at c.emit_rest_of.ensures in
    rw c.at.ensures
    (given-more _ (omega arith)
    (given-rest c.args.context.known (any_of (bytes_test c.args.group.now.kind.bytes) ranges) (λ p holds. bytes-shared c.args.context.known c.args.group.now.kind.bytes ranges p c.requires.some holds)
    (decides_any targets (decides-both (c.requires.targets.0.any, c.requires.targets.1.any) inner rest))))
