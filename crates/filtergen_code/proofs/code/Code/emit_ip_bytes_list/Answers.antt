use Rattle.std.proofs.Common.{◌+◌, ◌*◌, length, sym, ap, ◌∙◌, arith}
use Rattle.filter_meaning.specs.Meaning.{Test, and_then, and_test, check, is_type, bytes_of, accessed}
use Rattle.filtergen_facts.specs.Lists.{any_of, bytes_test}
use Rattle.filtergen_code.specs.ValueLists.{in_ranges}
use Rattle.filtergen_code.proofs.Narrowed.{given-more, given-same}
use Rattle.filtergen_code.proofs.Shared.{layer-shared}
use Rattle.filtergen_code.proofs.code.Code.emit_ip_bytes_list.Goals as goal

pub returns : goal.returns
returns c =
    let ranges = c.args.group.now.ranges.items in
    let b = c.args.group.now.kind.bytes in
    let number : Test = λ p. check (in_ranges ranges) (accessed b.layer (bytes_of b.size) p b.index) in
    let inner = rw c.ip_exits.ensures at c.in_ok-next.ensures in
    given-more _ (omega arith)
    (given-same c.args.context.known (and_test (is_type 0x0800) number) (any_of (bytes_test b) ranges)
    (λ p holds. ap (λ (t : Test). and_then (t p) (number p)) (sym c.requires.layer) ∙ layer-shared b ranges p c.requires.some)
    (c.emit_ip_guard_given.ensures.guards (7 * length ranges + 2) number c.args.self.now c.requires.targets inner))
