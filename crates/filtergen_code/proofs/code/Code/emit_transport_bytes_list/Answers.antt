use Rattle.std.proofs.Common.{◌+◌, ◌*◌, length, sym, ap, ◌∙◌, arith}
use Rattle.filter_meaning.specs.Meaning.{Test, and_then, and_test, check, is_first_fragment_of, protocol_number, bytes_of, accessed}
use Rattle.filtergen_facts.specs.Lists.{any_of, bytes_test}
use Rattle.filtergen_code.specs.ValueLists.{in_ranges}
use Rattle.filtergen_code.proofs.Leading.{decides-by-same}
use Rattle.filtergen_code.proofs.Narrowed.{given-any, given-more, given-same}
use Rattle.filtergen_code.proofs.Shared.{layer-shared}
use Rattle.filtergen_code.proofs.code.Code.emit_transport_bytes_list.Goals as goal

pub returns-in_ok-room : goal.returns-in_ok-room
returns-in_ok-room c =
    let ranges = c.args.group.now.ranges.items in
    let b = c.args.group.now.kind.bytes in
    let number : Test = λ p. check (in_ranges ranges) (accessed b.layer (bytes_of b.size) p b.index) in
    let exits = c.first_fragment_exits-exits.ensures in
    given-more _ (omega arith)
    (given-same c.args.context.known (and_test (is_first_fragment_of (protocol_number c.args.transport)) number) (any_of (bytes_test b) ranges)
    (λ p holds. ap (λ (t : Test). and_then (t p) (number p)) (sym c.requires.layer) ∙ layer-shared b ranges p c.requires.some)
    (c.emit_fragment_guard_given.ensures.guards (7 * length ranges + 2) number c.first_fragment_exits-exits.result c.args.self.now c.requires.targets exits.yes exits.no c.in_ok-next.ensures))

pub returns-in_ok-room-2 : goal.returns-in_ok-room-2
returns-in_ok-room-2 c =
    let ranges = c.args.group.now.ranges.items in
    let b = c.args.group.now.kind.bytes in
    let number : Test = λ p. check (in_ranges ranges) (accessed b.layer (bytes_of b.size) p b.index) in
    let exits = c.first_fragment_exits-exits.ensures in
    given-more _ (omega arith)
    (given-any c.args.context.known
    (decides-by-same (and_test (is_first_fragment_of (protocol_number c.args.transport)) number) (any_of (bytes_test b) ranges)
    (λ p bytes. ap (λ (t : Test). and_then (t p) (number p)) (sym c.requires.layer) ∙ layer-shared b ranges p c.requires.some)
    (c.emit_transport_guard.ensures.guards (7 * length ranges + 2) number c.first_fragment_exits-exits.result c.args.self.now c.requires.targets exits.yes exits.no c.in_ok-next.ensures)))
