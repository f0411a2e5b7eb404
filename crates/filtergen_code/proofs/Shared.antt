-- Lists after what their members share.
use Rattle.std.proofs.Common.{◌≡◌, ◌<◌, ◌==◌, List, length, Option, refl, sym, ap, ◌∙◌}
use Rattle.filter_tree.specs.declared.tree.Direction.{Direction}
use Rattle.filter_tree.specs.declared.tree.Transport.{Transport}
use Rattle.filtergen_facts.specs.declared.packet_facts.PacketFacts.{PacketFacts}
use Rattle.filtergen_facts.specs.declared.lists.Bytes.{Bytes}
use Rattle.filtergen_facts.specs.declared.lists.ValueRange.{ValueRange}
use Rattle.filter_meaning.specs.declared.verdict.Verdict.TheVariants.{Yes}
use Rattle.filter_meaning.specs.Meaning.{Packet, Test, and_then, and_test, or_test, check, byte, half, is_type, by_direction, within, has_port, has_ports, has_any_ports, bytes_of, accessed, in_layer}
use Rattle.filtergen_facts.specs.Facts.{of_layer}
use Rattle.filtergen_code.specs.Remaining.{shows, rest_of, is_unfragmented}
use Rattle.filtergen_code.specs.Parts.{has_tcp_or_udp_number, number_of, of_transport}
use Rattle.filtergen_facts.specs.Lists.{any_of, of_any_type, bytes_test}
use Rattle.filtergen_code.specs.ValueLists.{in_ranges}
use Rattle.filtergen_code.proofs.Knowing.{rest-same, layer-shown}
use Rattle.filtergen_facts.proofs.Joining.{any-same, any-guarded, either-guarded}
use Rattle.filtergen_code.proofs.ValueLists.{any-chosen, any-checked}
use Rattle.filtergen_code.proofs.Nets.{by_type, by-type}
use Rattle.filtergen_code.proofs.Narrowed.{of-transport-is}
use Rattle.filtergen_code.proofs.Sharing.{one_of_two, number-shared}

-- the type
pub types-shared : (t u : ValueRange → Test) (xs : List ValueRange) (p : Packet) → 0 < length xs → of_any_type (any_of t xs) (any_of u xs) p ≡ any_of (λ x. of_any_type (t x) (u x)) xs p
types-shared t u xs p some =
    sym (by-type (any_of t xs) (any_of u xs) p)
    ∙ sym (any-chosen (half 12 p) (λ n. n == 0x0800) (λ n. n == 0x0806) (λ n. n == 0x8035) t u xs p some)
    ∙ any-same (λ x q. by_type (t x) (u x) p (half 12 p)) (λ x. of_any_type (t x) (u x)) p (λ x. by-type (t x) (u x) p) xs

-- the protocol and the fragment
pub ports-shared : (asked : Option Transport) (d : Direction) (xs : List ValueRange) (p : Packet) → 0 < length xs
    → of_transport asked (any_of (λ (x : ValueRange). by_direction d (has_port x.low x.high 0) (has_port x.low x.high 2)) xs) p ≡ any_of (λ (x : ValueRange). has_any_ports asked d x.low x.high) xs p
ports-shared asked d xs p some =
    let g : Test = and_test (and_test (is_type 0x0800) (number_of asked)) is_unfragmented in
    let t = λ (x : ValueRange). by_direction d (has_port x.low x.high 0) (has_port x.low x.high 2) in
    sym (number-shared asked (any_of t xs) p)
    ∙ sym (any-guarded g t xs p some)
    ∙ any-same (λ x. and_test g (t x)) (λ (x : ValueRange). has_any_ports asked d x.low x.high) p (λ x. number-shared asked (t x) p ∙ of-transport-is asked d x.low x.high p) xs

-- and of TCP or UDP
pub either-shared : (d : Direction) (xs : List ValueRange) (p : Packet) → 0 < length xs
    → and_then (is_type 0x0800 p) (and_then (has_tcp_or_udp_number p) (and_then (is_unfragmented p) (any_of (λ (x : ValueRange). by_direction d (has_port x.low x.high 0) (has_port x.low x.high 2)) xs p)))
    ≡ any_of (λ (x : ValueRange). or_test (has_ports 6 d x.low x.high) (has_ports 17 d x.low x.high)) xs p
either-shared d xs p some =
    one_of_two (is_type 0x0800 p) (byte 23 p) (λ b. b == 6) (λ b. b == 17) (is_unfragmented p) (any_of (λ (x : ValueRange). by_direction d (has_port x.low x.high 0) (has_port x.low x.high 2)) xs p)
    ∙ sym (either-guarded d xs p some)

-- the layer
pub layer-shared : (b : Bytes) (xs : List ValueRange) (p : Packet) → 0 < length xs
    → and_then (in_layer b.layer p) (check (in_ranges xs) (accessed b.layer (bytes_of b.size) p b.index)) ≡ any_of (bytes_test b) xs p
layer-shared b xs p some =
    let number : ValueRange → Test = (λ (x : ValueRange) q. check (within x.low x.high) (accessed b.layer (bytes_of b.size) q b.index)) in
    ap (and_then (in_layer b.layer p)) (sym (any-same number (λ (x : ValueRange) q. check (within x.low x.high) (accessed b.layer (bytes_of b.size) p b.index)) p (λ x. refl) xs ∙ any-checked xs p (accessed b.layer (bytes_of b.size) p b.index) some))
    ∙ sym (any-guarded (in_layer b.layer) number xs p some)

-- and that of which something is known
pub bytes-shared : (known : PacketFacts) (b : Bytes) (xs : List ValueRange) (p : Packet) → 0 < length xs → shows known p ≡ Yes
    → and_then (rest_of known (of_layer b.layer) p) (check (in_ranges xs) (accessed b.layer (bytes_of b.size) p b.index)) ≡ any_of (bytes_test b) xs p
bytes-shared known b xs p some holds =
    ap (λ v. and_then v (check (in_ranges xs) (accessed b.layer (bytes_of b.size) p b.index))) (rest-same known (of_layer b.layer) p holds ∙ layer-shown b.layer p)
    ∙ layer-shared b xs p some
