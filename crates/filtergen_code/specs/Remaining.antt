-- What a test needs of a packet of which passed tests have shown something. Only private clauses use this.
use Rattle.std.specs.Prelude.{ℕ, ◌==◌, Bool, if◌then◌else◌, bit_and}
use Rattle.filter_tree.specs.declared.headers.TheConstants.{ETHERTYPE_IP, IP_OFF, IP_P, IP_OFFMASK}
use Rattle.filter_tree.specs.Trees.{Amount}
use Rattle.filter_tree.specs.Trees as trees
use Rattle.filter_tree.specs.declared.tree.Comparison.{Comparison}
use Rattle.filter_meaning.specs.declared.verdict.Verdict.TheVariants.{Yes}
use Rattle.filter_meaning.specs.Meaning.{Test, and_test, check, check_both, compared, byte, half, is_type, is_protocol, is_first_fragment_of, value}
use Rattle.filtergen_facts.specs.declared.packet_facts.PacketFacts.{PacketFacts}
use Rattle.filtergen_facts.specs.declared.packet_facts.PacketFacts.TheVariants as known
use Rattle.filtergen_facts.specs.Facts.{has_type, has_protocol, has_first_fragment, with_fact, of_layer, after_layers}

-- no later fragment of IPv4
abbrev pub is_unfragmented : Test
is_unfragmented p = check (λ b. bit_and b IP_OFFMASK == 0) (half IP_OFF p)

abbrev pub always : Test
always p = Yes

-- the test that was passed where something is known
abbrev pub shows : PacketFacts → Test
shows known.Nothing = always
shows (known.Type n) = is_type n
shows (known.Protocol n) = is_protocol n
shows (known.FirstFragment n) = is_first_fragment_of n

abbrev pub unless_known : Bool → Test → Test
unless_known b t = if b then always else t

-- what is left of a test
abbrev pub rest_of_type : PacketFacts → ℕ → Test
rest_of_type k n = unless_known (has_type k n) (is_type n)

abbrev pub rest_of_protocol : PacketFacts → ℕ → Test
rest_of_protocol k n = unless_known (has_protocol k n) (and_test (rest_of_type k ETHERTYPE_IP) (λ p. check (λ b. b == n) (byte IP_P p)))

abbrev pub rest_of_first_fragment : PacketFacts → ℕ → Test
rest_of_first_fragment k n = unless_known (has_first_fragment k n) (and_test (rest_of_protocol k n) is_unfragmented)

abbrev pub rest_of : PacketFacts → PacketFacts → Test
rest_of k known.Nothing = always
rest_of k (known.Type n) = rest_of_type k n
rest_of k (known.Protocol n) = rest_of_protocol k n
rest_of k (known.FirstFragment n) = rest_of_first_fragment k n

-- what is left of the layers of a value
abbrev pub rest_of_layers : PacketFacts → Amount → Test
rest_of_layers k (trees.number n) = always
rest_of_layers k trees.wire_length = always
rest_of_layers k (trees.minus v) = rest_of_layers k v
rest_of_layers k (trees.binary o v w) = and_test (rest_of_layers k v) (rest_of_layers (after_layers k v) w)
rest_of_layers k (trees.accessor layer v size) = and_test (rest_of k (of_layer layer)) (rest_of_layers (with_fact k (of_layer layer)) v)

abbrev pub rest_of_relation : PacketFacts → Comparison → Amount → Amount → Test
rest_of_relation k c v w =
    and_test (and_test (rest_of_layers k v) (rest_of_layers (after_layers k v) w)) (λ p. check_both (compared c) (value v p) (value w p))
