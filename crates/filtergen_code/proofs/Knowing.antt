-- What is left of a test given what is known answers as the whole test does.
use Rattle.std.proofs.Common.{◌≡◌, ℕ, ◌-◌, ◌==◌, Bool, true, false, Some, None, refl, sym, ap, subst, ◌∙◌, arith, if◌then◌else◌, bit_and}
use Rattle.std.proofs.lemmas.Bool.Decides.{nat_tests}
use Rattle.filter_tree.specs.Trees.{Amount, Tree}
use Rattle.filter_tree.specs.Trees as trees
use Rattle.filter_tree.specs.declared.tree.Comparison.{Comparison}
use Rattle.filter_tree.specs.declared.tree.Layer.{Layer}
use Rattle.filter_tree.specs.declared.tree.Layer.TheVariants as layers
use Rattle.filter_tree.specs.declared.tree.Network.TheVariants as networks
use Rattle.filter_tree.specs.declared.tree.Plain.TheVariants as words
use Rattle.filter_tree.specs.declared.tree.Primitive.{Primitive}
use Rattle.filter_tree.specs.declared.tree.Primitive.TheVariants.{Protocol, Net, EtherHost, Ports, IpProto, EtherProto, EtherBroadcast, EtherMulticast, IpMulticast, Less, Greater}
use Rattle.filtergen_facts.specs.declared.packet_facts.PacketFacts.{PacketFacts}
use Rattle.filtergen_facts.specs.declared.packet_facts.PacketFacts.TheVariants as known
use Rattle.filter_meaning.specs.declared.verdict.Verdict.{Verdict}
use Rattle.filter_meaning.specs.declared.verdict.Verdict.TheVariants.{Yes, No, Abort}
use Rattle.filter_meaning.specs.Meaning.{Packet, Test, and_then, check, check_both, compared, byte, half, is_type, is_protocol, is_first_fragment_of, value, in_layer, in_layers, relation_test, primitive_test, meaning}
use Rattle.filtergen_facts.proofs.Members.{and-assoc}
use Rattle.filtergen_facts.specs.Facts.{has_type, has_protocol, has_first_fragment, implies, with_fact, of_layer, begins_with_ip, after_layers, of_primitive, after_expr}
use Rattle.filtergen_code.specs.Remaining.{shows, unless_known, rest_of_type, rest_of_protocol, rest_of_first_fragment, rest_of, rest_of_layers, rest_of_relation}

-- where both are Yes, each is
pub and-left : (v w : Verdict) → and_then v w ≡ Yes → v ≡ Yes
and-left Yes w is = refl
and-left No w is = absurd cc
and-left Abort w is = absurd cc

pub and-right : (v w : Verdict) → and_then v w ≡ Yes → w ≡ Yes
and-right Yes w is = is
and-right No w is = absurd cc
and-right Abort w is = absurd cc

-- the second answer counts only after a Yes
and-same : (v v' w w' : Verdict) → v ≡ v' → (v' ≡ Yes → w ≡ w') → and_then v w ≡ and_then v' w'
and-same v v' w w' first second = ap (λ x. and_then x w) first ∙ by_first v' second
  where
    by_first : (x : Verdict) → (x ≡ Yes → w ≡ w') → and_then x w ≡ and_then x w'
    by_first Yes second = second refl
    by_first No second = refl
    by_first Abort second = refl

equal-true : (m n : ℕ) → (m == n) ≡ true → m ≡ n
equal-true m n is = grind (arith, nat_tests)

-- what is known holds
pub type-from : (k : PacketFacts) (n : ℕ) (p : Packet) → shows k p ≡ Yes → has_type k n ≡ true → is_type n p ≡ Yes
type-from known.Nothing n p holds is = absurd cc
type-from (known.Type m) n p holds is = subst (λ x. is_type x p ≡ Yes) (sym (equal-true n m is)) holds
type-from (known.Protocol m) n p holds is = subst (λ x. is_type x p ≡ Yes) (sym (equal-true n 0x0800 is)) (and-left _ _ holds)
type-from (known.FirstFragment m) n p holds is = subst (λ x. is_type x p ≡ Yes) (sym (equal-true n 0x0800 is)) (and-left _ _ (and-left (is_protocol m p) _ holds))

pub number-from : (k : PacketFacts) (n : ℕ) (p : Packet) → shows k p ≡ Yes → has_protocol k n ≡ true → is_protocol n p ≡ Yes
number-from known.Nothing n p holds is = absurd cc
number-from (known.Type m) n p holds is = absurd cc
number-from (known.Protocol m) n p holds is = subst (λ x. is_protocol x p ≡ Yes) (sym (equal-true n m is)) holds
number-from (known.FirstFragment m) n p holds is = subst (λ x. is_protocol x p ≡ Yes) (sym (equal-true n m is)) (and-left (is_protocol m p) _ holds)

pub first-from : (k : PacketFacts) (n : ℕ) (p : Packet) → shows k p ≡ Yes → has_first_fragment k n ≡ true → is_first_fragment_of n p ≡ Yes
first-from known.Nothing n p holds is = absurd cc
first-from (known.Type m) n p holds is = absurd cc
first-from (known.Protocol m) n p holds is = absurd cc
first-from (known.FirstFragment m) n p holds is = subst (λ x. is_first_fragment_of x p ≡ Yes) (sym (equal-true n m is)) holds

-- one of two that are known
one-holds : (b : Bool) (j k : PacketFacts) (p : Packet) → shows j p ≡ Yes → shows k p ≡ Yes → shows (if b then j else k) p ≡ Yes
one-holds true j k p first second = first
one-holds false j k p first second = second

-- and so does what is known after one more test
with_fact-holds : (k fact : PacketFacts) (p : Packet) → shows k p ≡ Yes → shows fact p ≡ Yes → shows (with_fact k fact) p ≡ Yes
with_fact-holds k fact p holds passed = one-holds (implies k fact) k fact p holds passed

-- a test is passed over only where it is known to hold
unless-same : (b : Bool) (t u : Test) (p : Packet) → (b ≡ true → u p ≡ Yes) → t p ≡ u p → unless_known b t p ≡ u p
unless-same true t u p holds same = sym (holds refl)
unless-same false t u p holds same = same

rest-type : (k : PacketFacts) (n : ℕ) (p : Packet) → shows k p ≡ Yes → rest_of_type k n p ≡ is_type n p
rest-type k n p holds = unless-same (has_type k n) (is_type n) (is_type n) p (type-from k n p holds) refl

rest-number : (k : PacketFacts) (n : ℕ) (p : Packet) → shows k p ≡ Yes → rest_of_protocol k n p ≡ is_protocol n p
rest-number k n p holds =
    unless-same (has_protocol k n) _ (is_protocol n) p (number-from k n p holds)
    (ap (λ v. and_then v (check (λ b. b == n) (byte 23 p))) (rest-type k 0x0800 p holds))

rest-first : (k : PacketFacts) (n : ℕ) (p : Packet) → shows k p ≡ Yes → rest_of_first_fragment k n p ≡ is_first_fragment_of n p
rest-first k n p holds =
    unless-same (has_first_fragment k n) _ (is_first_fragment_of n) p (first-from k n p holds)
    (ap (λ v. and_then v (check (λ b. bit_and b 0x1fff == 0) (half 20 p))) (rest-number k n p holds))

pub rest-same : (k fact : PacketFacts) (p : Packet) → shows k p ≡ Yes → rest_of k fact p ≡ shows fact p
rest-same k known.Nothing p holds = refl
rest-same k (known.Type n) p holds = rest-type k n p holds
rest-same k (known.Protocol n) p holds = rest-number k n p holds
rest-same k (known.FirstFragment n) p holds = rest-first k n p holds

pub layer-shown : (l : Layer) (p : Packet) → shows (of_layer l) p ≡ in_layer l p
layer-shown layers.Ether p = refl
layer-shown layers.Ip p = refl
layer-shown layers.Arp p = refl
layer-shown layers.Rarp p = refl
layer-shown layers.Tcp p = refl
layer-shown layers.Udp p = refl
layer-shown layers.Icmp p = refl

-- the layers of a value
layers-known : (k : PacketFacts) (v : Amount) (p : Packet) → shows k p ≡ Yes → in_layers v p ≡ Yes → shows (after_layers k v) p ≡ Yes
layers-known k (trees.number n) p holds passed = holds
layers-known k trees.wire_length p holds passed = holds
layers-known k (trees.minus v) p holds passed = layers-known k v p holds passed
layers-known k (trees.binary o v w) p holds passed =
    layers-known (after_layers k v) w p (layers-known k v p holds (and-left _ (in_layers w p) passed)) (and-right (in_layers v p) _ passed)
layers-known k (trees.accessor l v size) p holds passed =
    layers-known (with_fact k (of_layer l)) v p (with_fact-holds k (of_layer l) p holds (layer-shown l p ∙ and-left _ (in_layers v p) passed)) (and-right (in_layer l p) _ passed)

rest-layers : (k : PacketFacts) (v : Amount) (p : Packet) → shows k p ≡ Yes → rest_of_layers k v p ≡ in_layers v p
rest-layers k (trees.number n) p holds = refl
rest-layers k trees.wire_length p holds = refl
rest-layers k (trees.minus v) p holds = rest-layers k v p holds
rest-layers k (trees.binary o v w) p holds =
    and-same _ (in_layers v p) _ (in_layers w p) (rest-layers k v p holds) (λ passed. rest-layers (after_layers k v) w p (layers-known k v p holds passed))
rest-layers k (trees.accessor l v size) p holds =
    and-same _ (in_layer l p) _ (in_layers v p) (rest-same k (of_layer l) p holds ∙ layer-shown l p)
    (λ passed. rest-layers (with_fact k (of_layer l)) v p (with_fact-holds k (of_layer l) p holds (layer-shown l p ∙ passed)))

-- a relation
relation-known : (k : PacketFacts) (c : Comparison) (v w : Amount) (p : Packet) → shows k p ≡ Yes → relation_test c v w p ≡ Yes → shows (after_layers (after_layers k v) w) p ≡ Yes
relation-known k c v w p holds passed =
    let both = and-left (and_then (in_layers v p) (in_layers w p)) (check_both (compared c) (value v p) (value w p)) passed in
    layers-known (after_layers k v) w p (layers-known k v p holds (and-left _ (in_layers w p) both)) (and-right (in_layers v p) _ both)

pub rest-relation : (k : PacketFacts) (c : Comparison) (v w : Amount) (p : Packet) → shows k p ≡ Yes → rest_of_relation k c v w p ≡ relation_test c v w p
rest-relation k c v w p holds =
    ap (λ x. and_then x (check_both (compared c) (value v p) (value w p)))
    (and-same _ (in_layers v p) _ (in_layers w p) (rest-layers k v p holds) (λ passed. rest-layers (after_layers k v) w p (layers-known k v p holds passed)))

-- a primitive that is passed
primitive-known : (t : Primitive) (p : Packet) → primitive_test t p ≡ Yes → shows (of_primitive t) p ≡ Yes
primitive-known (Protocol words.Ip) p passed = passed
primitive-known (Protocol words.Arp) p passed = passed
primitive-known (Protocol words.Rarp) p passed = passed
primitive-known (Protocol words.Icmp) p passed = passed
primitive-known (Protocol words.Tcp) p passed = passed
primitive-known (Protocol words.Udp) p passed = passed
primitive-known (Protocol words.Sctp) p passed = passed
primitive-known (Net (Some networks.Ip) direction address mask) p passed = and-left _ _ passed
primitive-known (Net (Some networks.Arp) direction address mask) p passed = and-left _ _ passed
primitive-known (Net (Some networks.Rarp) direction address mask) p passed = and-left _ _ passed
primitive-known (Net None direction address mask) p passed = refl
primitive-known (EtherHost direction address) p passed = refl
primitive-known (Ports (Some transport) direction low high) p passed = and-left _ _ passed
primitive-known (Ports None direction low high) p passed = refl
primitive-known (IpProto n) p passed = passed
primitive-known (EtherProto n) p passed = passed
primitive-known EtherBroadcast p passed = refl
primitive-known EtherMulticast p passed = refl
primitive-known IpMulticast p passed = and-left _ _ passed
primitive-known (Less n) p passed = refl
primitive-known (Greater n) p passed = refl

-- an expression that is Yes
pub tree-known : (levels : ℕ) (k : PacketFacts) (t : Tree) (p : Packet) → shows k p ≡ Yes → meaning t p ≡ Yes → shows (after_expr levels k t) p ≡ Yes
tree-known levels k trees.everything p holds passed = holds
tree-known levels k (trees.test primitive) p holds passed = with_fact-holds k (of_primitive primitive) p holds (primitive-known primitive p passed)
tree-known levels k (trees.relation c v w) p holds passed = relation-known k c v w p holds passed
tree-known levels k (trees.negation t) p holds passed = holds
tree-known levels k (trees.both t u) p holds passed =
    let front = tree-known (levels - 1) k t p holds (and-left _ (meaning u p) passed) in
    one-holds (levels == 0) k _ p holds (tree-known (levels - 1) (after_expr (levels - 1) k t) u p front (and-right (meaning t p) _ passed))
tree-known levels k (trees.either t u) p holds passed = holds

first-ip : (t b f : Verdict) → and_then t (and_then (and_then t b) f) ≡ and_then (and_then t b) f
first-ip Yes b f = refl
first-ip No b f = refl
first-ip Abort b f = refl

-- what a value's layers begin with is a test of them
layer-ip : (l : Layer) (p : Packet) → has_type (of_layer l) 0x0800 ≡ true → and_then (is_type 0x0800 p) (in_layer l p) ≡ in_layer l p
layer-ip layers.Ether p is = absurd cc
layer-ip layers.Ip p is = again (is_type 0x0800 p)
  where
    again : (t : Verdict) → and_then t t ≡ t
    again Yes = refl
    again No = refl
    again Abort = refl
layer-ip layers.Arp p is = absurd cc
layer-ip layers.Rarp p is = absurd cc
layer-ip layers.Tcp p is = first-ip (is_type 0x0800 p) _ _
layer-ip layers.Udp p is = first-ip (is_type 0x0800 p) _ _
layer-ip layers.Icmp p is = first-ip (is_type 0x0800 p) _ _

pub layers-ip : (v : Amount) (p : Packet) → begins_with_ip v ≡ true → and_then (is_type 0x0800 p) (in_layers v p) ≡ in_layers v p
layers-ip (trees.number n) p is = absurd cc
layers-ip trees.wire_length p is = absurd cc
layers-ip (trees.minus v) p is = layers-ip v p is
layers-ip (trees.binary o v w) p is = sym (and-assoc (is_type 0x0800 p) (in_layers v p) (in_layers w p)) ∙ ap (λ x. and_then x (in_layers w p)) (layers-ip v p is)
layers-ip (trees.accessor l v size) p is = sym (and-assoc (is_type 0x0800 p) (in_layer l p) (in_layers v p)) ∙ ap (λ x. and_then x (in_layers v p)) (layer-ip l p is)

-- a relation after IPv4
pub relation-ip : (k : PacketFacts) (c : Comparison) (v w : Amount) (p : Packet) → begins_with_ip v ≡ true → shows k p ≡ Yes
    → and_then (is_type 0x0800 p) (rest_of_relation (with_fact k (known.Type 0x0800)) c v w p) ≡ relation_test c v w p
relation-ip k c v w p begins holds =
    let t = is_type 0x0800 p in
    let both = and_then (in_layers v p) (in_layers w p) in
    let compares = check_both (compared c) (value v p) (value w p) in
    and-same t t _ (relation_test c v w p) refl (λ passed. rest-relation (with_fact k (known.Type 0x0800)) c v w p (with_fact-holds k (known.Type 0x0800) p holds passed))
    ∙ sym (and-assoc t both compares)
    ∙ ap (λ x. and_then x compares) (sym (and-assoc t (in_layers v p) (in_layers w p)) ∙ ap (λ x. and_then x (in_layers w p)) (layers-ip v p begins))
