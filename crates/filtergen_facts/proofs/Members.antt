-- Primitives and relations that become members of lists.
use Rattle.std.proofs.Common.{◌≡◌, ◌≢◌, ℕ, ◌+◌, ◌*◌, ◌/◌, ◌%◌, ◌^◌, ◌<◌, ◌≤◌, ◌⊎◌, inl, inr, ◌==◌, ◌&&◌, Bool, true, false, List, [], ◌∷◌, ◌++◌, All, length, Option, Some, None, refl, sym, ap, subst, ◌∙◌, arith, take, bit_and}
use Rattle.std.proofs.lemmas.Bool.{cases_lt, cases_eq}
use Rattle.std.proofs.lemmas.Bool.Decides.{nat_tests}
use Rattle.std.specs.Option.{MatchOption}
use Rattle.std.proofs.lemmas.List.{take_all}
use Rattle.std.proofs.lemmas.List.Elements.{All-nil, All-same, All-push, All-pop}
use Rattle.filter_tree.specs.Trees.{Tree}
use Rattle.filter_tree.specs.Trees as trees
use Rattle.filter_tree.specs.declared.tree.Comparison.TheVariants as comparisons
use Rattle.filter_tree.specs.declared.tree.Layer.{Layer}
use Rattle.filter_tree.specs.declared.tree.Size.{Size}
use Rattle.filter_tree.specs.declared.tree.Direction.{Direction}
use Rattle.filter_tree.specs.declared.tree.Direction.TheVariants.{Src, Dst, SrcOrDst, SrcAndDst}
use Rattle.filter_tree.specs.declared.tree.Network.{Network}
use Rattle.filter_tree.specs.declared.tree.Network.TheVariants as networks
use Rattle.filter_tree.specs.declared.tree.Transport.{Transport}
use Rattle.filter_tree.specs.declared.tree.Transport.TheVariants as transports
use Rattle.filter_meaning.specs.declared.verdict.Verdict.{Verdict}
use Rattle.filter_meaning.specs.declared.verdict.Verdict.TheVariants.{Yes, No, Abort}
use Rattle.filter_meaning.specs.Meaning.{Packet, Test, and_then, or_else, opposite, and_test, check, decided, byte, word, six, is_type, is_protocol, by_direction, has_address, address_number, is_address, in_any_net, within, has_any_ports, bytes_of, accessed, in_layer, check_both, compared, relation_test, meaning}
use Rattle.filtergen_facts.specs.declared.lists.Chain.{Chain}
use Rattle.filtergen_facts.specs.declared.lists.Chain.TheVariants as chains
use Rattle.filtergen_facts.specs.declared.lists.Form.{Form}
use Rattle.filtergen_facts.specs.declared.lists.Form.TheVariants as forms
use Rattle.filtergen_facts.specs.declared.lists.Bytes.{Bytes}
use Rattle.filtergen_facts.specs.declared.lists.Sides.{Sides}
use Rattle.filtergen_facts.specs.declared.lists.ListKind.{ListKind}
use Rattle.filtergen_facts.specs.declared.lists.ValueRange.{ValueRange}
use Rattle.filtergen_facts.specs.Weights.{weight}
use Rattle.filtergen_facts.specs.declared.lists.Member.{Member}
use Rattle.filtergen_facts.specs.Lists.{any_of, in_range, has_tail, net_form, ports_form, bytes_test, form_test, member_test, members_weight, IsMember, chained, turned, left_chained, list_weight, AreFreeAfter, Takes, EndsIn}

pub equal-true : (m n : ℕ) → (m == n) ≡ true → m ≡ n
equal-true m n is = grind (arith, nat_tests)

pub or-assoc : (u v w : Verdict) → or_else (or_else u v) w ≡ or_else u (or_else v w)
or-assoc Yes v w = refl
or-assoc No v w = refl
or-assoc Abort v w = refl

pub or-no : (v : Verdict) → or_else v No ≡ v
or-no Yes = refl
or-no No = refl
or-no Abort = refl

pub any-first : {X : Type 0} (t : X → Test) (p : Packet) (x : X) (xs : List X) → any_of t (xs ++ (x ∷ [])) p ≡ or_else (t x p) (any_of t xs p)
any-first t p x [] = sym (or-no (t x p))
any-first t p x (y ∷ xs) = ap (λ v. or_else v (t y p)) (any-first t p x xs) ∙ or-assoc (t x p) (any_of t xs p) (t y p)

-- where each member aborts, the first one does
pub and-assoc : (u v w : Verdict) → and_then (and_then u v) w ≡ and_then u (and_then v w)
and-assoc Yes v w = refl
and-assoc No v w = refl
and-assoc Abort v w = refl

-- a span of one number
pub within-one : (low high n : ℕ) → low ≡ high → (n == low) ≡ within low high n
within-one low high n is = by_cases (cases_lt n low) (cases_lt low n)
  where
    by_cases : (n < low) ⊎ (low ≤ n) → (low < n) ⊎ (n ≤ low) → (n == low) ≡ within low high n
    by_cases (inl below) (inl above) = absurd (omega arith)
    by_cases (inl below) (inr upto) = grind (arith, nat_tests)
    by_cases (inr from) (inl above) = grind (arith, nat_tests)
    by_cases (inr from) (inr upto) = grind (arith, nat_tests)

abbrev pub span_of : ℕ → ValueRange
span_of n = record { low = n; high = n }

-- a number is a span
pub number-member : (n : ℕ) (v : Option ℕ) → check (λ b. b == n) v ≡ check (within n n) v
number-member n None = refl
number-member n (Some b) = ap decided (within-one n n b refl)

pub protocol-member : (n : ℕ) (p : Packet) → is_protocol n p ≡ and_test (is_type 0x0800) (λ q. check (within n n) (byte 23 q)) p
protocol-member n p = ap (and_then (is_type 0x0800 p)) (number-member n (byte 23 p))

address-member : (a m o : ℕ) (p : Packet) → has_address a m o p ≡ in_range (span_of a) m o p
address-member a m o p = by_value (word o p)
  where
    by_value : (v : Option ℕ) → check (λ w. bit_and w m == a) v ≡ check (λ w. within a a (bit_and w m)) v
    by_value None = refl
    by_value (Some w) = ap decided (within-one a a (bit_and w m) refl)

addresses-member : (d : Direction) (a m o o' : ℕ) (p : Packet) → by_direction d (has_address a m o) (has_address a m o') p ≡ by_direction d (in_range (span_of a) m o) (in_range (span_of a) m o') p
addresses-member Src a m o o' p = address-member a m o p
addresses-member Dst a m o o' p = address-member a m o' p
addresses-member SrcOrDst a m o o' p = ap (λ v. or_else v (has_address a m o' p)) (address-member a m o p) ∙ ap (or_else (in_range (span_of a) m o p)) (address-member a m o' p)
addresses-member SrcAndDst a m o o' p = ap (λ v. and_then v (has_address a m o' p)) (address-member a m o p) ∙ ap (and_then (in_range (span_of a) m o p)) (address-member a m o' p)

pub net-member : (network : Option Network) (d : Direction) (a m h : ℕ) (b : Bytes) (p : Packet) → in_any_net network d a m p ≡ form_test (net_form network) d m h b (span_of a) p
net-member (Some networks.Ip) d a m h b p = ap (and_then (is_type 0x0800 p)) (addresses-member d a m 26 30 p)
net-member (Some networks.Arp) d a m h b p = ap (and_then (is_type 0x0806 p)) (addresses-member d a m 28 38 p)
net-member (Some networks.Rarp) d a m h b p = ap (and_then (is_type 0x8035 p)) (addresses-member d a m 28 38 p)
net-member None d a m h b p =
    ap (λ v. of_types v (by_direction d (has_address a m 28) (has_address a m 38) p)) (addresses-member d a m 26 30 p)
    ∙ ap (of_types (by_direction d (in_range (span_of a) m 26) (in_range (span_of a) m 30) p)) (addresses-member d a m 28 38 p)
  where
    of_types : Verdict → Verdict → Verdict
    of_types v w = or_else (or_else (and_then (is_type 0x0800 p) v) (and_then (is_type 0x0806 p) w)) (and_then (is_type 0x8035 p) w)

pub ports-member : (transport : Option Transport) (d : Direction) (m h low high : ℕ) (b : Bytes) (p : Packet)
    → has_any_ports transport d low high p ≡ form_test (ports_form transport) d m h b (record { low = low; high = high }) p
ports-member None d m h low high b p = refl
ports-member (Some transports.Tcp) d m h low high b p = refl
ports-member (Some transports.Udp) d m h low high b p = refl
ports-member (Some transports.Sctp) d m h low high b p = refl

pub equal : (m n : ℕ) → m ≡ n → (m == n) ≡ true
equal m n is = grind (arith, nat_tests)

different : (m n : ℕ) → m ≢ n → (m == n) ≡ false
different m n is = grind (arith, nat_tests)

-- six bytes are a number of two and one of four
six-member : (number head tail n : ℕ) → number ≡ head * 2 ^ 32 + tail → tail < 2 ^ 32 → (n == number) ≡ ((n / 2 ^ 32 == head) && within tail tail (n % 2 ^ 32))
six-member number head tail n is below =
    by_cases (cases_eq (n / 2 ^ 32) head) (cases_eq (n % 2 ^ 32) tail) ∙ ap (λ b. (n / 2 ^ 32 == head) && b) (within-one tail tail (n % 2 ^ 32) refl)
  where
    whole : n / 2 ^ 32 * 2 ^ 32 + n % 2 ^ 32 ≡ n
    whole = omega arith

    by_cases : (n / 2 ^ 32 ≡ head) ⊎ (n / 2 ^ 32 ≢ head) → (n % 2 ^ 32 ≡ tail) ⊎ (n % 2 ^ 32 ≢ tail) → (n == number) ≡ ((n / 2 ^ 32 == head) && (n % 2 ^ 32 == tail))
    by_cases (inl same) (inl same') =
        equal n number (omega arith) ∙ sym (ap (λ b. b && (n % 2 ^ 32 == tail)) (equal (n / 2 ^ 32) head same) ∙ equal (n % 2 ^ 32) tail same')
    by_cases (inl same) (inr other) =
        different n number (λ h. other (omega arith)) ∙ sym (ap (λ b. b && (n % 2 ^ 32 == tail)) (equal (n / 2 ^ 32) head same) ∙ different (n % 2 ^ 32) tail other)
    by_cases (inr other) last = different n number (λ h. other (omega arith)) ∙ sym (ap (λ b. b && (n % 2 ^ 32 == tail)) (different (n / 2 ^ 32) head other))

tail-member : (octets : List ℕ) (head tail o : ℕ) (p : Packet) → address_number octets ≡ head * 2 ^ 32 + tail → tail < 2 ^ 32 → is_address octets o p ≡ has_tail head (span_of tail) o p
tail-member octets head tail o p is below = by_value (six o p)
  where
    by_value : (v : Option ℕ) → check (λ n. n == address_number octets) v ≡ check (λ n. (n / 2 ^ 32 == head) && within tail tail (n % 2 ^ 32)) v
    by_value None = refl
    by_value (Some n) = ap decided (six-member (address_number octets) head tail n is below)

pub ethernet-member : (d : Direction) (octets : List ℕ) (m head tail : ℕ) (b : Bytes) (p : Packet) → address_number octets ≡ head * 2 ^ 32 + tail → tail < 2 ^ 32
    → by_direction d (is_address octets 6) (is_address octets 0) p ≡ form_test forms.EtherHost d m head b (span_of tail) p
ethernet-member Src octets m head tail b p is below = tail-member octets head tail 6 p is below
ethernet-member Dst octets m head tail b p is below = tail-member octets head tail 0 p is below
ethernet-member SrcOrDst octets m head tail b p is below =
    ap (λ v. or_else v (is_address octets 0 p)) (tail-member octets head tail 6 p is below) ∙ ap (or_else (has_tail head (span_of tail) 6 p)) (tail-member octets head tail 0 p is below)
ethernet-member SrcAndDst octets m head tail b p is below =
    ap (λ v. and_then v (is_address octets 0 p)) (tail-member octets head tail 6 p is below) ∙ ap (and_then (has_tail head (span_of tail) 6 p)) (tail-member octets head tail 0 p is below)

-- what a chain makes of two members
turned-either : (c : Chain) (v w : Verdict) → turned c (or_else v w) ≡ chained c (turned c v) (turned c w)
turned-either chains.AnyOf v w = refl
turned-either chains.NoneOf Yes w = refl
turned-either chains.NoneOf No w = refl
turned-either chains.NoneOf Abort w = refl

-- bytes that are compared with a number
pub bytes-member : (l : Layer) (i : ℕ) (size : Size) (n : ℕ) (p : Packet)
    → relation_test comparisons.Equal (trees.accessor l (trees.number i) size) (trees.number n) p ≡ bytes_test (record { layer = l; index = i; size = size }) (span_of n) p
bytes-member l i size n p =
    ap (λ v. and_then v (check_both (compared comparisons.Equal) (accessed l (bytes_of size) p i) (Some n))) (passed-twice (in_layer l p))
    ∙ ap (and_then (in_layer l p)) (by_value (accessed l (bytes_of size) p i))
  where
    passed-twice : (v : Verdict) → and_then (and_then v Yes) Yes ≡ v
    passed-twice Yes = refl
    passed-twice No = refl
    passed-twice Abort = refl

    by_value : (v : Option ℕ) → check_both (compared comparisons.Equal) v (Some n) ≡ check (within n n) v
    by_value None = refl
    by_value (Some b) = ap decided (within-one n n b refl)

pub both-true : (a b : Bool) → true ≡ (a && b) → (a ≡ true) × (true ≡ b)
both-true true b is = (refl, is)
both-true false b is = absurd cc

pub all-true : (a b : Bool) → a ≡ true → b ≡ true → (a && b) ≡ true
all-true true b first second = second
all-true false b first second = absurd cc

abbrev pub kind_of : Form → Sides → ℕ → ℕ → Bytes → ListKind
kind_of form sides mask head bytes = record { form = form; sides = sides; mask = mask; head = head; bytes = bytes }

pub kind-same : (j k : ListKind) → j.form ≡ k.form → j.sides ≡ k.sides → j.mask ≡ k.mask → j.head ≡ k.head → j.bytes ≡ k.bytes → j ≡ k
kind-same j k form sides mask head bytes =
    ap (λ f. kind_of f j.sides j.mask j.head j.bytes) form ∙ ap (λ s. kind_of k.form s j.mask j.head j.bytes) sides
    ∙ ap (λ m. kind_of k.form k.sides m j.head j.bytes) mask ∙ ap (λ h. kind_of k.form k.sides k.mask h j.bytes) head ∙ ap (kind_of k.form k.sides k.mask k.head) bytes

abbrev pub bytes-at : Layer → ℕ → Size → Bytes
bytes-at layer index size = record { layer = layer; index = index; size = size }

pub bytes-same : (b c : Bytes) → b.layer ≡ c.layer → b.index ≡ c.index → b.size ≡ c.size → b ≡ c
bytes-same b c layer index size =
    ap (λ l. bytes-at l b.index b.size) layer ∙ ap (λ i. bytes-at c.layer i b.size) index ∙ ap (bytes-at c.layer c.index) size

-- one member more
pub list_weight-more : (f : Form) (n : ℕ) → list_weight f (n + 1) ≡ list_weight f n + list_weight f 1
list_weight-more forms.Net n = omega arith
list_weight-more forms.IpNet n = omega arith
list_weight-more forms.ArpNet n = omega arith
list_weight-more forms.RarpNet n = omega arith
list_weight-more forms.Ports n = omega arith
list_weight-more forms.TcpPorts n = omega arith
list_weight-more forms.UdpPorts n = omega arith
list_weight-more forms.SctpPorts n = omega arith
list_weight-more forms.TcpOrUdpPorts n = omega arith
list_weight-more forms.IpProto n = omega arith
list_weight-more forms.EtherProto n = omega arith
list_weight-more forms.EtherHost n = omega arith
list_weight-more forms.Bytes n = omega arith

-- a primitive weighs no less
pub weighed_one : (f : Form) → list_weight f 1 ≤ 40
weighed_one forms.Net = omega arith
weighed_one forms.IpNet = omega arith
weighed_one forms.ArpNet = omega arith
weighed_one forms.RarpNet = omega arith
weighed_one forms.Ports = omega arith
weighed_one forms.TcpPorts = omega arith
weighed_one forms.UdpPorts = omega arith
weighed_one forms.SctpPorts = omega arith
weighed_one forms.TcpOrUdpPorts = omega arith
weighed_one forms.IpProto = omega arith
weighed_one forms.EtherProto = omega arith
weighed_one forms.EtherHost = omega arith
weighed_one forms.Bytes = omega arith

pub list_weight-net : (network : Option Network) → list_weight (net_form network) 1 ≡ 40
list_weight-net None = refl
list_weight-net (Some networks.Ip) = refl
list_weight-net (Some networks.Arp) = refl
list_weight-net (Some networks.Rarp) = refl

pub list_weight-ports : (transport : Option Transport) → list_weight (ports_form transport) 1 ≡ 40
list_weight-ports None = refl
list_weight-ports (Some transports.Tcp) = refl
list_weight-ports (Some transports.Udp) = refl
list_weight-ports (Some transports.Sctp) = refl

pub weight-append : (ms : List Member) (m : Member) → members_weight (ms ++ (m ∷ [])) ≡ members_weight ms + list_weight m.kind.form 1
weight-append [] m = omega arith
weight-append (n ∷ ms) m = let more = weight-append ms m in omega (arith, more)

left-same : (c : Chain) (left : Option Tree) (t u : Test) (p : Packet) → t p ≡ u p → left_chained c left t p ≡ left_chained c left u p
left-same c None t u p same = same
left-same c (Some w) t u p same = ap (chained c (meaning w p)) same

-- one more member
pub takes-one : (chain : Chain) (t : Tree) (m : Member) (old new : List Member) → ((p : Packet) → meaning t p ≡ turned chain (member_test m p)) → list_weight m.kind.form 1 ≤ weight t
    → IsMember m → new ≡ old ++ (m ∷ []) → Takes chain t None old new
takes-one chain t m old new same weighs member is = record {
  same = λ p.
      ap (λ v. chained chain v (turned chain (any_of member_test old p))) (same p)
      ∙ sym (turned-either chain (member_test m p) (any_of member_test old p))
      ∙ ap (turned chain) (sym (any-first member_test p m old))
      ∙ sym (ap (λ l. turned chain (any_of member_test l p)) is);
  members = λ before. All-same IsMember new _ is (All-push IsMember old m before member);
  weighs =
      let more : members_weight new ≡ members_weight old + list_weight m.kind.form 1 = ap members_weight is ∙ weight-append old m in
      omega (arith, weighs, more);
  smaller = omega arith;
  needs = omega arith;
}

-- none
pub takes-none : (chain : Chain) (t : Tree) (old : List Member) → Takes chain t (Some t) old old
takes-none chain t old = record { same = λ p. refl; members = λ before. before; weighs = omega arith; smaller = omega arith; needs = omega arith }

pub map-option : {A P P' : Type 0} {Q Q' : A → Type 0} (o : Option A) → MatchOption o P Q → (P → P') → ((x : A) → Q x → Q' x) → MatchOption o P' Q'
map-option None before none some = none before
map-option (Some x) before none some = some x before

pub all-taken : {X : Type 0} (P : X → Type 0) (xs : List X) (i : ℕ) → length xs ≤ i → All P (take i xs) → All P xs
all-taken P xs i end all = subst (All P) (take_all i xs end) all

pub map-always : {A P : Type 0} {Q : A → Type 0} (o : Option A) → P → ((x : A) → Q x) → MatchOption o P Q
map-always None none some = none
map-always (Some x) none some = some x

pub map-both : {A P R P' : Type 0} {Q S Q' : A → Type 0} (o : Option A) → MatchOption o P Q → MatchOption o R S → (P → R → P') → ((x : A) → Q x → S x → Q' x) → MatchOption o P' Q'
map-both None before other none some = none before other
map-both (Some x) before other none some = some x before other

-- the right operand, and what becomes of the left one
pub takes-right : (t u : Tree) (left : Option Tree) (old mid new : List Member) → Takes chains.AnyOf u None old mid → Takes chains.AnyOf t left mid new
    → Takes chains.AnyOf (trees.either t u) left old new
takes-right t u left old mid new right others = record {
  same = λ p. or-assoc (meaning t p) (meaning u p) (any_of member_test old p) ∙ ap (or_else (meaning t p)) (right.same p) ∙ others.same p;
  members = λ before. others.members (right.members before);
  weighs = omega (arith, right.weighs, others.weighs);
  smaller = omega (arith, others.smaller);
  needs = omega (arith, others.needs);
}

pub takes-negated : (t u : Tree) (left : Option Tree) (old mid new : List Member) → Takes chains.NoneOf u None old mid → Takes chains.NoneOf t left mid new
    → Takes chains.NoneOf (trees.both t u) left old new
takes-negated t u left old mid new right others = record {
  same = λ p. and-assoc (meaning t p) (meaning u p) (opposite (any_of member_test old p)) ∙ ap (and_then (meaning t p)) (right.same p) ∙ others.same p;
  members = λ before. others.members (right.members before);
  weighs = omega (arith, right.weighs, others.weighs);
  smaller = omega (arith, others.smaller);
  needs = omega (arith, others.needs);
}

-- the right operand, and what has become of the left one
pub ends-in : (chain : Chain) (t u : Tree) (left : Option Tree) (first : Member) (one all others : List Member) → Takes chain u None [] one → Takes chain t left one all
    → all ≡ others ++ (first ∷ []) → length others < 512 → AreFreeAfter chain left first others → EndsIn chain t u left first others
ends-in chain t u left first one all others right takes is short free_after = record {
  is_first = (All-pop IsMember all others (Some first) is members).1;
  are_others = (All-pop IsMember all others (Some first) is members).0;
  same = λ p.
      ap (chained chain (meaning t p)) (chained-none (meaning u p) ∙ right.same p)
      ∙ takes.same p
      ∙ left-same chain left _ _ p (ap (turned chain) (ap (λ l. any_of member_test l p) is ∙ any-first member_test p first others));
  free_after = free_after;
  weighs =
      let whole : members_weight all ≡ members_weight others + list_weight first.kind.form 1 = ap members_weight is ∙ weight-append others first in
      omega (arith, right.weighs, takes.weighs, whole);
  smaller = takes.smaller;
  needs = takes.needs;
  room = short;
}
  where
    members : All IsMember all
    members = takes.members (right.members (All-nil IsMember))

    chained-none : (v : Verdict) → v ≡ chained chain v (turned chain No)
    chained-none v = by_chain chain v
      where
        by_chain : (c : Chain) (w : Verdict) → w ≡ chained c w (turned c No)
        by_chain chains.AnyOf Yes = refl
        by_chain chains.AnyOf No = refl
        by_chain chains.AnyOf Abort = refl
        by_chain chains.NoneOf Yes = refl
        by_chain chains.NoneOf No = refl
        by_chain chains.NoneOf Abort = refl
