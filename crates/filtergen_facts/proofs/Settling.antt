-- Where a test of a list was No, no test of its kind aborts.
use Rattle.std.proofs.Common.{◌≡◌, ℕ, ◌+◌, ◌*◌, ◌/◌, ◌<◌, ◌≤◌, ◌%◌, ◌^◌, ◌==◌, ◌&&◌, ◌⊎◌, inl, inr, Bool, true, false, List, length, Option, Some, None, refl, subst, arith, option_and_then}
use Rattle.std.proofs.lemmas.Bool.{cases_lt}
use Rattle.std.proofs.lemmas.Nat.{and_le_r}
use Rattle.std.proofs.Math.Nat.{mod-eq_of_lt}
use Rattle.std.specs.Bool.{OnTrue}
use Rattle.bpfvm.specs.Machine.{number_at}
use Rattle.filter_meaning.proofs.Numbers.{number-some, number-none}
use Rattle.filter_tree.specs.declared.tree.Direction.TheVariants.{SrcOrDst}
use Rattle.filter_tree.specs.Trees.{Tree}
use Rattle.filter_tree.specs.Trees as trees
use Rattle.filter_meaning.specs.declared.verdict.Verdict.{Verdict}
use Rattle.filter_meaning.specs.declared.verdict.Verdict.TheVariants.{Yes, No, Abort}
use Rattle.filter_meaning.specs.Meaning.{Packet, Test, and_then, or_else, check, decided, byte, half, word, six, is_type, is_first_fragment_of, by_direction, within, half_behind_header, has_port, bytes_of, behind_header, accessed, in_layer, meaning}
use Rattle.std.proofs.Common.{bit_and, ap, sym, ◌∙◌}
use Rattle.filter_meaning.specs.Meaning.{has_ports}
use Rattle.filtergen_facts.specs.declared.lists.Chain.{Chain}
use Rattle.filtergen_facts.specs.declared.lists.Chain.TheVariants as chains
use Rattle.filtergen_facts.specs.declared.lists.Form.{Form}
use Rattle.filtergen_facts.specs.declared.lists.Form.TheVariants as forms
use Rattle.filtergen_facts.specs.declared.lists.Sides.{Sides}
use Rattle.filtergen_facts.specs.declared.lists.Sides.TheVariants as sides
use Rattle.filtergen_facts.specs.declared.lists.Bytes.{Bytes}
use Rattle.filtergen_facts.specs.declared.lists.ListKind.{ListKind}
use Rattle.filtergen_facts.specs.declared.lists.ValueRange.{ValueRange}
use Rattle.filtergen_facts.specs.declared.lists.Member.{Member}
use Rattle.filtergen_facts.specs.Lists.{direction_of, in_range, has_tail, IsBroader, ArePorts, bytes_test, form_test, kind_test, member_test, turned, passing, IsAnswered, Covers, Asks, Settles}

-- Where one of the first tests was No, each of the others is answered.
abbrev pub AreSettled : (ValueRange → Verdict) → (ValueRange → Verdict) → Type 0
AreSettled t u = (x y : ValueRange) → t x ≡ No → IsAnswered (u y)

pub both-no : (v w : Verdict) → or_else v w ≡ No → (v ≡ No) × (w ≡ No)
both-no Yes w is = absurd cc
both-no No w is = (refl, is)
both-no Abort w is = absurd cc

pub answered-either : (v w : Verdict) → IsAnswered v → IsAnswered w → IsAnswered (or_else v w)
answered-either Yes w first second = tt
answered-either No w first second = second
answered-either Abort w first second = absurd first

pub answered-decided : (b : Bool) → IsAnswered (decided b)
answered-decided true = tt
answered-decided false = tt

settled-check : (f g : ValueRange → ℕ → Bool) (v : Option ℕ) → AreSettled (λ x. check (f x) v) (λ x. check (g x) v)
settled-check f g None x y is = absurd cc
settled-check f g (Some n) x y is = answered-decided (g y n)

settled-guarded : (v : Verdict) (t u : ValueRange → Verdict) → AreSettled t u → AreSettled (λ x. and_then v (t x)) (λ x. and_then v (u x))
settled-guarded Yes t u settled x y is = settled x y is
settled-guarded No t u settled x y is = tt
settled-guarded Abort t u settled x y is = absurd cc

settled-either : (t t' u u' : ValueRange → Verdict) → AreSettled t t' → AreSettled u u' → AreSettled (λ x. or_else (t x) (u x)) (λ x. or_else (t' x) (u' x))
settled-either t t' u u' first second x y is =
    let no = both-no (t x) (u x) is in
    answered-either (t' y) (u' y) (first x y no.0) (second x y no.1)

settled-sides : (s s' : Sides) (t t' u u' : ValueRange → Test) (p : Packet) → IsBroader s s' → AreSettled (λ x. t x p) (λ x. t' x p) → AreSettled (λ x. u x p) (λ x. u' x p)
    → AreSettled (λ x. by_direction (direction_of s) (t x) (u x) p) (λ x. by_direction (direction_of s') (t' x) (u' x) p)
settled-sides sides.Source sides.Source t t' u u' p broader first second = first
settled-sides sides.Source sides.Destination t t' u u' p broader first second = absurd broader
settled-sides sides.Source sides.Either t t' u u' p broader first second = absurd broader
settled-sides sides.Destination sides.Source t t' u u' p broader first second = absurd broader
settled-sides sides.Destination sides.Destination t t' u u' p broader first second = second
settled-sides sides.Destination sides.Either t t' u u' p broader first second = absurd broader
settled-sides sides.Either sides.Source t t' u u' p broader first second = λ x y is. first x y (both-no (t x p) (u x p) is).0
settled-sides sides.Either sides.Destination t t' u u' p broader first second = λ x y is. second x y (both-no (t x p) (u x p) is).1
settled-sides sides.Either sides.Either t t' u u' p broader first second = settled-either (λ x. t x p) (λ x. t' x p) (λ x. u x p) (λ x. u' x p) first second

pub settled-net : (s s' : Sides) (m m' o o' : ℕ) (p : Packet) → IsBroader s s'
    → AreSettled (λ x. by_direction (direction_of s) (in_range x m o) (in_range x m o') p) (λ x. by_direction (direction_of s') (in_range x m' o) (in_range x m' o') p)
settled-net s s' m m' o o' p broader =
    let bits : ℕ → ValueRange → ℕ → Bool = λ k x w. within x.low x.high (bit_and w k) in
    settled-sides s s' (λ x. in_range x m o) (λ x. in_range x m' o) (λ x. in_range x m o') (λ x. in_range x m' o') p broader
    (settled-check (bits m) (bits m') (word o p)) (settled-check (bits m) (bits m') (word o' p))

settled-typed : (n : ℕ) (s s' : Sides) (m m' o o' : ℕ) (p : Packet) → IsBroader s s'
    → AreSettled (λ x. and_then (is_type n p) (by_direction (direction_of s) (in_range x m o) (in_range x m o') p)) (λ x. and_then (is_type n p) (by_direction (direction_of s') (in_range x m' o) (in_range x m' o') p))
settled-typed n s s' m m' o o' p broader =
    settled-guarded (is_type n p) (λ x. by_direction (direction_of s) (in_range x m o) (in_range x m o') p) (λ x. by_direction (direction_of s') (in_range x m' o) (in_range x m' o') p)
    (settled-net s s' m m' o o' p broader)

settled-ports : (n : ℕ) (s s' : Sides) (p : Packet) → IsBroader s s' → AreSettled (λ x. has_ports n (direction_of s) x.low x.high p) (λ x. has_ports n (direction_of s') x.low x.high p)
settled-ports n s s' p broader =
    let ranges : ValueRange → ℕ → Bool = λ x. within x.low x.high in
    settled-guarded (is_first_fragment_of n p)
    (λ x. by_direction (direction_of s) (has_port x.low x.high 0) (has_port x.low x.high 2) p) (λ x. by_direction (direction_of s') (has_port x.low x.high 0) (has_port x.low x.high 2) p)
    (settled-sides s s' (λ x. has_port x.low x.high 0) (λ x. has_port x.low x.high 0) (λ x. has_port x.low x.high 2) (λ x. has_port x.low x.high 2) p broader
    (settled-check ranges ranges (half_behind_header 0 p)) (settled-check ranges ranges (half_behind_header 2 p)))

settled-numbers : (v : Option ℕ) → AreSettled (λ x. check (within x.low x.high) v) (λ x. check (within x.low x.high) v)
settled-numbers v = settled-check (λ x. within x.low x.high) (λ x. within x.low x.high) v

form-settled : (f : Form) (s s' : Sides) (m m' h h' : ℕ) (b : Bytes) (p : Packet) → IsBroader s s' → AreSettled (λ x. form_test f (direction_of s) m h b x p) (λ x. form_test f (direction_of s') m' h' b x p)
form-settled forms.Net s s' m m' h h' b p broader =
    let typed : Sides → ℕ → ℕ → ℕ → ℕ → ValueRange → Verdict = λ d k n o o' x. and_then (is_type n p) (by_direction (direction_of d) (in_range x k o) (in_range x k o') p) in
    settled-either
    (λ x. or_else (typed s m 0x0800 26 30 x) (typed s m 0x0806 28 38 x)) (λ x. or_else (typed s' m' 0x0800 26 30 x) (typed s' m' 0x0806 28 38 x))
    (typed s m 0x8035 28 38) (typed s' m' 0x8035 28 38)
    (settled-either (typed s m 0x0800 26 30) (typed s' m' 0x0800 26 30) (typed s m 0x0806 28 38) (typed s' m' 0x0806 28 38)
    (settled-typed 0x0800 s s' m m' 26 30 p broader) (settled-typed 0x0806 s s' m m' 28 38 p broader))
    (settled-typed 0x8035 s s' m m' 28 38 p broader)
form-settled forms.IpNet s s' m m' h h' b p broader = settled-typed 0x0800 s s' m m' 26 30 p broader
form-settled forms.ArpNet s s' m m' h h' b p broader = settled-typed 0x0806 s s' m m' 28 38 p broader
form-settled forms.RarpNet s s' m m' h h' b p broader = settled-typed 0x8035 s s' m m' 28 38 p broader
form-settled forms.Ports s s' m m' h h' b p broader =
    let ports : Sides → ℕ → ValueRange → Verdict = λ d n x. has_ports n (direction_of d) x.low x.high p in
    settled-either (λ x. or_else (ports s 6 x) (ports s 17 x)) (λ x. or_else (ports s' 6 x) (ports s' 17 x)) (ports s 132) (ports s' 132)
    (settled-either (ports s 6) (ports s' 6) (ports s 17) (ports s' 17) (settled-ports 6 s s' p broader) (settled-ports 17 s s' p broader))
    (settled-ports 132 s s' p broader)
form-settled forms.TcpPorts s s' m m' h h' b p broader = settled-ports 6 s s' p broader
form-settled forms.UdpPorts s s' m m' h h' b p broader = settled-ports 17 s s' p broader
form-settled forms.SctpPorts s s' m m' h h' b p broader = settled-ports 132 s s' p broader
form-settled forms.TcpOrUdpPorts s s' m m' h h' b p broader =
    let ports : Sides → ℕ → ValueRange → Verdict = λ d n x. has_ports n (direction_of d) x.low x.high p in
    settled-either (ports s 6) (ports s' 6) (ports s 17) (ports s' 17) (settled-ports 6 s s' p broader) (settled-ports 17 s s' p broader)
form-settled forms.IpProto s s' m m' h h' b p broader =
    settled-guarded (is_type 0x0800 p) (λ x. check (within x.low x.high) (byte 23 p)) (λ x. check (within x.low x.high) (byte 23 p)) (settled-numbers (byte 23 p))
form-settled forms.EtherProto s s' m m' h h' b p broader = settled-numbers (half 12 p)
form-settled forms.EtherHost s s' m m' h h' b p broader =
    let tails : ℕ → ValueRange → ℕ → Bool = λ k x n. (n / 2 ^ 32 == k) && within x.low x.high (n % 2 ^ 32) in
    settled-sides s s' (λ x. has_tail h x 6) (λ x. has_tail h' x 6) (λ x. has_tail h x 0) (λ x. has_tail h' x 0) p broader
    (settled-check (tails h) (tails h') (six 6 p)) (settled-check (tails h) (tails h') (six 0 p))
form-settled forms.Bytes s s' m m' h h' b p broader =
    let v = accessed b.layer (bytes_of b.size) p b.index in
    settled-guarded (in_layer b.layer p) (λ x. check (within x.low x.high) v) (λ x. check (within x.low x.high) v) (settled-numbers v)

pub covers-broader : (k other : ListKind) → k ≡ record { form = other.form; sides = k.sides; mask = k.mask; head = k.head; bytes = other.bytes } → IsBroader k.sides other.sides → Covers k other
covers-broader k other same broader = record {
  answered = λ p x y is. form-settled other.form k.sides other.sides k.mask other.mask k.head other.head other.bytes p broader x y (ap (λ (j : ListKind). kind_test j x p) (sym same) ∙ is);
}

pub on-true : {P Q : Type 0} (b : Bool) → (P → Q) → OnTrue b P → OnTrue b Q
on-true true f holds = f holds
on-true false f holds = holds

-- a number that was there
pub is-there : (f : ℕ → Bool) (c : List ℕ) (o n : ℕ) → check f (number_at c o n) ≡ No → o + n ≤ length c
is-there f c o n is = by_cases (cases_lt (length c) (o + n))
  where
    by_cases : (length c < o + n) ⊎ (o + n ≤ length c) → o + n ≤ length c
    by_cases (inl past) = absurd (let missing : check f (number_at c o n) ≡ Abort = ap (check f) (number-none c o n past) in let wrong : No ≡ Abort = sym is ∙ missing in cc)
    by_cases (inr within) = within

pub header-short : (b : ℕ) → 4 * bit_and b 15 ≤ 60
header-short b = let h = and_le_r b 15 in omega arith

-- bytes of both ports are there where the second one is
ports-there : (f g : ℕ → Bool) (c : List ℕ) (i n : ℕ) (v : Option ℕ) → i + n ≤ 4 → check f (option_and_then (λ b. number_at c (14 + 4 * bit_and b 15 + 2) 2) v) ≡ No
    → IsAnswered (check g (option_and_then (λ b. number_at c (14 + (i + 4 * bit_and b 15) % 2 ^ 32) n) v))
ports-there f g c i n None inside is = absurd cc
ports-there f g c i n (Some b) inside is =
    let h = 4 * bit_and b 15 in
    let short : h ≤ 60 = header-short b in
    let whole = is-there f c (14 + h + 2) 2 is in
    let at : (i + h) % 2 ^ 32 ≡ i + h = mod-eq_of_lt (omega arith) in
    rw at (rw (number-some c (14 + (i + h)) n (omega arith)) (answered-decided (g _)))

covers-bytes : (n i size : ℕ) (f g : ℕ → Bool) (first v : Verdict) (p : Packet) → i + size ≤ 4 → and_then first (or_else v (check f (half_behind_header 2 p))) ≡ No
    → IsAnswered (and_then first (check g (behind_header size p i)))
covers-bytes n i size f g Yes v p inside is = ports-there f g p.captured i size (byte 14 p) inside (both-no v (check f (half_behind_header 2 p)) is).1
covers-bytes n i size f g No v p inside is = tt
covers-bytes n i size f g Abort v p inside is = absurd cc

bytes-covered : (f : Form) (m h : ℕ) (b c : Bytes) (p : Packet) (x y : ValueRange) → ArePorts f c → form_test f SrcOrDst m h b x p ≡ No → IsAnswered (bytes_test c y p)
bytes-covered forms.TcpPorts m h b c p x y are is =
    subst (λ l. IsAnswered (and_then (in_layer l p) (check (within y.low y.high) (accessed l (bytes_of c.size) p c.index)))) (sym are.0)
    (covers-bytes 6 c.index (bytes_of c.size) (within x.low x.high) (within y.low y.high) (is_first_fragment_of 6 p) _ p are.1 is)
bytes-covered forms.UdpPorts m h b c p x y are is =
    subst (λ l. IsAnswered (and_then (in_layer l p) (check (within y.low y.high) (accessed l (bytes_of c.size) p c.index)))) (sym are.0)
    (covers-bytes 17 c.index (bytes_of c.size) (within x.low x.high) (within y.low y.high) (is_first_fragment_of 17 p) _ p are.1 is)
bytes-covered forms.Net m h b c p x y are is = absurd are
bytes-covered forms.IpNet m h b c p x y are is = absurd are
bytes-covered forms.ArpNet m h b c p x y are is = absurd are
bytes-covered forms.RarpNet m h b c p x y are is = absurd are
bytes-covered forms.Ports m h b c p x y are is = absurd are
bytes-covered forms.SctpPorts m h b c p x y are is = absurd are
bytes-covered forms.TcpOrUdpPorts m h b c p x y are is = absurd are
bytes-covered forms.IpProto m h b c p x y are is = absurd are
bytes-covered forms.EtherProto m h b c p x y are is = absurd are
bytes-covered forms.EtherHost m h b c p x y are is = absurd are
bytes-covered forms.Bytes m h b c p x y are is = absurd are

pub covers-ports : (k other : ListKind) → k.sides ≡ sides.Either → other.form ≡ forms.Bytes → ArePorts k.form other.bytes → Covers k other
covers-ports k other both of_bytes are = record {
  answered = λ p x y is.
      subst (λ f. IsAnswered (form_test f (direction_of other.sides) other.mask other.head other.bytes y p)) (sym of_bytes)
      (bytes-covered k.form k.mask k.head k.bytes other.bytes p x y are (ap (λ s. form_test k.form (direction_of s) k.mask k.head k.bytes x p) (sym both) ∙ is));
}

-- what a negation that was passed says
turned-passing : (c : Chain) (v : Verdict) → turned c v ≡ passing c → v ≡ No
turned-passing chains.AnyOf v is = is
turned-passing chains.NoneOf Yes is = absurd cc
turned-passing chains.NoneOf No is = refl
turned-passing chains.NoneOf Abort is = absurd cc

pub asks-member : (c : Chain) (t : Tree) (m : Member) (kind : ListKind) → Covers m.kind kind → ((p : Packet) → meaning t p ≡ turned c (member_test m p)) → Asks c t kind
asks-member c t m kind covers same = record { answered = λ p passes x. covers.answered p m.range x (turned-passing c (member_test m p) (sym (same p) ∙ passes)) }

pub yes-both : (v w : Verdict) → and_then v w ≡ Yes → (v ≡ Yes) × (w ≡ Yes)
yes-both Yes w is = (refl, is)
yes-both No w is = absurd cc
yes-both Abort w is = absurd cc

pub asks-right : (t u : Tree) (kind : ListKind) → Asks chains.AnyOf u kind → Asks chains.AnyOf (trees.either t u) kind
asks-right t u kind right = record { answered = λ p passes. right.answered p (both-no (meaning t p) (meaning u p) passes).1 }

pub asks-left : (t u : Tree) (kind : ListKind) → Asks chains.AnyOf t kind → Asks chains.AnyOf (trees.either t u) kind
asks-left t u kind left = record { answered = λ p passes. left.answered p (both-no (meaning t p) (meaning u p) passes).0 }

pub asks-second : (t u : Tree) (kind : ListKind) → Asks chains.NoneOf u kind → Asks chains.NoneOf (trees.both t u) kind
asks-second t u kind right = record { answered = λ p passes. right.answered p (yes-both (meaning t p) (meaning u p) passes).1 }

pub asks-first : (t u : Tree) (kind : ListKind) → Asks chains.NoneOf t kind → Asks chains.NoneOf (trees.both t u) kind
asks-first t u kind left = record { answered = λ p passes. left.answered p (yes-both (meaning t p) (meaning u p) passes).0 }

-- by the first member
pub settles-first : (c : Chain) (left : Option Tree) (first : Member) (kind : ListKind) → Covers first.kind kind → Settles c left first kind
settles-first c left first kind covers = record { answered = λ p passes none x. covers.answered p first.range x none }

-- by what stands to the left
pub settles-left : (c : Chain) (t : Tree) (first : Member) (kind : ListKind) → Asks c t kind → Settles c (Some t) first kind
settles-left c t first kind asks = record { answered = λ p passes none x. asks.answered p passes x }
