-- Members that hold only where one of a kind does are left out.
use Rattle.std.proofs.Common.{◌≡◌, ℕ, ◌+◌, ◌*◌, ◌%◌, ◌^◌, ◌<◌, ◌≤◌, ◌⊎◌, inl, inr, Bool, true, false, List, [], ◌∷◌, ◌++◌, All, length, Option, Some, None, refl, sym, ap, subst, ◌∙◌, arith, take, get_or, bit_and, option_and_then}
use Rattle.std.specs.Prelude.{Contains}
use Rattle.std.proofs.lemmas.Bool.{cases_lt}
use Rattle.std.proofs.lemmas.Bool.Decides.{nat_tests}
use Rattle.std.proofs.lemmas.List.{take_more, length-append}
use Rattle.std.proofs.lemmas.List.Elements.{All-nil, All-cons, All-push, All-pop, Contains-append_left, Contains-push, Contains-push_cases}
use Rattle.std.proofs.Math.Nat.{mod-eq_of_lt}
use Rattle.bpfvm.specs.Machine.{number_at}
use Rattle.filter_tree.specs.declared.tree.Layer.TheVariants as layers
use Rattle.filter_tree.specs.declared.tree.Size.TheVariants as sizes
use Rattle.filter_tree.specs.declared.tree.Direction.TheVariants.{SrcOrDst}
use Rattle.filter_meaning.specs.declared.verdict.Verdict.{Verdict}
use Rattle.filter_meaning.specs.declared.verdict.Verdict.TheVariants.{Yes, No, Abort}
use Rattle.filter_meaning.specs.Meaning.{Packet, Test, and_then, or_else, check, decided, byte, within, half_behind_header, behind_header, is_first_fragment_of}
use Rattle.filtergen_facts.specs.declared.lists.Form.{Form}
use Rattle.filtergen_facts.specs.declared.lists.Form.TheVariants as forms
use Rattle.filtergen_facts.specs.declared.lists.Sides.TheVariants as sides
use Rattle.filtergen_facts.specs.declared.lists.Bytes.{Bytes}
use Rattle.filtergen_facts.specs.declared.lists.ListKind.{ListKind}
use Rattle.filtergen_facts.specs.declared.lists.ValueRange.{ValueRange}
use Rattle.filtergen_facts.specs.declared.lists.Member.{Member}
use Rattle.filtergen_facts.specs.Lists.{any_of, direction_of, bytes_test, form_test, kind_test, member_test, IsMember, IsPort, Includes, IsIncluded, LeavesOut}
use Rattle.filtergen_facts.proofs.Members.{any-first, bytes-at, bytes-same, weight-append}
use Rattle.filtergen_facts.proofs.Settling.{both-no, header-short}

-- a port is two bytes past the header
port-accessed : (i : ℕ) (p : Packet) → i ≤ 2 → behind_header 2 p i ≡ half_behind_header i p
port-accessed i p small = by_byte (byte 14 p)
  where
    by_byte : (v : Option ℕ) → option_and_then (λ b. number_at p.captured (14 + (i + 4 * bit_and b 15) % 2 ^ 32) 2) v ≡ option_and_then (λ b. number_at p.captured (14 + 4 * bit_and b 15 + i) 2) v
    by_byte None = refl
    by_byte (Some b) =
        let short = header-short b in
        let at : (i + 4 * bit_and b 15) % 2 ^ 32 ≡ i + 4 * bit_and b 15 = mod-eq_of_lt (omega arith) in
        let same : 14 + (i + 4 * bit_and b 15) % 2 ^ 32 ≡ 14 + 4 * bit_and b 15 + i = omega (arith, at) in
        ap (λ o. number_at p.captured o 2) same

outside : (a b c d n : ℕ) → a ≤ c → d ≤ b → within a b n ≡ false → within c d n ≡ false
outside a b c d n low high is = by_cases (cases_lt n c) (cases_lt d n)
  where
    by_cases : (n < c) ⊎ (c ≤ n) → (d < n) ⊎ (n ≤ d) → within c d n ≡ false
    by_cases (inl below) above = grind (arith, nat_tests)
    by_cases (inr from) (inl above) = grind (arith, nat_tests)
    by_cases (inr from) (inr upto) =
        let whole : within a b n ≡ true = grind (arith, nat_tests) in
        let wrong : false ≡ true = sym is ∙ whole in
        absurd cc

no-decided : (b : Bool) → decided b ≡ No → b ≡ false
no-decided true is = absurd cc
no-decided false is = refl

narrower : (x y : ValueRange) (v : Option ℕ) → x.low ≤ y.low → y.high ≤ x.high → check (within x.low x.high) v ≡ No → check (within y.low y.high) v ≡ No
narrower x y None low high is = absurd cc
narrower x y (Some n) low high is = ap decided (outside x.low x.high y.low y.high n low high (no-decided (within x.low x.high n) is))

port-included : (i : ℕ) (first : Verdict) (p : Packet) (x y : ValueRange) → (i ≡ 0) ⊎ (i ≡ 2) → x.low ≤ y.low → y.high ≤ x.high
    → and_then first (or_else (check (within x.low x.high) (half_behind_header 0 p)) (check (within x.low x.high) (half_behind_header 2 p))) ≡ No
    → and_then first (check (within y.low y.high) (behind_header 2 p i)) ≡ No
port-included i Yes p x y (inl is) low high none =
    ap (λ k. check (within y.low y.high) (behind_header 2 p k)) is ∙ ap (check (within y.low y.high)) (port-accessed 0 p (omega arith))
    ∙ narrower x y (half_behind_header 0 p) low high (both-no _ (check (within x.low x.high) (half_behind_header 2 p)) none).0
port-included i Yes p x y (inr is) low high none =
    ap (λ k. check (within y.low y.high) (behind_header 2 p k)) is ∙ ap (check (within y.low y.high)) (port-accessed 2 p (omega arith))
    ∙ narrower x y (half_behind_header 2 p) low high (both-no (check (within x.low x.high) (half_behind_header 0 p)) _ none).1
port-included i No p x y at low high none = refl
port-included i Abort p x y at low high none = absurd cc

bytes-included : (f : Form) (m h : ℕ) (b c : Bytes) (p : Packet) (x y : ValueRange) → IsPort f c → x.low ≤ y.low → y.high ≤ x.high → form_test f SrcOrDst m h b x p ≡ No → bytes_test c y p ≡ No
bytes-included forms.TcpPorts m h b c p x y is low high none =
    ap (λ (d : Bytes). bytes_test d y p) (bytes-same c (bytes-at layers.Tcp c.index sizes.Two) is.0 refl is.1)
    ∙ port-included c.index (is_first_fragment_of 6 p) p x y is.2 low high none
bytes-included forms.UdpPorts m h b c p x y is low high none =
    ap (λ (d : Bytes). bytes_test d y p) (bytes-same c (bytes-at layers.Udp c.index sizes.Two) is.0 refl is.1)
    ∙ port-included c.index (is_first_fragment_of 17 p) p x y is.2 low high none
bytes-included forms.Net m h b c p x y is low high none = absurd is
bytes-included forms.IpNet m h b c p x y is low high none = absurd is
bytes-included forms.ArpNet m h b c p x y is low high none = absurd is
bytes-included forms.RarpNet m h b c p x y is low high none = absurd is
bytes-included forms.Ports m h b c p x y is low high none = absurd is
bytes-included forms.SctpPorts m h b c p x y is low high none = absurd is
bytes-included forms.TcpOrUdpPorts m h b c p x y is low high none = absurd is
bytes-included forms.IpProto m h b c p x y is low high none = absurd is
bytes-included forms.EtherProto m h b c p x y is low high none = absurd is
bytes-included forms.EtherHost m h b c p x y is low high none = absurd is
bytes-included forms.Bytes m h b c p x y is low high none = absurd is

pub includes-port : (k other : ListKind) → k.sides ≡ sides.Either → other.form ≡ forms.Bytes → IsPort k.form other.bytes → Includes k other
includes-port k other both of_bytes is = record {
  none = λ p x y low high none.
      ap (λ f. form_test f (direction_of other.sides) other.mask other.head other.bytes y p) of_bytes
      ∙ bytes-included k.form k.mask k.head k.bytes other.bytes p x y is low high (ap (λ s. form_test k.form (direction_of s) k.mask k.head k.bytes x p) (sym both) ∙ none);
}

-- where a list is No, each of its tests is
each-none : {X : Type 0} (t : X → Test) (p : Packet) (xs : List X) → any_of t xs p ≡ No → All (λ x. t x p ≡ No) xs
each-none t p [] none = All-nil (λ x. t x p ≡ No)
each-none t p (x ∷ xs) none =
    let both = both-no (any_of t xs p) (t x p) none in
    All-cons (λ y. t y p ≡ No) x xs both.1 (each-none t p xs both.0)

pub included : (kind : ListKind) (ranges : List ValueRange) (i : ℕ) (d : ValueRange) (m : Member) → Includes kind m.kind → i < length ranges → (get_or ranges i d).low ≤ m.range.low → m.range.high ≤ (get_or ranges i d).high
    → IsIncluded kind ranges m
included kind ranges i d m includes inside low high = record {
  none = λ p none. includes.none p (get_or ranges i d) m.range low high (each-none (kind_test kind) p ranges none i d inside);
}

pub leaves-all : (kind : ListKind) (ranges : List ValueRange) (ms : List Member) → LeavesOut kind ranges ms ms
leaves-all kind ranges ms = record { same = λ p none. refl; among = λ m inside. inside; members = λ members. members; weighs = omega arith; fewer = omega arith }

-- one that stays
pub leaves-this : (kind : ListKind) (ranges : List ValueRange) (m : Member) (ms os : List Member) → LeavesOut kind ranges ms os → LeavesOut kind ranges (ms ++ (m ∷ [])) (os ++ (m ∷ []))
leaves-this kind ranges m ms os d = record {
  same = λ p none. any-first member_test p m ms ∙ ap (or_else (member_test m p)) (d.same p none) ∙ sym (any-first member_test p m os);
  among = λ n inside. by_push n (Contains-push_cases os m n inside);
  members = λ members. let before = All-pop IsMember (ms ++ (m ∷ [])) ms (Some m) refl members in All-push IsMember os m (d.members before.0) before.1;
  weighs = omega (arith, d.weighs, weight-append os m, weight-append ms m);
  fewer = omega (arith, d.fewer, length-append os (m ∷ []), length-append ms (m ∷ []));
}
  where
    by_push : (n : Member) → Contains os n ⊎ (m ≡ n) → Contains (ms ++ (m ∷ [])) n
    by_push n (inl inside) = Contains-append_left ms (m ∷ []) n (d.among n inside)
    by_push n (inr is) = subst (Contains (ms ++ (m ∷ []))) is (Contains-push ms m)

-- one that is left out
pub leaves-out : (kind : ListKind) (ranges : List ValueRange) (m : Member) (ms os : List Member) → IsIncluded kind ranges m → LeavesOut kind ranges ms os → LeavesOut kind ranges (ms ++ (m ∷ [])) os
leaves-out kind ranges m ms os is d = record {
  same = λ p none. any-first member_test p m ms ∙ ap (λ v. or_else v (any_of member_test ms p)) (is.none p none) ∙ d.same p none;
  among = λ n inside. Contains-append_left ms (m ∷ []) n (d.among n inside);
  members = λ members. d.members (All-pop IsMember (ms ++ (m ∷ [])) ms (Some m) refl members).0;
  weighs = omega (arith, d.weighs, weight-append ms m);
  fewer = omega (arith, d.fewer, length-append ms (m ∷ []));
}

-- by the index of a loop
pub leaves-more : (kind : ListKind) (ranges : List ValueRange) (items : List Member) (i : ℕ) (d : Member) (os qs : List Member) → i < length items
    → qs ≡ os ++ (get_or items i d ∷ []) → LeavesOut kind ranges (take i items) os → LeavesOut kind ranges (take (i + 1) items) qs
leaves-more kind ranges items i d os qs inside pushed before = rw (take_more items i d inside, pushed) (leaves-this kind ranges (get_or items i d) (take i items) os before)

pub leaves-past : (kind : ListKind) (ranges : List ValueRange) (items : List Member) (i : ℕ) (d : Member) (os : List Member) → i < length items
    → IsIncluded kind ranges (get_or items i d) → LeavesOut kind ranges (take i items) os → LeavesOut kind ranges (take (i + 1) items) os
leaves-past kind ranges items i d os inside is before = rw (take_more items i d inside) (leaves-out kind ranges (get_or items i d) (take i items) os is before)
