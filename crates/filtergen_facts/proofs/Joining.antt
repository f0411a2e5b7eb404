-- Lists of TCP and of UDP that ask for the same ports are one list.
use Rattle.std.proofs.Common.{◌≡◌, ℕ, ◌+◌, ◌<◌, ◌≤◌, ◌==◌, ◌⊎◌, inl, inr, Bool, true, false, List, [], ◌∷◌, length, Option, Some, None, refl, sym, ap, ◌∙◌, arith, take, get_or, bit_and}
use Rattle.std.proofs.lemmas.List.{take_more, take_all}
use Rattle.std.proofs.lemmas.List.Elements.{All-nil}
use Rattle.std.proofs.lemmas.Slice.Zip.{all_zipped_more}
use Rattle.filter_meaning.specs.declared.verdict.Verdict.{Verdict}
use Rattle.filter_meaning.specs.declared.verdict.Verdict.TheVariants.{Yes, No, Abort}
use Rattle.filter_meaning.specs.Meaning.{Packet, Test, and_then, or_else, and_test, or_test, check, decided, byte, half, is_type, is_first_fragment_of, by_direction, has_port, has_ports}
use Rattle.filter_tree.specs.declared.tree.Direction.{Direction}
use Rattle.filtergen_facts.specs.declared.lists.Form.{Form}
use Rattle.filtergen_facts.specs.declared.lists.Form.TheVariants as forms
use Rattle.filtergen_facts.specs.declared.lists.ListKind.{ListKind}
use Rattle.filtergen_facts.specs.declared.lists.ValueRange.{ValueRange}
use Rattle.filtergen_facts.specs.declared.lists.Member.{Member}
use Rattle.filtergen_facts.specs.Lists.{any_of, direction_of, form_test, kind_test, member_test, list_weight, of_tcp_or_udp, AreJoined, AskFor, Groups, IsMember}
use Rattle.filtergen_facts.proofs.Members.{equal-true, or-no}

-- the same tests in other words
pub any-same : {X : Type 0} (t u : X → Test) (p : Packet) → ((x : X) → t x p ≡ u x p) → (xs : List X) → any_of t xs p ≡ any_of u xs p
any-same t u p same [] = refl
any-same t u p same (x ∷ xs) = ap (λ v. or_else v (t x p)) (any-same t u p same xs) ∙ ap (or_else (any_of u xs p)) (same x)

-- the member that stands last in the list is asked first
pub any-abort : {X : Type 0} (xs : List X) (p : Packet) → 0 < length xs → any_of (λ (x : X) q. Abort) xs p ≡ Abort
any-abort [] p some = absurd (omega arith)
any-abort (x ∷ []) p some = refl
any-abort (x ∷ y ∷ xs) p some = ap (λ v. or_else v Abort) (any-abort (y ∷ xs) p (omega arith))

pub any-no : {X : Type 0} (xs : List X) (p : Packet) → any_of (λ (x : X) q. No) xs p ≡ No
any-no [] p = refl
any-no (x ∷ xs) p = ap (λ v. or_else v No) (any-no xs p)

-- what all members test first is tested once
pub any-both : {X : Type 0} (g : Verdict) (t : X → Test) (xs : List X) (p : Packet) → 0 < length xs → any_of (λ x q. and_then g (t x q)) xs p ≡ and_then g (any_of t xs p)
any-both Yes t xs p some = refl
any-both No t xs p some = any-no xs p
any-both Abort t xs p some = any-abort xs p some

pub any-guarded : {X : Type 0} (g : Test) (t : X → Test) (xs : List X) (p : Packet) → 0 < length xs → any_of (λ x. and_test g (t x)) xs p ≡ and_test g (any_of t xs) p
any-guarded g t xs p some = any-same (λ x. and_test g (t x)) (λ x q. and_then (g p) (t x q)) p (λ x. refl) xs ∙ any-both (g p) t xs p some

-- One of two answers is No, or both are Abort.
abbrev AreApart : Verdict → Verdict → Type 0
AreApart v w = (v ≡ No) ⊎ ((w ≡ No) ⊎ ((v ≡ Abort) × (w ≡ Abort)))

apart-turned : (v w : Verdict) → AreApart v w → AreApart w v
apart-turned v w (inl is) = inr (inl is)
apart-turned v w (inr (inl is)) = inl is
apart-turned v w (inr (inr both)) = inr (inr (both.1, both.0))

apart-swap : (v w : Verdict) → AreApart v w → or_else v w ≡ or_else w v
apart-swap v w (inl is) = rw is (sym (or-no w))
apart-swap v w (inr (inl is)) = rw is (or-no v)
apart-swap v w (inr (inr both)) = rw (both.0, both.1) refl

-- a test after either of them
apart-guards : (v w u : Verdict) → AreApart v w → or_else (and_then v u) (and_then w u) ≡ and_then (or_else v w) u
apart-guards v w u (inl is) = rw is refl
apart-guards v w u (inr (inl is)) = rw is (or-no (and_then v u) ∙ ap (λ x. and_then x u) (sym (or-no v)))
apart-guards v w u (inr (inr both)) = rw both.0 refl

-- a packet has one protocol number
numbers-apart : (i : Verdict) (v : Option ℕ) (f : Verdict) → AreApart (and_then (and_then i (check (λ b. b == 6) v)) f) (and_then (and_then i (check (λ b. b == 17) v)) f)
numbers-apart No v f = inl refl
numbers-apart Abort v f = inr (inr (refl, refl))
numbers-apart Yes None f = inr (inr (refl, refl))
numbers-apart Yes (Some n) f = by_test (n == 6) (n == 17) (λ is. ap (λ k. k == 17) (equal-true n 6 is))
  where
    by_test : (a b : Bool) → (a ≡ true → b ≡ false) → AreApart (and_then (decided a) f) (and_then (decided b) f)
    by_test true true other = absurd (let wrong = other refl in cc)
    by_test true false other = inr (inl refl)
    by_test false b other = inl refl

tcp-apart : (p : Packet) → AreApart (is_first_fragment_of 6 p) (is_first_fragment_of 17 p)
tcp-apart p = numbers-apart (is_type 0x0800 p) (byte 23 p) (check (λ b. bit_and b 0x1fff == 0) (half 20 p))

abbrev asked_ports : Direction → ValueRange → Test
asked_ports d x = by_direction d (has_port x.low x.high 0) (has_port x.low x.high 2)

-- ports of TCP or UDP after what their tests share
pub either-guarded : (d : Direction) (xs : List ValueRange) (p : Packet) → 0 < length xs
    → any_of (λ (x : ValueRange). or_test (has_ports 6 d x.low x.high) (has_ports 17 d x.low x.high)) xs p
    ≡ and_then (or_else (is_first_fragment_of 6 p) (is_first_fragment_of 17 p)) (any_of (λ (x : ValueRange). by_direction d (has_port x.low x.high 0) (has_port x.low x.high 2)) xs p)
either-guarded d xs p some =
    let either = or_else (is_first_fragment_of 6 p) (is_first_fragment_of 17 p) in
    any-same (λ (x : ValueRange). or_test (has_ports 6 d x.low x.high) (has_ports 17 d x.low x.high)) (λ x q. and_then either (asked_ports d x q)) p
    (λ x. apart-guards (is_first_fragment_of 6 p) (is_first_fragment_of 17 p) (asked_ports d x p) (tcp-apart p)) xs
    ∙ any-both either (asked_ports d) xs p some

one-guarded : (n : ℕ) (d : Direction) (xs : List ValueRange) (p : Packet) → 0 < length xs
    → any_of (λ (x : ValueRange). has_ports n d x.low x.high) xs p ≡ and_then (is_first_fragment_of n p) (any_of (asked_ports d) xs p)
one-guarded n d xs p some = any-guarded (is_first_fragment_of n) (asked_ports d) xs p some

abbrev with_form : Form → ListKind → ListKind
with_form f k = record { form = f; sides = k.sides; mask = k.mask; head = k.head; bytes = k.bytes }

of-form : (k : ListKind) (f : Form) (xs : List ValueRange) (p : Packet) → k.form ≡ f → any_of (kind_test k) xs p ≡ any_of (kind_test (with_form f k)) xs p
of-form k f xs p is = any-same (kind_test k) (kind_test (with_form f k)) p (λ x. ap (λ g. form_test g (direction_of k.sides) k.mask k.head k.bytes x p) is) xs

pub tcp-joined : (k : ListKind) → k.form ≡ forms.TcpPorts → AreJoined k (with_form forms.UdpPorts k) (of_tcp_or_udp k)
tcp-joined k is = record {
  same = λ p xs some.
      let d = direction_of k.sides in
      let asked = any_of (asked_ports d) xs p in
      ap (λ v. or_else v (any_of (kind_test (with_form forms.UdpPorts k)) xs p)) (of-form k forms.TcpPorts xs p is ∙ one-guarded 6 d xs p some)
      ∙ ap (or_else (and_then (is_first_fragment_of 6 p) asked)) (one-guarded 17 d xs p some)
      ∙ apart-guards (is_first_fragment_of 6 p) (is_first_fragment_of 17 p) asked (tcp-apart p)
      ∙ sym (either-guarded d xs p some);
  weighs = λ n. sym (ap (λ f. list_weight f n) is);
}

pub udp-joined : (k : ListKind) → k.form ≡ forms.UdpPorts → AreJoined k (with_form forms.TcpPorts k) (of_tcp_or_udp k)
udp-joined k is = record {
  same = λ p xs some.
      let d = direction_of k.sides in
      let asked = any_of (asked_ports d) xs p in
      ap (λ v. or_else v (any_of (kind_test (with_form forms.TcpPorts k)) xs p)) (of-form k forms.UdpPorts xs p is ∙ one-guarded 17 d xs p some)
      ∙ ap (or_else (and_then (is_first_fragment_of 17 p) asked)) (one-guarded 6 d xs p some)
      ∙ apart-guards (is_first_fragment_of 17 p) (is_first_fragment_of 6 p) asked (apart-turned _ _ (tcp-apart p))
      ∙ ap (λ v. and_then v asked) (sym (apart-swap (is_first_fragment_of 6 p) (is_first_fragment_of 17 p) (tcp-apart p)))
      ∙ sym (either-guarded d xs p some);
  weighs = λ n. sym (ap (λ f. list_weight f n) is);
}

-- members that ask for the numbers of a list are that list
asked-same : (kind : ListKind) (xs : List ValueRange) (ms : List Member) (p : Packet) → AskFor kind xs ms → any_of member_test ms p ≡ any_of (kind_test kind) xs p
asked-same kind [] [] p each = refl
asked-same kind [] (m ∷ ms) p each = absurd each
asked-same kind (x ∷ xs) [] p each = absurd each
asked-same kind (x ∷ xs) (m ∷ ms) p each =
    ap (λ v. or_else v (member_test m p)) (asked-same kind xs ms p each.1)
    ∙ ap (or_else (any_of (kind_test kind) xs p)) (ap (λ (k : ListKind). kind_test k m.range p) each.0.0 ∙ ap (λ (y : ValueRange). kind_test kind y p) each.0.1)

-- by the number of turns of a loop
pub asked-more : (kind : ListKind) (xs : List ValueRange) (ms : List Member) (i : ℕ) (x : ValueRange) (m : Member) → i < length ms → i < length xs → m ≡ get_or ms i m → x ≡ get_or xs i x
    → m.kind ≡ kind → m.range ≡ x → AskFor kind (take i xs) (take i ms) → AskFor kind (take (i + 1) xs) (take (i + 1) ms)
asked-more kind xs ms i x m in_ms in_xs is_m is_x of_kind same before =
    rw (take_more ms i m in_ms, take_more xs i x in_xs, sym is_m, sym is_x)
    (all_zipped_more (λ (n : Member) (y : ValueRange). (n.kind ≡ kind) × (n.range ≡ y)) (take i ms) (take i xs) m x before (of_kind, same))

pub asked-all : (kind : ListKind) (xs : List ValueRange) (ms : List Member) (i : ℕ) → length ms ≤ i → length xs ≤ i → AskFor kind (take i xs) (take i ms) → AskFor kind xs ms
asked-all kind xs ms i all_ms all_xs before = rw (take_all i ms all_ms, take_all i xs all_xs) at before

-- the others are in the list
pub groups-joined : (first : Member) (all : List Member) (other joined : ListKind) (xs : List ValueRange) (os : List Member) → Groups first all first.kind xs os → AreJoined first.kind other joined
    → AskFor other xs os → 1 < length xs → Groups first all joined xs []
groups-joined first all other joined xs os groups are asked many = record {
  same = λ p settled.
      groups.same p settled
      ∙ ap (or_else (any_of (kind_test first.kind) xs p)) (asked-same other xs os p asked)
      ∙ are.same p xs groups.some
      ∙ sym (or-no (any_of (kind_test joined) xs p));
  free = λ p settled none a b in_a in_b. absurd (omega (arith, in_a.1));
  alone = λ member x is. let one : length xs ≡ 1 = ap length is in absurd (omega (arith, one, many));
  members = λ members. All-nil IsMember;
  weighs = omega (arith, groups.weighs, are.weighs (length xs));
  some = groups.some;
  fewer = omega arith;
}
