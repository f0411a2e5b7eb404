-- Members of a kind that leave the others.
use Rattle.std.proofs.Common.{◌≡◌, ◌≢◌, ℕ, ◌+◌, ◌<◌, ◌⊎◌, inl, inr, List, [], ◌∷◌, ◌++◌, All, length, Some, refl, sym, ap, subst, ◌∙◌, arith, take, get_or}
use Rattle.std.specs.Prelude.{Contains}
use Rattle.std.proofs.lemmas.List.{take_more, length-append}
use Rattle.std.proofs.lemmas.List.Elements.{All-push, All-pop, Contains-append_left, Contains-push, Contains-push_cases}
use Rattle.filter_meaning.specs.declared.verdict.Verdict.{Verdict}
use Rattle.filter_meaning.specs.declared.verdict.Verdict.TheVariants.{Yes, No, Abort}
use Rattle.filter_meaning.specs.Meaning.{Packet, or_else}
use Rattle.filtergen_facts.specs.declared.lists.Form.{Form}
use Rattle.filtergen_facts.specs.declared.lists.Form.TheVariants as forms
use Rattle.filtergen_facts.specs.declared.lists.ListKind.{ListKind}
use Rattle.filtergen_facts.specs.declared.lists.ValueRange.{ValueRange}
use Rattle.filtergen_facts.specs.declared.lists.Member.{Member}
use Rattle.filtergen_facts.specs.Lists.{any_of, kind_test, member_test, IsMember, Commute, AreFree, IsAlone, Divides, LeavesOut, Groups, list_weight}
use Rattle.filtergen_facts.proofs.Members.{any-first, or-assoc, weight-append, list_weight-more}
use Rattle.filtergen_facts.proofs.Settling.{both-no}

-- answers that may change places
or-swap : (u v w : Verdict) → Commute u v → or_else u (or_else v w) ≡ or_else v (or_else u w)
or-swap Yes Yes w free = refl
or-swap Yes No w free = refl
or-swap Yes Abort w free = absurd free
or-swap No v w free = refl
or-swap Abort Yes w free = absurd free
or-swap Abort No w free = refl
or-swap Abort Abort w free = refl

commute-none : (v : Verdict) → Commute v No
commute-none Yes = tt
commute-none No = tt
commute-none Abort = tt

-- what may change places with two answers may with either of them
commute-either : (u v w : Verdict) → Commute u v → Commute u w → Commute u (or_else v w)
commute-either Yes Yes w first second = tt
commute-either Yes No w first second = second
commute-either Yes Abort w first second = absurd first
commute-either No Yes w first second = tt
commute-either No No w first second = second
commute-either No Abort w first second = tt
commute-either Abort Yes w first second = absurd first
commute-either Abort No w first second = second
commute-either Abort Abort w first second = tt

pub free-before : (ms : List Member) (m : Member) (p : Packet) → AreFree (ms ++ (m ∷ [])) p → AreFree ms p
free-before ms m p free a b first second = free a b (Contains-append_left ms (m ∷ []) a first) (Contains-append_left ms (m ∷ []) b second)

members-before : (ms : List Member) (m : Member) → All IsMember (ms ++ (m ∷ [])) → All IsMember ms × IsMember m
members-before ms m all = All-pop IsMember (ms ++ (m ∷ [])) ms (Some m) refl all

ranges-length : (xs : List ValueRange) (x : ValueRange) → length (xs ++ (x ∷ [])) ≡ length xs + 1
ranges-length xs x = length-append xs (x ∷ [])

members-length : (ms : List Member) (m : Member) → length (ms ++ (m ∷ [])) ≡ length ms + 1
members-length ms m = length-append ms (m ∷ [])

-- one span alone has nothing in front of it
alone-pushed : (kind : ListKind) (m : Member) (xs : List ValueRange) → m.kind ≡ kind → IsMember m → IsAlone kind m.primitive (xs ++ (m.range ∷ []))
alone-pushed kind m [] is member x same =
    let first : m.range ≡ x = ap (λ (l : List ValueRange). get_or l 0 m.range) same in
    subst (λ (k : ListKind). IsMember (record { kind = k; range = x; primitive = m.primitive })) is
    (subst (λ (y : ValueRange). IsMember (record { kind = m.kind; range = y; primitive = m.primitive })) first member)
alone-pushed kind m (y ∷ xs) is member x same =
    let long : length (y ∷ (xs ++ (m.range ∷ []))) ≡ 1 = ap length same in
    absurd (omega (arith, long, ranges-length xs m.range))

list_weight-none : (f : Form) → list_weight f 0 ≡ 0
list_weight-none forms.Net = refl
list_weight-none forms.IpNet = refl
list_weight-none forms.ArpNet = refl
list_weight-none forms.RarpNet = refl
list_weight-none forms.Ports = refl
list_weight-none forms.TcpPorts = refl
list_weight-none forms.UdpPorts = refl
list_weight-none forms.SctpPorts = refl
list_weight-none forms.TcpOrUdpPorts = refl
list_weight-none forms.IpProto = refl
list_weight-none forms.EtherProto = refl
list_weight-none forms.EtherHost = refl
list_weight-none forms.Bytes = refl

pub divides-none : (kind : ListKind) → Divides kind [] [] []
divides-none kind = record {
  same = λ p free. refl;
  commutes = λ p v each. commute-none v;
  among = λ m inside. inside;
  members = λ members. members;
  weighs = let none = list_weight-none kind.form in omega (arith, none);
  together = refl;
}

list_weight-pushed : (kind : ListKind) (xs : List ValueRange) (x : ValueRange) → list_weight kind.form (length (xs ++ (x ∷ []))) ≡ list_weight kind.form (length xs) + list_weight kind.form 1
list_weight-pushed kind xs x = ap (list_weight kind.form) (ranges-length xs x) ∙ list_weight-more kind.form (length xs)

-- one more of the kind
pub divides-this : (kind : ListKind) (m : Member) (ms : List Member) (xs : List ValueRange) (os : List Member) → m.kind ≡ kind → Divides kind ms xs os
    → Divides kind (ms ++ (m ∷ [])) (xs ++ (m.range ∷ [])) os
divides-this kind m ms xs os is d = record {
  same = λ p free.
      any-first member_test p m ms
      ∙ ap (or_else (member_test m p)) (d.same p (free-before ms m p free))
      ∙ sym (or-assoc (member_test m p) (any_of (kind_test kind) xs p) (any_of member_test os p))
      ∙ ap (λ v. or_else v (any_of member_test os p)) (ap (λ (k : ListKind). or_else (kind_test k m.range p) (any_of (kind_test kind) xs p)) is ∙ sym (any-first (kind_test kind) p m.range xs));
  commutes = λ p v each.
      subst (Commute v) (sym (any-first (kind_test kind) p m.range xs))
      (commute-either v (kind_test kind m.range p) (any_of (kind_test kind) xs p)
      (subst (λ (k : ListKind). Commute v (kind_test k m.range p)) is (each m (Contains-push ms m) is))
      (d.commutes p v (λ n inside. each n (Contains-append_left ms (m ∷ []) n inside))));
  among = λ n inside. Contains-append_left ms (m ∷ []) n (d.among n inside);
  members = λ members. d.members (members-before ms m members).0;
  weighs =
      let one : list_weight m.kind.form 1 ≡ list_weight kind.form 1 = ap (λ (k : ListKind). list_weight k.form 1) is in
      omega (arith, d.weighs, one, list_weight-pushed kind xs m.range, weight-append ms m);
  together = omega (arith, d.together, ranges-length xs m.range, members-length ms m);
}

-- one more of the others
pub divides-other : (kind : ListKind) (m : Member) (ms : List Member) (xs : List ValueRange) (os : List Member) → m.kind ≢ kind → Divides kind ms xs os
    → Divides kind (ms ++ (m ∷ [])) xs (os ++ (m ∷ []))
divides-other kind m ms xs os other d = record {
  same = λ p free.
      any-first member_test p m ms
      ∙ ap (or_else (member_test m p)) (d.same p (free-before ms m p free))
      ∙ or-swap (member_test m p) (any_of (kind_test kind) xs p) (any_of member_test os p) (d.commutes p (member_test m p) (beside p free))
      ∙ ap (or_else (any_of (kind_test kind) xs p)) (sym (any-first member_test p m os));
  commutes = λ p v each. d.commutes p v (λ n inside. each n (Contains-append_left ms (m ∷ []) n inside));
  among = λ n inside. by_push n (Contains-push_cases os m n inside);
  members = λ members. let before = members-before ms m members in All-push IsMember os m (d.members before.0) before.1;
  weighs = omega (arith, d.weighs, weight-append os m, weight-append ms m);
  together = omega (arith, d.together, members-length os m, members-length ms m);
}
  where
    beside : (p : Packet) → AreFree (ms ++ (m ∷ [])) p → (n : Member) → Contains ms n → n.kind ≡ kind → Commute (member_test m p) (member_test n p)
    beside p free n inside is = by_kinds (free m n (Contains-push ms m) (Contains-append_left ms (m ∷ []) n inside))
      where
        by_kinds : (m.kind ≡ n.kind) ⊎ Commute (member_test m p) (member_test n p) → Commute (member_test m p) (member_test n p)
        by_kinds (inl same) = absurd (other (same ∙ is))
        by_kinds (inr commutes) = commutes

    by_push : (n : Member) → Contains os n ⊎ (m ≡ n) → Contains (ms ++ (m ∷ [])) n
    by_push n (inl inside) = Contains-append_left ms (m ∷ []) n (d.among n inside)
    by_push n (inr is) = subst (Contains (ms ++ (m ∷ []))) is (Contains-push ms m)

-- the first member is asked before all
pub groups-with : (first : Member) (all : List Member) (xs ys : List ValueRange) (os qs : List Member) → Divides first.kind all xs os → ys ≡ xs ++ (first.range ∷ []) → LeavesOut first.kind ys os qs
    → Groups first all first.kind ys qs
groups-with first all xs ys os qs d is leaves = record {
  same = λ p settled.
      by_first p (member_test first p) (λ no. d.same p (settled no))
      ∙ sym (or-assoc (member_test first p) (any_of (kind_test first.kind) xs p) (any_of member_test os p))
      ∙ ap (λ v. or_else v (any_of member_test os p)) (sym (pushed p))
      ∙ by_group p (any_of (kind_test first.kind) ys p) (leaves.same p);
  free = λ p settled none a b in_a in_b.
      settled (both-no (member_test first p) (any_of (kind_test first.kind) xs p) (sym (pushed p) ∙ none)).0 a b
      (d.among a (leaves.among a in_a)) (d.among b (leaves.among b in_b));
  alone = λ member. rw is (alone-pushed first.kind first xs refl member);
  members = λ members. leaves.members (d.members members);
  weighs =
      let more : list_weight first.kind.form (length ys) ≡ list_weight first.kind.form (length xs) + list_weight first.kind.form 1 = ap (λ (l : List ValueRange). list_weight first.kind.form (length l)) is ∙ list_weight-pushed first.kind xs first.range in
      omega (arith, d.weighs, leaves.weighs, more);
  some = let long : length ys ≡ length xs + 1 = ap length is ∙ ranges-length xs first.range in omega (arith, long);
  fewer = omega (arith, d.together, leaves.fewer);
}
  where
    pushed : (p : Packet) → any_of (kind_test first.kind) ys p ≡ or_else (member_test first p) (any_of (kind_test first.kind) xs p)
    pushed p = ap (λ (l : List ValueRange). any_of (kind_test first.kind) l p) is ∙ any-first (kind_test first.kind) p first.range xs

    by_first : (p : Packet) (v : Verdict) → (v ≡ No → any_of member_test all p ≡ or_else (any_of (kind_test first.kind) xs p) (any_of member_test os p))
        → or_else v (any_of member_test all p) ≡ or_else v (or_else (any_of (kind_test first.kind) xs p) (any_of member_test os p))
    by_first p Yes same = refl
    by_first p No same = same refl
    by_first p Abort same = refl

    by_group : (p : Packet) (v : Verdict) → (v ≡ No → any_of member_test os p ≡ any_of member_test qs p) → or_else v (any_of member_test os p) ≡ or_else v (any_of member_test qs p)
    by_group p Yes same = refl
    by_group p No same = same refl
    by_group p Abort same = refl

-- by the index of a loop
pub divides-more : (kind : ListKind) (items : List Member) (i : ℕ) (d : Member) (xs ys : List ValueRange) (os : List Member) → i < length items → (get_or items i d).kind ≡ kind
    → ys ≡ xs ++ ((get_or items i d).range ∷ []) → Divides kind (take i items) xs os → Divides kind (take (i + 1) items) ys os
divides-more kind items i d xs ys os inside is pushed before = rw (take_more items i d inside, pushed) (divides-this kind (get_or items i d) (take i items) xs os is before)

pub divides-past : (kind : ListKind) (items : List Member) (i : ℕ) (d : Member) (xs : List ValueRange) (os qs : List Member) → i < length items
    → (get_or items i d).kind ≢ kind → qs ≡ os ++ (get_or items i d ∷ []) → Divides kind (take i items) xs os → Divides kind (take (i + 1) items) xs qs
divides-past kind items i d xs os qs inside other pushed before = rw (take_more items i d inside, pushed) (divides-other kind (get_or items i d) (take i items) xs os other before)
