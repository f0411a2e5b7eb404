-- The code of lists.
use Rattle.std.proofs.Common.{ℕ, ◌+◌, ◌*◌, ◌<◌, ◌≤◌, ◌≡◌, List, [], ◌∷◌, ◌++◌, length, Option, Some, None, refl, sym, ap, subst, ◌∙◌, arith}
use Rattle.filter_tree.specs.Trees.{Tree}
use Rattle.filtergen_facts.specs.declared.lists.Chain.{Chain}
use Rattle.filtergen_facts.specs.declared.lists.Chain.TheVariants as chains
use Rattle.filtergen_facts.specs.declared.lists.Form.{Form}
use Rattle.filtergen_facts.specs.declared.lists.Form.TheVariants as forms
use Rattle.filtergen_facts.specs.declared.lists.ListKind.{ListKind}
use Rattle.filtergen_facts.specs.declared.lists.ValueRange.{ValueRange}
use Rattle.filtergen_facts.specs.declared.lists.Member.{Member}
use Rattle.filter_meaning.specs.declared.verdict.Verdict.{Verdict}
use Rattle.filter_meaning.specs.declared.verdict.Verdict.TheVariants.{Yes, No, Abort}
use Rattle.filter_meaning.specs.Meaning.{Packet, Test, or_else, and_test, or_test, by_direction, primitive_test, meaning}
use Rattle.filtergen_facts.specs.Weights.{weight}
use Rattle.std.specs.Option.{MatchOption}
use Rattle.bpfvm.specs.declared.insn.Insn.{Insn}
use Rattle.filtergen_facts.specs.declared.packet_facts.PacketFacts.{PacketFacts}
use Rattle.filtergen_code.specs.declared.entries.Entry.{Entry}
use Rattle.filtergen_code.specs.declared.entries.Targets.{Targets}
use Rattle.filtergen_code.specs.Entries.{AreTargets, RelaysBoth, DecidesGiven}
use Rattle.filtergen_code.proofs.Leading.{relays-not, relays-either}
use Rattle.filtergen_code.proofs.Narrowed.{given-more, given-same, given-both, given-either, given-not}
use Rattle.filter_tree.specs.declared.tree.Primitive.{Primitive}
use Rattle.filtergen_facts.proofs.Joining.{any-same}
use Rattle.filtergen_facts.specs.Lists.{any_of, direction_of, has_tail, bytes_test, form_test, kind_test, IsAlone, member_test, members_weight, AreFree, Passes, passing, chained, left_chained, turned, list_weight, Groups, EndsIn}
use Rattle.filtergen_facts.proofs.Members.{any-first, or-no, weight-append}
use Rattle.filtergen_facts.proofs.Dividing.{free-before}
use Rattle.filtergen_code.specs.ValueLists.{targets_for_chain, list_cost, EmitsMembers, EmitsList}
use Rattle.filtergen_facts.specs.Facts.{after_expr, LOOK_BACK}
use Rattle.filtergen_code.proofs.Knowing.{tree-known}

-- a list takes no more instructions than its members weigh, with those that renew its ways
pub listed_fits : (f : Form) (n : ℕ) → 2 ≤ n → 2 + list_cost f n ≤ list_weight f n
listed_fits forms.Net n many = omega (arith, many)
listed_fits forms.IpNet n many = omega (arith, many)
listed_fits forms.ArpNet n many = omega (arith, many)
listed_fits forms.RarpNet n many = omega (arith, many)
listed_fits forms.Ports n many = omega (arith, many)
listed_fits forms.TcpPorts n many = omega (arith, many)
listed_fits forms.UdpPorts n many = omega (arith, many)
listed_fits forms.SctpPorts n many = omega (arith, many)
listed_fits forms.TcpOrUdpPorts n many = omega (arith, many)
listed_fits forms.IpProto n many = omega (arith, many)
listed_fits forms.EtherProto n many = omega (arith, many)
listed_fits forms.EtherHost n many = omega (arith, many)
listed_fits forms.Bytes n many = omega (arith, many)

-- a relation alone
pub bytes-kind : (k : ListKind) (xs : List ValueRange) (p : Packet) → k.form ≡ forms.Bytes → any_of (bytes_test k.bytes) xs p ≡ any_of (kind_test k) xs p
bytes-kind k xs p is = any-same (bytes_test k.bytes) (kind_test k) p (λ x. ap (λ f. form_test f (direction_of k.sides) k.mask k.head k.bytes x p) (sym is)) xs

pub relation-fits : (k : ListKind) (xs : List ValueRange) → k.form ≡ forms.Bytes → length xs ≡ 1 → 2 + (7 * length xs + 20) ≤ list_weight k.form (length xs)
relation-fits k xs is one =
    let weight : list_weight k.form (length xs) ≡ 30 = ap (λ f. list_weight f (length xs)) is ∙ ap (list_weight forms.Bytes) one in
    omega (arith, weight, one)

-- an Ethernet host alone
pub host-kind : (k : ListKind) (xs : List ValueRange) (p : Packet) → k.form ≡ forms.EtherHost → any_of (λ x. by_direction (direction_of k.sides) (has_tail k.head x 6) (has_tail k.head x 0)) xs p ≡ any_of (kind_test k) xs p
host-kind k xs p is = any-same (λ x. by_direction (direction_of k.sides) (has_tail k.head x 6) (has_tail k.head x 0)) (kind_test k) p (λ x. ap (λ f. form_test f (direction_of k.sides) k.mask k.head k.bytes x p) (sym is)) xs

pub host-fits : (k : ListKind) (xs : List ValueRange) → k.form ≡ forms.EtherHost → length xs ≡ 1 → 2 + (14 * length xs + 12) ≤ list_weight k.form (length xs)
host-fits k xs is one =
    let weight : list_weight k.form (length xs) ≡ 40 = ap (λ f. list_weight f (length xs)) is ∙ ap (list_weight forms.EtherHost) one in
    omega (arith, weight, one)

-- a member alone
pub alone-told : (kind : ListKind) (primitive : Option Primitive) (ranges : List ValueRange) → IsAlone kind primitive ranges → 0 < length ranges → length ranges ≤ 1
    → MatchOption primitive (kind.form ≡ forms.Bytes) (λ q. ((p : Packet) → primitive_test q p ≡ any_of (kind_test kind) ranges p) × (list_weight kind.form (length ranges) ≡ 40))
alone-told kind primitive [] alone some few = absurd (omega arith)
alone-told kind primitive (x ∷ []) alone some few = alone x refl
alone-told kind primitive (x ∷ y ∷ xs) alone some few = absurd (omega (arith, few))

pub map-option : {A P P' : Type 0} {Q Q' : A → Type 0} (o : Option A) → MatchOption o P Q → (P → P') → ((x : A) → Q x → Q' x) → MatchOption o P' Q'
map-option None before none some = none before
map-option (Some x) before none some = some x before

pub map-both : {A P R P' : Type 0} {Q S Q' : A → Type 0} (o : Option A) → MatchOption o P Q → MatchOption o R S → (P → R → P') → ((x : A) → Q x → S x → Q' x) → MatchOption o P' Q'
map-both None before other none some = none before other
map-both (Some x) before other none some = some x before other

pub option-fact : {A P : Type 0} {Q : A → Type 0} (X : Type 0) (o : Option A) → MatchOption o P Q → (P → X) → ((x : A) → Q x → X) → X
option-fact X None before none some = none before
option-fact X (Some x) before none some = some x before

-- a test by the ways of the opposite one
given-turned : (chain : Chain) {k : ℕ} {known : PacketFacts} (t : Test) {targets : Targets} {entry : Entry} {a b : List Insn} → DecidesGiven known k t (targets_for_chain chain targets) entry a b
    → DecidesGiven known k (λ p. turned chain (t p)) targets entry a b
given-turned chains.AnyOf t first = first
given-turned chains.NoneOf t first = given-not first

pub are-turned : (chain : Chain) (code : List Insn) (targets : Targets) → AreTargets code targets → AreTargets code (targets_for_chain chain targets)
are-turned chains.AnyOf code targets are = are
are-turned chains.NoneOf code targets are = (are.1, are.0)

pub relays-turned : (chain : Chain) {targets relayed : Targets} {a b : List Insn} → RelaysBoth (targets_for_chain chain targets) relayed a b → RelaysBoth targets (targets_for_chain chain relayed) a b
relays-turned chains.AnyOf before = before
relays-turned chains.NoneOf before = relays-not before

-- a list matters where the chain goes on to it
left-settled : (c : Chain) (left : Option Tree) (t u : Test) (p : Packet) → (Passes c left p → t p ≡ u p) → left_chained c left t p ≡ left_chained c left u p
left-settled c None t u p same = same tt
left-settled c (Some w) t u p same = by_chain c (meaning w p) same
  where
    by_chain : (d : Chain) (v : Verdict) → (v ≡ passing d → t p ≡ u p) → chained d v (t p) ≡ chained d v (u p)
    by_chain chains.AnyOf Yes same' = refl
    by_chain chains.AnyOf No same' = same' refl
    by_chain chains.AnyOf Abort same' = refl
    by_chain chains.NoneOf Yes same' = same' refl
    by_chain chains.NoneOf No same' = refl
    by_chain chains.NoneOf Abort same' = refl

-- how much room those of one kind and the others take
pub rest_fits : (first next : Member) (all rest others : List Member) (kind : ListKind) (ranges : List ValueRange) → Groups first all kind ranges rest → rest ≡ others ++ (next ∷ [])
    → list_weight next.kind.form 1 + members_weight others + list_weight kind.form (length ranges) ≤ list_weight first.kind.form 1 + members_weight all
rest_fits first next all rest others kind ranges groups parts =
    let more : members_weight rest ≡ members_weight others + list_weight next.kind.form 1 = ap members_weight parts ∙ weight-append others next in
    omega (arith, groups.weighs, more)

-- the code of a list
pub emits-list : {chain : Chain} {t u : Tree} {left : Option Tree} {first : Member} {others : List Member} {known : PacketFacts} {targets relayed : Targets} {entry : Entry} {a b : List Insn} → EndsIn chain t u left first others
    → EmitsMembers known first others (targets_for_chain chain targets) relayed entry a b → EmitsList known chain t u left targets (targets_for_chain chain relayed) entry a b
emits-list {chain} {t} {u} {left} {first} {others} ends made = record {
  test = λ p. turned chain (made.test p);
  most = list_weight first.kind.form 1 + members_weight others;
  same = λ p. ends.same p ∙ left-settled chain left _ _ p (λ passes. ap (turned chain) (sym (made.same p (λ none. ends.free_after.free p passes none))));
  fits = ends.weighs;
  smaller = ends.smaller;
  needs = ends.needs;
  decides = given-turned chain made.test made.decides;
  relays = relays-turned chain made.relays;
}

-- the code of members, all of one kind
pub emits-alone : {known : PacketFacts} {targets relayed : Targets} {entry : Entry} {a b : List Insn} (first : Member) (all : List Member) (kind : ListKind) (ranges : List ValueRange) → Groups first all kind ranges []
    → DecidesGiven known (list_weight kind.form (length ranges)) (any_of (kind_test kind) ranges) targets entry a b × RelaysBoth targets relayed a b
    → EmitsMembers known first all targets relayed entry a b
emits-alone first all kind ranges groups made = record {
  test = any_of (kind_test kind) ranges;
  same = λ p settled. sym (or-no (any_of (kind_test kind) ranges p)) ∙ sym (groups.same p settled);
  decides = given-more (list_weight first.kind.form 1 + members_weight all) (omega (arith, groups.weighs)) made.0;
  relays = made.1;
}

-- those of one kind, and after them the others
pub emits-more : {known : PacketFacts} {targets second relayed : Targets} {later entry : Entry} {a b c : List Insn} (first next : Member) (all rest others : List Member) (kind : ListKind) (ranges : List ValueRange) → Groups first all kind ranges rest
    → rest ≡ others ++ (next ∷ []) → EmitsMembers known next others targets second later a b
    → DecidesGiven known (list_weight kind.form (length ranges)) (any_of (kind_test kind) ranges) (record { yes = second.yes; no = later }) entry b c
    × RelaysBoth (record { yes = second.yes; no = later }) relayed b c
    → EmitsMembers known first all targets (record { yes = relayed.yes; no = second.no }) entry a c
emits-more first next all rest others kind ranges groups parts last made = record {
  test = or_test (any_of (kind_test kind) ranges) last.test;
  same = λ p settled. by_group p (any_of (kind_test kind) ranges p) (λ none. settled_after p (groups.free p settled none)) ∙ sym (groups.same p settled);
  decides = given-more (list_weight first.kind.form 1 + members_weight all) (rest_fits first next all rest others kind ranges groups parts) (given-either last.relays last.decides made.0);
  relays = relays-either made.0.extends last.relays made.1;
}
  where
    settled_after : (p : Packet) → AreFree rest p → last.test p ≡ any_of member_test rest p
    settled_after p free =
        last.same p (λ none. free-before others next p (subst (λ (l : List Member). AreFree l p) parts free))
        ∙ sym (any-first member_test p next others)
        ∙ sym (ap (λ l. any_of member_test l p) parts)

    by_group : (p : Packet) (v : Verdict) → (v ≡ No → last.test p ≡ any_of member_test rest p) → or_else v (last.test p) ≡ or_else v (any_of member_test rest p)
    by_group p Yes same = refl
    by_group p No same = same refl
    by_group p Abort same = refl

-- where nothing is left
pub emits-whole : {known : PacketFacts} {t u : Tree} {targets relayed : Targets} {entry : Entry} {a b : List Insn} → EmitsList known chains.AnyOf t u None targets relayed entry a b
    → DecidesGiven known (weight t + weight u) (or_test (meaning t) (meaning u)) targets entry a b
emits-whole {known} {t} {u} list =
    given-more (weight t + weight u) (omega (arith, list.fits)) (given-same known list.test (or_test (meaning t) (meaning u)) (λ p holds. sym (list.same p)) list.decides)

-- where something is left
pub emits-either : {known : PacketFacts} {t u w : Tree} {targets relayed : Targets} {entry first : Entry} {a b c : List Insn} → EmitsList known chains.AnyOf t u (Some w) targets relayed entry a b
    → DecidesGiven known (weight w) (meaning w) (record { yes = relayed.yes; no = entry }) first b c → DecidesGiven known (weight t + weight u) (or_test (meaning t) (meaning u)) targets first a c
emits-either {known} {t} {u} {w} list first =
    given-more (weight t + weight u) (omega (arith, list.fits))
    (given-same known (or_test (meaning w) list.test) (or_test (meaning t) (meaning u)) (λ p holds. sym (list.same p)) (given-either list.relays list.decides first))

-- the same of negations
pub emits-none : {known : PacketFacts} {t u : Tree} {targets relayed : Targets} {entry : Entry} {a b : List Insn} → EmitsList known chains.NoneOf t u None targets relayed entry a b
    → DecidesGiven known (weight t + weight u) (and_test (meaning t) (meaning u)) targets entry a b
emits-none {known} {t} {u} list =
    given-more (weight t + weight u) (omega (arith, list.fits)) (given-same known list.test (and_test (meaning t) (meaning u)) (λ p holds. sym (list.same p)) list.decides)

pub emits-both : {known : PacketFacts} {t u w : Tree} {targets relayed : Targets} {entry first : Entry} {a b c : List Insn} → EmitsList (after_expr LOOK_BACK known w) chains.NoneOf t u (Some w) targets relayed entry a b
    → DecidesGiven known (weight w) (meaning w) (record { yes = entry; no = relayed.no }) first b c → DecidesGiven known (weight t + weight u) (and_test (meaning t) (meaning u)) targets first a c
emits-both {known} {t} {u} {w} list first =
    given-more (weight t + weight u) (omega (arith, list.fits))
    (given-same known (and_test (meaning w) list.test) (and_test (meaning t) (meaning u)) (λ p holds. sym (list.same p))
    (given-both (λ p holds passed. tree-known LOOK_BACK known w p holds passed) list.relays list.decides first))
