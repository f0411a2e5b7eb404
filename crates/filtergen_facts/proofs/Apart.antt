-- Kinds of which all may be asked before one that may abort after them.
use Rattle.std.proofs.Common.{◌≡◌, ℕ, ◌==◌, ◌⊎◌, inl, inr, Bool, true, false, List, All, Option, Some, None, refl, sym, ap, subst, ◌∙◌, arith}
use Rattle.std.specs.Prelude.{Contains}
use Rattle.std.proofs.lemmas.List.Elements.{All-contains}
use Rattle.bpfvm.specs.Machine.{number_at}
use Rattle.filter_meaning.proofs.Numbers.{number-some}
use Rattle.filter_tree.specs.Trees.{Tree}
use Rattle.filter_meaning.specs.declared.verdict.Verdict.{Verdict}
use Rattle.filter_meaning.specs.declared.verdict.Verdict.TheVariants.{Yes, No, Abort}
use Rattle.filter_meaning.specs.Meaning.{Packet, and_then, or_else, check, decided, half, is_type, by_direction}
use Rattle.filtergen_facts.specs.declared.lists.Chain.{Chain}
use Rattle.filtergen_facts.specs.declared.lists.Form.TheVariants as forms
use Rattle.filtergen_facts.specs.declared.lists.Sides.{Sides}
use Rattle.filtergen_facts.specs.declared.lists.Sides.TheVariants as sides
use Rattle.filtergen_facts.specs.declared.lists.ListKind.{ListKind}
use Rattle.filtergen_facts.specs.declared.lists.ValueRange.{ValueRange}
use Rattle.filtergen_facts.specs.declared.lists.Member.{Member}
use Rattle.filtergen_facts.specs.Lists.{direction_of, in_range, of_any_type, form_test, kind_test, member_test, IsBroader, Reaches, IsAnswered, Covers, Settles, IsApart, Commute, AreApart, AreFreeAfter}
use Rattle.filtergen_facts.proofs.Members.{equal-true}
use Rattle.filtergen_facts.proofs.Settling.{AreSettled, is-there, answered-decided, answered-either, settled-net, covers-broader}

yes-decided : (b : Bool) → decided b ≡ Yes → b ≡ true
yes-decided true is = refl
yes-decided false is = absurd cc

-- one number is no other one
pub other-number : (a b : ℕ) (v : Option ℕ) → (a == b) ≡ false → check (λ n. n == a) v ≡ Yes → check (λ n. n == b) v ≡ No
other-number a b None differ is = absurd cc
other-number a b (Some n) differ is = ap decided (ap (λ k. k == b) (equal-true n a (yes-decided (n == a) is)) ∙ differ)

-- after a test that is No unless what comes next is asked
guarded : (g t u : Verdict) → (g ≡ Yes → t ≡ No → ⊥) → and_then g t ≡ No → and_then g u ≡ No
guarded Yes t u never is = absurd (never refl is)
guarded No t u never is = refl
guarded Abort t u never is = absurd cc

-- the source of IPv4 is there where the destination is
source-there : (f g : ℕ → Bool) (c : List ℕ) → check f (number_at c 30 4) ≡ No → IsAnswered (check g (number_at c 26 4))
source-there f g c is = let whole = is-there f c 30 4 is in rw (number-some c 26 4 (omega arith)) (answered-decided (g _))

addresses-reached : (s s' : Sides) (m m' : ℕ) (p : Packet) → Reaches s s'
    → AreSettled (λ x. by_direction (direction_of s) (in_range x m 26) (in_range x m 30) p) (λ x. by_direction (direction_of s') (in_range x m' 26) (in_range x m' 30) p)
addresses-reached sides.Source s' m m' p reaches = settled-net sides.Source s' m m' 26 30 p reaches
addresses-reached sides.Either s' m m' p reaches = settled-net sides.Either s' m m' 26 30 p reaches
addresses-reached sides.Destination sides.Source m m' p reaches = λ x y is. source-there _ _ p.captured is
addresses-reached sides.Destination sides.Destination m m' p reaches = settled-net sides.Destination sides.Destination m m' 26 30 p tt
addresses-reached sides.Destination sides.Either m m' p reaches = λ x y is.
    answered-either (in_range y m' 26 p) (in_range y m' 30 p) (source-there _ _ p.captured is) (settled-net sides.Destination sides.Destination m m' 26 30 p tt x y is)

net-apart : (s s' : Sides) (m m' : ℕ) (p : Packet) (x y z : ValueRange) → Reaches s s'
    → and_then (is_type 0x0800 p) (by_direction (direction_of s) (in_range x m 26) (in_range x m 30) p) ≡ No
    → of_any_type (by_direction (direction_of s') (in_range y m' 26) (in_range y m' 30)) (by_direction (direction_of s') (in_range y m' 28) (in_range y m' 38)) p ≡ Abort
    → and_then (is_type 0x0800 p) (by_direction (direction_of s) (in_range z m 26) (in_range z m 30) p) ≡ No
net-apart s s' m m' p x y z reaches none aborts =
    guarded (is_type 0x0800 p) (by_direction (direction_of s) (in_range x m 26) (in_range x m 30) p) (by_direction (direction_of s) (in_range z m 26) (in_range z m 30) p)
    (λ is last. never ip (addresses-reached s s' m m' p reaches x y last) (sym (of_ip is) ∙ aborts))
    none
  where
    ip : Verdict
    ip = by_direction (direction_of s') (in_range y m' 26) (in_range y m' 30) p

    arp : Verdict
    arp = by_direction (direction_of s') (in_range y m' 28) (in_range y m' 38) p

    of_ip : is_type 0x0800 p ≡ Yes → or_else (or_else (and_then (is_type 0x0800 p) ip) (and_then (is_type 0x0806 p) arp)) (and_then (is_type 0x8035 p) arp) ≡ or_else (or_else ip No) No
    of_ip is =
        ap (λ t. or_else (or_else (and_then t ip) (and_then (is_type 0x0806 p) arp)) (and_then (is_type 0x8035 p) arp)) is
        ∙ ap (λ t. or_else (or_else ip (and_then t arp)) (and_then (is_type 0x8035 p) arp)) (other-number 0x0800 0x0806 (half 12 p) refl is)
        ∙ ap (λ t. or_else (or_else ip No) (and_then t arp)) (other-number 0x0800 0x8035 (half 12 p) refl is)

    never : (v : Verdict) → IsAnswered v → or_else (or_else v No) No ≡ Abort → ⊥
    never Yes answered is = cc
    never No answered is = cc
    never Abort answered is = answered

pub apart-net : (k other : ListKind) → k.form ≡ forms.IpNet → other.form ≡ forms.Net → Reaches k.sides other.sides → IsApart k other
apart-net k other ip any reaches = record {
  apart = λ p x y z none aborts.
      ap (λ f. form_test f (direction_of k.sides) k.mask k.head k.bytes z p) ip
      ∙ net-apart k.sides other.sides k.mask other.mask p x y z reaches
      (sym (ap (λ f. form_test f (direction_of k.sides) k.mask k.head k.bytes x p) ip) ∙ none)
      (sym (ap (λ f. form_test f (direction_of other.sides) other.mask other.head other.bytes y p) any) ∙ aborts);
}

broader-itself : (s : Sides) → IsBroader s s
broader-itself sides.Source = tt
broader-itself sides.Destination = tt
broader-itself sides.Either = tt

covers-itself : (k : ListKind) → Covers k k
covers-itself k = covers-broader k k refl (broader-itself k.sides)

answered-commute : (v w : Verdict) → IsAnswered v → (w ≡ Abort → v ≡ No) → Commute v w
answered-commute Yes Yes answered none = tt
answered-commute Yes No answered none = tt
answered-commute Yes Abort answered none = absurd (let wrong : Yes ≡ No = none refl in cc)
answered-commute No Yes answered none = tt
answered-commute No No answered none = tt
answered-commute No Abort answered none = tt
answered-commute Abort w answered none = absurd answered

commute-turned : (v w : Verdict) → Commute v w → Commute w v
commute-turned Yes Yes commutes = tt
commute-turned Yes No commutes = tt
commute-turned Yes Abort commutes = commutes
commute-turned No Yes commutes = tt
commute-turned No No commutes = tt
commute-turned No Abort commutes = tt
commute-turned Abort Yes commutes = commutes
commute-turned Abort No commutes = tt
commute-turned Abort Abort commutes = tt

-- members that are all answered
pub settled-free : (chain : Chain) (left : Option Tree) (first : Member) (others : List Member) → All (λ m. Settles chain left first m.kind) others → AreFreeAfter chain left first others
settled-free chain left first others settled = record {
  free = λ p passes none m n in_m in_n.
      let each : (o : Member) → Contains others o → IsAnswered (member_test o p) = λ o inside.
      (All-contains (λ k. Settles chain left first k.kind) others o settled inside).answered p passes none o.range in
      inr (answered-commute (member_test m p) (member_test n p) (each m in_m) (λ aborts. absurd (subst IsAnswered aborts (each n in_n))));
}

-- members of two kinds, of which those of the first one are answered, and No where the others abort
pub apart-free : (chain : Chain) (left : Option Tree) (first : Member) (others : List Member) → AreApart first.kind others → AreFreeAfter chain left first others
apart-free chain left first others apart = record {
  free = λ p passes none m n in_m in_n. by_kinds p none m n (kind_of m in_m) (kind_of n in_n);
}
  where
    kind_of : (m : Member) → Contains others m → (m.kind ≡ first.kind) ⊎ (m.kind ≡ apart.other)
    kind_of m inside = All-contains (λ k. (k.kind ≡ first.kind) ⊎ (k.kind ≡ apart.other)) others m apart.each inside

    commutes : (p : Packet) → member_test first p ≡ No → (m n : Member) → m.kind ≡ first.kind → n.kind ≡ apart.other → Commute (member_test m p) (member_test n p)
    commutes p none m n own other =
        answered-commute (member_test m p) (member_test n p)
        (subst (λ (k : ListKind). IsAnswered (kind_test k m.range p)) (sym own) ((covers-itself first.kind).answered p first.range m.range none))
        (λ aborts.
        ap (λ (k : ListKind). kind_test k m.range p) own
        ∙ apart.apart.apart p first.range n.range m.range none (sym (ap (λ (k : ListKind). kind_test k n.range p) other) ∙ aborts))

    by_kinds : (p : Packet) → member_test first p ≡ No → (m n : Member) → (m.kind ≡ first.kind) ⊎ (m.kind ≡ apart.other) → (n.kind ≡ first.kind) ⊎ (n.kind ≡ apart.other)
        → (m.kind ≡ n.kind) ⊎ Commute (member_test m p) (member_test n p)
    by_kinds p none m n (inl is) (inl same) = inl (is ∙ sym same)
    by_kinds p none m n (inl is) (inr other) = inr (commutes p none m n is other)
    by_kinds p none m n (inr other) (inl is) = inr (commute-turned (member_test n p) (member_test m p) (commutes p none n m is other))
    by_kinds p none m n (inr is) (inr same) = inl (is ∙ sym same)
