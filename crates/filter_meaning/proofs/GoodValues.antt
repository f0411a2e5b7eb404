-- Values and relations are good.
use Rattle.std.proofs.Common.{◌≡◌, ℕ, ◌+◌, ◌*◌, ◌/◌, ◌%◌, ◌^◌, ◌==◌, ◌⊎◌, inl, inr, Bool, true, false, List, [], ◌∷◌, length, Option, Some, None, Ok, Err, refl, sym, ap, ◌∙◌, bit_and, if◌then◌else◌, arith}
use Rattle.std.specs.Prelude.{Result, option_and_then}
use Rattle.std.proofs.lemmas.Bool.Decides.{nat_tests}
use Rattle.bpfvm.specs.Codes.{Arithmetic, Subtract}
use Rattle.bpfvm.specs.Machine.{number_at, calculated}
use Rattle.filter_tree.specs.Trees.{Amount}
use Rattle.filter_tree.specs.Trees as trees
use Rattle.filter_tree.specs.declared.tree.Comparison.{Comparison}
use Rattle.filter_tree.specs.declared.tree.Operator.{Operator}
use Rattle.filter_tree.specs.declared.tree.Operator.TheVariants as operators
use Rattle.filter_tree.specs.declared.tree.Layer.{Layer}
use Rattle.filter_tree.specs.declared.tree.Layer.TheVariants as layers
use Rattle.filter_meaning.specs.declared.verdict.Verdict.{Verdict}
use Rattle.filter_meaning.specs.declared.cause.AbortCause.{AbortCause}
use Rattle.filter_meaning.specs.declared.cause.AbortCause.TheVariants.{ZeroDivisor}
use Rattle.filter_meaning.specs.declared.frame.Look.{Look}
use Rattle.filter_meaning.specs.declared.frame.Look.TheVariants.{Bytes, Length}
use Rattle.filter_meaning.specs.Meaning.{Packet, decided, byte, arithmetic_of, bytes_of, accessed, value, in_layer, in_layers, compared, check_both, relation_test}
use Rattle.filter_meaning.specs.Looks.{Asked, asked, Found, found, or_cause, both, then_found, then_asked, bytes_found, behind_header_found, access_found, calculated_found, value_found, layer_asked, layers_asked, relation_asked}
use Rattle.filter_meaning.specs.Laws.{AgreeOn, Ends, DividesByZero, RelationsAnswerAsMeant, RelationsAnswerByLooks, RelationsEnd}
use Rattle.filter_meaning.proofs.Good.{Good, GoodFound, checked, err_of, number_in, both_good, then_good, found_good, means, weaker, weaker_found, bytes_good, known_good}
use Rattle.filter_meaning.proofs.GoodPrimitives.{type_good, first_fragment_good}

-- an operator makes nothing only where it divides by 0
abbrev DividesBy : Operator → ℕ → Type 0
DividesBy o b = ((o ≡ operators.Divide) ⊎ (o ≡ operators.Modulo)) × (b ≡ 0)

divides : (o : Operator) (a b : ℕ) → err_of (calculated_found (arithmetic_of o) a b) ≡ Some ZeroDivisor → DividesBy o b
divides operators.Plus a b zero = absurd cc
divides operators.Minus a b zero = absurd cc
divides operators.Times a b zero = absurd cc
divides operators.Divide a b zero = (inl refl, by_test (b == 0) refl zero)
  where
    by_test : (z : Bool) → (b == 0) ≡ z → err_of (or_cause ZeroDivisor (if z then None else Some (a / b))) ≡ Some ZeroDivisor → b ≡ 0
    by_test true is zero = grind (arith, nat_tests)
    by_test false is zero = absurd cc
divides operators.Modulo a b zero = (inr refl, by_test (b == 0) refl zero)
  where
    by_test : (z : Bool) → (b == 0) ≡ z → err_of (or_cause ZeroDivisor (if z then None else Some (a % b))) ≡ Some ZeroDivisor → b ≡ 0
    by_test true is zero = grind (arith, nat_tests)
    by_test false is zero = absurd cc
divides operators.BitAnd a b zero = absurd cc
divides operators.BitXor a b zero = absurd cc
divides operators.BitOr a b zero = absurd cc
divides operators.ShiftLeft a b zero = absurd cc
divides operators.ShiftRight a b zero = absurd cc

calculated_back : (m : Option ℕ) → number_in (or_cause ZeroDivisor m) ≡ m
calculated_back None = refl
calculated_back (Some n) = refl

calculated_ends : (p : Packet) (m : Option ℕ) → Ends p (or_cause ZeroDivisor m) []
calculated_ends p None = tt
calculated_ends p (Some n) = tt

calculated_good : (p r : Packet) (operator : Arithmetic) (a b : ℕ) (Z : Type 0) → (err_of (calculated_found operator a b) ≡ Some ZeroDivisor → Z)
    → GoodFound p r (found (calculated_found operator a b) []) (found (calculated_found operator a b) []) (calculated operator a b) Z
calculated_good p r operator a b Z zero = record {
  meant = calculated_back (calculated operator a b);
  same = λ agree. refl;
  ends = calculated_ends p (calculated operator a b);
  zero = zero;
}

compared_both : (condition : ℕ → ℕ → Bool) (m n : Option ℕ) → checked m (λ a. checked n (λ b. decided (condition a b))) ≡ check_both condition m n
compared_both condition None n = refl
compared_both condition (Some a) None = refl
compared_both condition (Some a) (Some b) = refl

module _ (p r : Packet) (long : length p.captured ≡ length r.captured) where
  number_good : (n : ℕ) (Z : Type 0) → GoodFound p r (found (Ok n) []) (found (Ok n) []) (Some n) Z
  number_good n Z = record { meant = refl; same = λ agree. refl; ends = tt; zero = λ none. absurd cc }

  behind_good : (size index : ℕ) (Z : Type 0) → GoodFound p r (behind_header_found size index p) (behind_header_found size index r) (accessed layers.Tcp size p index) Z
  behind_good size index Z =
      let at : ℕ → ℕ = λ b. 14 + (index + 4 * bit_and b 15) % 2 ^ 32 in
      found_good p r (bytes_found 14 1 p) (bytes_found 14 1 r) (λ b. bytes_found (at b) size p) (λ b. bytes_found (at b) size r) (byte 14 p)
      (λ b. number_at p.captured (at b) size) Z (bytes_good p r long 14 1 Z) (λ b is. bytes_good p r long (at b) size Z)

  access_good : (layer : Layer) (size index : ℕ) (Z : Type 0) → GoodFound p r (access_found layer size index p) (access_found layer size index r) (accessed layer size p index) Z
  access_good layers.Ether size index Z = bytes_good p r long index size Z
  access_good layers.Ip size index Z = bytes_good p r long (14 + index) size Z
  access_good layers.Arp size index Z = bytes_good p r long (14 + index) size Z
  access_good layers.Rarp size index Z = bytes_good p r long (14 + index) size Z
  access_good layers.Tcp size index Z = behind_good size index Z
  access_good layers.Udp size index Z = behind_good size index Z
  access_good layers.Icmp size index Z = behind_good size index Z

  value_good : (v : Amount) → GoodFound p r (value_found v p) (value_found v r) (value v p) (DividesByZero p v)
  value_good (trees.number n) = number_good n ⊥
  value_good trees.wire_length = record {
    meant = refl;
    same = λ agree. ap (λ (w : ℕ). found (Ok w) (Length ∷ [])) (sym agree.0);
    ends = (tt, tt);
    zero = λ none. absurd cc;
  }
  value_good (trees.minus v) =
      found_good p r (value_found v p) (value_found v r) (λ n. found (calculated_found Subtract 0 n) []) (λ n. found (calculated_found Subtract 0 n) []) (value v p)
      (calculated Subtract 0) (DividesByZero p v) (value_good v) (λ n is. calculated_good p r Subtract 0 n (DividesByZero p v) (λ none. absurd cc))
  value_good (trees.binary o v w) =
      let Z = DividesByZero p (trees.binary o v w) in
      let made : ℕ → ℕ → Found = λ a b. found (calculated_found (arithmetic_of o) a b) [] in
      found_good p r (value_found v p) (value_found v r) (λ a. then_found (value_found w p) (made a)) (λ a. then_found (value_found w r) (made a)) (value v p)
      (λ a. option_and_then (calculated (arithmetic_of o) a) (value w p)) Z (weaker_found (λ z. inl (inl z)) (value_good v))
      (λ a first. found_good p r (value_found w p) (value_found w r) (made a) (made a) (value w p) (calculated (arithmetic_of o) a) Z
      (weaker_found (λ z. inl (inr z)) (value_good w))
      (λ b second. calculated_good p r (arithmetic_of o) a b Z
      (λ zero. let d = divides o a b zero in inr (d.0, second ∙ ap (λ n. Some n) d.1))))
  value_good (trees.accessor layer v size) =
      found_good p r (value_found v p) (value_found v r) (λ i. access_found layer (bytes_of size) i p) (λ i. access_found layer (bytes_of size) i r) (value v p)
      (accessed layer (bytes_of size) p) (DividesByZero p v) (value_good v) (λ i is. access_good layer (bytes_of size) i (DividesByZero p v))

  layer_good : (layer : Layer) (Z : Type 0) → Good p r (layer_asked layer p) (layer_asked layer r) (in_layer layer p) Z
  layer_good layers.Ether Z = known_good p r true Z
  layer_good layers.Ip Z = type_good p r long Z 0x0800
  layer_good layers.Arp Z = type_good p r long Z 0x0806
  layer_good layers.Rarp Z = type_good p r long Z 0x8035
  layer_good layers.Tcp Z = first_fragment_good p r long Z 6
  layer_good layers.Udp Z = first_fragment_good p r long Z 17
  layer_good layers.Icmp Z = first_fragment_good p r long Z 1

  layers_good : (v : Amount) (Z : Type 0) → Good p r (layers_asked v p) (layers_asked v r) (in_layers v p) Z
  layers_good (trees.number n) Z = known_good p r true Z
  layers_good trees.wire_length Z = known_good p r true Z
  layers_good (trees.minus v) Z = layers_good v Z
  layers_good (trees.binary o v w) Z = both_good (layers_good v Z) (layers_good w Z)
  layers_good (trees.accessor layer v size) Z = both_good (layer_good layer Z) (layers_good v Z)

  relation_good : (c : Comparison) (v w : Amount) → Good p r (relation_asked c v w p) (relation_asked c v w r) (relation_test c v w p) (DividesByZero p v ⊎ DividesByZero p w)
  relation_good c v w =
      let Z = DividesByZero p v ⊎ DividesByZero p w in
      let last : ℕ → ℕ → Asked = λ a b. asked (Ok (compared c a b)) [] in
      both_good (both_good (layers_good v Z) (layers_good w Z))
      (means (compared_both (compared c) (value v p) (value w p))
      (then_good p r (value_found v p) (value_found v r) (λ a. then_asked (value_found w p) (last a)) (λ a. then_asked (value_found w r) (last a)) (value v p)
      (λ a. checked (value w p) (λ b. decided (compared c a b))) Z (weaker_found (λ z. inl z) (value_good v))
      (λ a. then_good p r (value_found w p) (value_found w r) (last a) (last a) (value w p) (λ b. decided (compared c a b)) Z
      (weaker_found (λ z. inr z) (value_good w)) (λ b. known_good p r (compared c a b) Z))))

pub value_meant : (v : Amount) (p : Packet) → number_in (value_found v p).number ≡ value v p
value_meant v p = (value_good p p refl v).meant

pub relations_meant : RelationsAnswerAsMeant
relations_meant c v w p = (relation_good p p refl c v w).meant

pub relations_by_looks : RelationsAnswerByLooks
relations_by_looks c v w p r long agree = (relation_good p r long c v w).same agree

pub relations_end : RelationsEnd
relations_end c v w p = let good = relation_good p p refl c v w in (good.ends, λ zero. good.zero (ap err_of zero))
