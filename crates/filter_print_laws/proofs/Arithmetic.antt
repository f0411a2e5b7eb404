-- The tokens of a value's canonical text are read as it.
use Rattle.std.proofs.Common.{◌≡◌, ℕ, zero, suc, ◌<◌, ◌≤◌, Bool, true, false, List, ◌∷◌, Some, refl, sym, ap, ◌∙◌, subst, arith, ◌==◌}
use Rattle.std.specs.Prelude.{◌^◌}
use Rattle.std.proofs.lemmas.Bool.{eqb-true, eqb-false}
use Rattle.filterlang.specs.declared.token.Kind.{Kind}
use Rattle.filterlang.specs.declared.token.Kind.TheVariants as kind
use Rattle.filter_tree.specs.declared.tree.Operator.{Operator}
use Rattle.filter_tree.specs.declared.tree.Operator.TheVariants as operator
use Rattle.filter_tree.specs.declared.tree.Layer.{Layer}
use Rattle.filter_tree.specs.declared.tree.Layer.TheVariants as layers
use Rattle.filter_tree.specs.declared.tree.Size.{Size}
use Rattle.filter_tree.specs.declared.tree.Size.TheVariants as sizes
use Rattle.filter_tree.specs.Trees.{Tree, Amount, number, wire_length, minus, binary, accessor}
use Rattle.filterlang.specs.Operators.{precedence_of, loosest, is_barred, layer_of}
use Rattle.filterlang.specs.Values.{Arith, arith_number, arith_length, arith_minus, arith_open, arith_byte, arith_bytes, arith_tighter, arith_binary}
use Rattle.filterlang.specs.Grammar.{operator_follows, after_matching, begins_relation}
use Rattle.filter_print_laws.proofs.Basics.{both_true}
use Rattle.filter_print.specs.Parentheses.{is_binary, left_enclosed, right_enclosed, negated_enclosed, is_joined, behind, fits_behind, value_fits}
use Rattle.filter_print_laws.proofs.Sequences.{Parentheses, Before, within, layer_word, size_tokens, value_tokens}

-- numbers fit a token, and nothing is divided by a number that is 0
abbrev pub IsValue : Amount → Type 0
IsValue (number n) = n < 2 ^ 32
IsValue wire_length = Unit {0}
IsValue (minus v) = IsValue v
IsValue (binary op v w) = IsValue v × IsValue w × (is_barred op w ≡ false)
IsValue (accessor layer v size) = IsValue v

-- how loosely what a value is made of binds
abbrev pub level : Amount → ℕ
level (binary op v w) = precedence_of op
level _ = 0

-- none binds more loosely than the loosest
precedence_most : (op : Operator) → precedence_of op ≤ 6
precedence_most operator.Plus = omega arith
precedence_most operator.Minus = omega arith
precedence_most operator.Times = omega arith
precedence_most operator.Divide = omega arith
precedence_most operator.Modulo = omega arith
precedence_most operator.BitAnd = omega arith
precedence_most operator.BitXor = omega arith
precedence_most operator.BitOr = omega arith
precedence_most operator.ShiftLeft = omega arith
precedence_most operator.ShiftRight = omega arith

-- nor does a value
pub level_most : (v : Amount) → level v ≤ 6
level_most (number n) = omega arith
level_most wire_length = omega arith
level_most (minus v) = omega arith
level_most (binary op v w) = precedence_most op
level_most (accessor layer v size) = omega arith

-- an operator has a precedence below its own
pub precedence_some : (op : Operator) → (k : ℕ) × (precedence_of op ≡ suc k)
precedence_some operator.Plus = (1, refl)
precedence_some operator.Minus = (1, refl)
precedence_some operator.Times = (0, refl)
precedence_some operator.Divide = (0, refl)
precedence_some operator.Modulo = (0, refl)
precedence_some operator.BitAnd = (3, refl)
precedence_some operator.BitXor = (4, refl)
precedence_some operator.BitOr = (5, refl)
precedence_some operator.ShiftLeft = (2, refl)
precedence_some operator.ShiftRight = (2, refl)

-- what binds tightly may stand where what binds loosely may
raise : {n : ℕ} {ts rest : List Kind} {v : Amount} (b a : ℕ) → a ≤ b → Arith n a ts v rest → Arith n b ts v rest
raise {n} {ts} {rest} {v} zero a le h = let same : a ≡ 0 = omega arith in subst (λ x. Arith n x ts v rest) same h
raise {n} {ts} {rest} {v} (suc b) a le h = at_test (a == suc b) refl (raise b a)
  where
    at_test : (is : Bool) → (a == suc b) ≡ is → (a ≤ b → Arith n a ts v rest → Arith n b ts v rest) → Arith n (suc b) ts v rest
    at_test true same on = subst (λ x. Arith n x ts v rest) (eqb-true a (suc b) same) h
    at_test false other on = let apart = eqb-false a (suc b) other in arith_tighter (on (omega arith) h)

-- a value is read from its tokens, whatever follows them
abbrev pub IsValueRead : Parentheses → ℕ → Amount → Type 0
IsValueRead chosen n v = (ks : List Kind) → Arith n (level v) (value_tokens chosen v ks) v ks

-- so is one within parentheses, or without where it binds tightly enough
pub value_within : (is : Bool) (chosen : Parentheses) (v : Amount) (n k : ℕ) → fits_behind (value_fits chosen v) (behind is n) ≡ true → (is ≡ false → level v ≤ k) → ((m : ℕ) → value_fits chosen v m ≡ true → IsValueRead chosen m v) → (ks : List Kind) → Arith n k (within is (value_tokens chosen v) ks) v ks
value_within true chosen v zero k fits tight read ks = absurd cc
value_within true chosen v (suc m) k fits tight read ks = raise k 0 (omega arith) (arith_open (raise 6 (level v) (level_most v) (read m fits (kind.Close ∷ ks))))
value_within false chosen v n k fits tight read ks = raise k (level v) (tight refl) (read n fits ks)

-- a value without an operator
pub bare_level : (v : Amount) → is_binary v ≡ false → level v ≤ 0
bare_level (number n) e = omega arith
bare_level wire_length e = omega arith
bare_level (minus v) e = omega arith
bare_level (binary op v w) e = absurd cc
bare_level (accessor layer v size) e = omega arith

-- parentheses that are left out are not needed
pub record Suits (chosen : Parentheses) : Type 0 where
  pub left : (op : Operator) (v : Amount) → left_enclosed chosen op v ≡ false → level v ≤ precedence_of op
  pub right : (op : Operator) (v : Amount) (k : ℕ) → precedence_of op ≡ suc k → right_enclosed chosen op v ≡ false → level v ≤ k
  pub behind_not : (t : Tree) → negated_enclosed chosen t ≡ false → is_joined t ≡ false

-- the layer that a word stands for
layer_is : (layer : Layer) → layer_of (layer_word layer) ≡ Some layer
layer_is layers.Ether = refl
layer_is layers.Ip = refl
layer_is layers.Arp = refl
layer_is layers.Rarp = refl
layer_is layers.Tcp = refl
layer_is layers.Udp = refl
layer_is layers.Icmp = refl

-- what stands within brackets, and its size
accessor_read : (n : ℕ) (layer : Layer) (v : Amount) (size : Size) (ts ks : List Kind) → Arith n loosest ts v (size_tokens size ks) → Arith (suc n) 0 (kind.Protocol (layer_word layer) ∷ kind.OpenBracket ∷ ts) (accessor layer v size) ks
accessor_read n layer v sizes.One ts ks h = arith_byte (layer_is layer) h
accessor_read n layer v sizes.Two ts ks h = arith_bytes (layer_is layer) h refl
accessor_read n layer v sizes.Four ts ks h = arith_bytes (layer_is layer) h refl

-- each value is
pub values_read : (chosen : Parentheses) → Suits chosen → (v : Amount) → IsValue v → (n : ℕ) → value_fits chosen v n ≡ true → IsValueRead chosen n v
unfolding value_fits
values_read chosen suits (number k) is n fits ks = arith_number
values_read chosen suits wire_length is n fits ks = arith_length
values_read chosen suits (minus v) is zero fits ks = absurd cc
values_read chosen suits (minus v) is (suc n) fits ks = arith_minus (value_within (is_binary v) chosen v n 0 fits (bare_level v) (λ m f. values_read chosen suits v is m f) ks)
values_read chosen suits (binary op v w) is n fits ks =
    let both = both_true (fits_behind (value_fits chosen v) (behind (left_enclosed chosen op v) n)) (fits_behind (value_fits chosen w) (behind (right_enclosed chosen op w) n)) fits in
    let p = precedence_some op in
    let left = value_within (left_enclosed chosen op v) chosen v n (precedence_of op) both.0 (suits.left op v) (λ m f. values_read chosen suits v is.0 m f) (kind.Operator op ∷ within (right_enclosed chosen op w) (value_tokens chosen w) ks) in
    let right = value_within (right_enclosed chosen op w) chosen w n p.0 both.1 (suits.right op w p.0 p.1) (λ m f. values_read chosen suits w is.1 m f) ks in
    subst (λ x. Arith n x (value_tokens chosen (binary op v w) ks) (binary op v w) ks) (sym p.1)
    (arith_binary p.1 (subst (λ x. Arith n x (within (left_enclosed chosen op v) (value_tokens chosen v) (kind.Operator op ∷ within (right_enclosed chosen op w) (value_tokens chosen w) ks)) v (kind.Operator op ∷ within (right_enclosed chosen op w) (value_tokens chosen w) ks)) p.1 left) right is.2)
values_read chosen suits (accessor layer v size) is zero fits ks = absurd cc
values_read chosen suits (accessor layer v size) is (suc n) fits ks =
    accessor_read n layer v size (value_tokens chosen v (size_tokens size ks)) ks (raise 6 (level v) (level_most v) (values_read chosen suits v is n fits (size_tokens size ks)))

-- parentheses that are open are closed within a value
size_matched : (d : ℕ) (size : Size) (ks : List Kind) → after_matching d (size_tokens size ks) ≡ after_matching d ks
size_matched d sizes.One ks = refl
size_matched d sizes.Two ks = refl
size_matched d sizes.Four ks = refl

-- in parentheses or without
within_matched : (d : ℕ) (is : Bool) (inner : Before) → ((e : ℕ) (ks : List Kind) → after_matching e (inner ks) ≡ after_matching e ks) → (ks : List Kind) → after_matching d (within is inner ks) ≡ after_matching d ks
within_matched d true inner h ks = h (suc d) (kind.Close ∷ ks)
within_matched d false inner h ks = h d ks

-- in each value
pub value_matched : (chosen : Parentheses) (v : Amount) (d : ℕ) (ks : List Kind) → after_matching d (value_tokens chosen v ks) ≡ after_matching d ks
value_matched chosen (number n) d ks = refl
value_matched chosen wire_length d ks = refl
value_matched chosen (minus v) d ks = within_matched d (is_binary v) (value_tokens chosen v) (λ e ls. value_matched chosen v e ls) ks
value_matched chosen (binary op v w) d ks =
    within_matched d (left_enclosed chosen op v) (value_tokens chosen v) (λ e ls. value_matched chosen v e ls) (kind.Operator op ∷ within (right_enclosed chosen op w) (value_tokens chosen w) ks)
    ∙ within_matched d (right_enclosed chosen op w) (value_tokens chosen w) (λ e ls. value_matched chosen w e ls) ks
value_matched chosen (accessor layer v size) d ks = value_matched chosen v d (size_tokens size ks) ∙ size_matched d size ks

-- and in a side of a comparison
pub side_matched : (is : Bool) (chosen : Parentheses) (v : Amount) (d : ℕ) (ks : List Kind) → after_matching d (within is (value_tokens chosen v) ks) ≡ after_matching d ks
side_matched is chosen v d ks = within_matched d is (value_tokens chosen v) (value_matched chosen v) ks

-- a value before a sign begins a relation
side_begins : (is : Bool) (chosen : Parentheses) (v : Amount) → ((ks : List Kind) → operator_follows ks ≡ true → begins_relation (value_tokens chosen v ks) ≡ true) → (ks : List Kind) → operator_follows ks ≡ true → begins_relation (within is (value_tokens chosen v) ks) ≡ true
side_begins true chosen v h ks sign = ap operator_follows (value_matched chosen v 0 (kind.Close ∷ ks)) ∙ sign
side_begins false chosen v h ks sign = h ks sign

-- so each value does
value_begins : (chosen : Parentheses) (v : Amount) (ks : List Kind) → operator_follows ks ≡ true → begins_relation (value_tokens chosen v ks) ≡ true
value_begins chosen (number n) ks sign = sign
value_begins chosen wire_length ks sign = refl
value_begins chosen (minus v) ks sign = refl
value_begins chosen (binary op v w) ks sign =
    side_begins (left_enclosed chosen op v) chosen v (λ ls s. value_begins chosen v ls s) (kind.Operator op ∷ within (right_enclosed chosen op w) (value_tokens chosen w) ks) refl
value_begins chosen (accessor layer v size) ks sign = refl

-- and each side of a comparison
pub relation_begins : (is : Bool) (chosen : Parentheses) (v : Amount) (ks : List Kind) → operator_follows ks ≡ true → begins_relation (within is (value_tokens chosen v) ks) ≡ true
relation_begins is chosen v ks sign = side_begins is chosen v (value_begins chosen v) ks sign
