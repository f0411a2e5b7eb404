-- The grammar of values after pcap-filter(7), a constructor for each alternative.
--
-- `Arith n p ts v rest` says that ts begin with the value v, that rest follows it, that at most n signs are open within
-- one another, and that no operator in it, but within parentheses and brackets, binds more loosely than p. With p of 0
-- it has no such operator: it is an atom of the grammar, or a `-` before one. With p of `loosest` it is a value of the grammar.
use Rattle.std.specs.Prelude.{◌≡◌, ℕ, suc, false, List, ◌∷◌, Some}
use Rattle.filterlang.specs.Types.{Kind, Protocol, Operator, Minus, Layer, Size, One}
use Rattle.filterlang.specs.Types.kind
use Rattle.filter_tree.specs.Trees.{Amount, number, wire_length, minus, binary, accessor}
use Rattle.filterlang.specs.Operators.{precedence_of, loosest, is_barred, layer_of, size_of}

pub data Arith : ℕ → ℕ → List Kind → Amount → List Kind → Type 0 where
  -- atom := NUMBER
  arith_number : {n k : ℕ} {rest : List Kind} → Arith n 0 (kind.Number k ∷ rest) (number k) rest
  -- atom := NAMED
  arith_named : {n k : ℕ} {rest : List Kind} → Arith n 0 (kind.Named k ∷ rest) (number k) rest
  -- atom := len
  arith_length : {n : ℕ} {rest : List Kind} → Arith n 0 (kind.Len ∷ rest) wire_length rest
  -- a `-` before a value: it binds to the atom after it, or the next `-`
  arith_minus : {n : ℕ} {ts rest : List Kind} {v : Amount}
      → Arith n 0 ts v rest → Arith (suc n) 0 (kind.Operator Minus ∷ ts) (minus v) rest
  -- atom := "(" value ")"
  arith_open : {n : ℕ} {ts rest : List Kind} {v : Amount}
      → Arith n loosest ts v (kind.Close ∷ rest) → Arith (suc n) 0 (kind.Open ∷ ts) v rest
  -- atom := acc "[" value "]": one byte of a layer
  arith_byte : {n : ℕ} {ts rest : List Kind} {p : Protocol} {layer : Layer} {v : Amount}
      → layer_of p ≡ Some layer → Arith n loosest ts v (kind.CloseBracket ∷ rest)
      → Arith (suc n) 0 (kind.Protocol p ∷ kind.OpenBracket ∷ ts) (accessor layer v One) rest
  -- atom := acc "[" value ":" NUMBER "]": 1, 2 or 4 bytes of a layer
  arith_bytes : {n k : ℕ} {ts rest : List Kind} {p : Protocol} {layer : Layer} {v : Amount} {size : Size}
      → layer_of p ≡ Some layer → Arith n loosest ts v (kind.Colon ∷ kind.Number k ∷ kind.CloseBracket ∷ rest)
      → size_of k ≡ Some size
      → Arith (suc n) 0 (kind.Protocol p ∷ kind.OpenBracket ∷ ts) (accessor layer v size) rest
  -- a value may have fewer operators than it is allowed
  arith_tighter : {n p : ℕ} {ts rest : List Kind} {v : Amount} → Arith n p ts v rest → Arith n (suc p) ts v rest
  -- value OPERATOR value, from the left: the right side binds more tightly
  arith_binary : {n p : ℕ} {ts mid rest : List Kind} {op : Operator} {v w : Amount}
      → precedence_of op ≡ suc p → Arith n (suc p) ts v (kind.Operator op ∷ mid) → Arith n p mid w rest
      → is_barred op w ≡ false → Arith n (suc p) ts (binary op v w) rest
