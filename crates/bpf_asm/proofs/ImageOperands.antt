-- The operands of an image, each as tokens.
use Rattle.std.proofs.Common.{◌≡◌, ℕ, zero, suc, false, ◌+◌, ◌-◌, ◌<◌, ◌^◌, List, [], ◌∷◌, ◌++◌, length, replicate, refl, sym, subst, arith, append_assoc}
use Rattle.std.specs.Prelude.{codes}
use Rattle.std.specs.Fmt.{decimal}
use Rattle.bpfvm.specs.Images.{signed, hexadecimal, column}
use Rattle.bpf_asm.specs.Types.{Token}
use Rattle.bpf_asm.specs.Types.tokens
use Rattle.bpf_asm.specs.Words.{keywords}
use Rattle.bpf_asm.specs.Tokens.{is_word_byte, begins, front}
use Rattle.bpf_asm.proofs.Spelled.{Spells, spells_end, spells_wide, bytes_then, blanks_then, decimal_text, signed_text, hexadecimal_text, number_then, number_last}

-- the most bytes of an operand, with the places of a conditional jump
abbrev pub MAX : ℕ
MAX = 97

-- ---- Operands with a number

module _ (k : ℕ) (small : k < 2 ^ 32) where
  -- `[12]`, from its number on
  bracket_end : Spells (signed k ++ codes "]") (tokens.Number k ∷ tokens.CloseBracket ∷ []) 12
  unfolding front
  bracket_end = number_then (signed_text k small) (bytes_then (codes "]") (tokens.CloseBracket ∷ []) spells_end refl refl) refl

  -- `[12]`
  pub packet_text : Spells (codes "[" ++ signed k ++ codes "]") (tokens.OpenBracket ∷ tokens.Number k ∷ tokens.CloseBracket ∷ []) MAX
  unfolding front
  packet_text = spells_wide MAX (bytes_then (codes "[") (tokens.OpenBracket ∷ []) bracket_end refl refl) (omega arith)

  -- `[x + 12]`
  pub indirect_text : Spells (codes "[x + " ++ signed k ++ codes "]") (tokens.OpenBracket ∷ tokens.Index ∷ tokens.Plus ∷ tokens.Number k ∷ tokens.CloseBracket ∷ []) MAX
  unfolding front keywords
  indirect_text = spells_wide MAX (bytes_then (codes "[x + ") (tokens.OpenBracket ∷ tokens.Index ∷ tokens.Plus ∷ []) bracket_end refl refl) (omega arith)

  -- `M[3]`
  pub cell_text : Spells (codes "M[" ++ signed k ++ codes "]") (tokens.Memory ∷ tokens.OpenBracket ∷ tokens.Number k ∷ tokens.CloseBracket ∷ []) MAX
  unfolding front keywords
  cell_text = spells_wide MAX (bytes_then (codes "M[") (tokens.Memory ∷ tokens.OpenBracket ∷ []) bracket_end refl refl) (omega arith)

  -- `4*([14]&0xf)`
  pub header_length_text : Spells (codes "4*([" ++ signed k ++ codes "]&0xf)") (tokens.Number 4 ∷ tokens.Times ∷ tokens.Open ∷ tokens.OpenBracket ∷ tokens.Number k ∷ tokens.CloseBracket ∷ tokens.And ∷ tokens.Number 15 ∷ tokens.Close ∷ []) MAX
  unfolding front keywords
  header_length_text =
      let end = bytes_then (codes "]&0xf)") (tokens.CloseBracket ∷ tokens.And ∷ tokens.Number 15 ∷ tokens.Close ∷ []) spells_end refl refl in
      spells_wide MAX (bytes_then (codes "4*([") (tokens.Number 4 ∷ tokens.Times ∷ tokens.Open ∷ tokens.OpenBracket ∷ []) (number_then (signed_text k small) end refl) refl refl) (omega arith)

  -- `#12`
  pub signed_literal_text : Spells (codes "#" ++ signed k) (tokens.Hash ∷ tokens.Number k ∷ []) MAX
  unfolding front
  signed_literal_text = spells_wide MAX (bytes_then (codes "#") (tokens.Hash ∷ []) (number_last (signed_text k small)) refl refl) (omega arith)

  -- `#0xc`
  pub hexadecimal_literal_text : Spells (codes "#" ++ hexadecimal k) (tokens.Hash ∷ tokens.Number k ∷ []) MAX
  unfolding front
  hexadecimal_literal_text = spells_wide MAX (bytes_then (codes "#") (tokens.Hash ∷ []) (number_last (hexadecimal_text k small)) refl refl) (omega arith)

-- ---- Operands without one

pub length_text : Spells (codes "#pktlen") (tokens.Hash ∷ tokens.Length ∷ []) MAX
unfolding front keywords
length_text = record { lexes = refl; flat = refl; short = omega arith }

pub index_text : Spells (codes "x") (tokens.Index ∷ []) MAX
unfolding front keywords
index_text = record { lexes = refl; flat = refl; short = omega arith }

pub nothing_text : Spells [] [] MAX
nothing_text = spells_wide MAX spells_end (omega arith)

-- ---- Jumps

pub target_text : (place : ℕ) → place < 1000 → Spells (decimal place) (tokens.Number place ∷ []) MAX
target_text place small = spells_wide MAX (number_last (decimal_text place 3 (omega arith) (omega arith) (omega arith))) (omega arith)

module _ (first second : ℕ) (small : first < 1000) (small' : second < 1000) where
  -- both ways of a conditional jump
  abbrev ways_tokens : List Token
  ways_tokens = tokens.WhereTrue ∷ tokens.Number first ∷ tokens.WhereFalse ∷ tokens.Number second ∷ []

  ways_text : Spells (codes " jt " ++ (decimal first ++ ((9 ∷ codes "jf ") ++ decimal second))) ways_tokens 14
  unfolding front keywords
  ways_text =
      let place = decimal_text first 3 (omega arith) (omega arith) (omega arith) in
      let other = decimal_text second 3 (omega arith) (omega arith) (omega arith) in
      let end = bytes_then (9 ∷ codes "jf ") (tokens.WhereFalse ∷ []) (number_last other) refl refl in
      bytes_then (codes " jt ") (tokens.WhereTrue ∷ []) (number_then place end refl) refl refl

  -- after `x` in a column
  pub index_ways_text : Spells (column 16 (codes "x") ++ (codes " jt " ++ (decimal first ++ ((9 ∷ codes "jf ") ++ decimal second)))) (tokens.Index ∷ ways_tokens) MAX
  unfolding front keywords
  index_ways_text = spells_wide MAX (bytes_then (column 16 (codes "x")) (tokens.Index ∷ []) ways_text refl refl) (omega arith)

  -- after a constant in one
  pub literal_ways_text : (k : ℕ) → k < 2 ^ 32 → Spells (column 16 (codes "#" ++ hexadecimal k) ++ (codes " jt " ++ (decimal first ++ ((9 ∷ codes "jf ") ++ decimal second)))) (tokens.Hash ∷ tokens.Number k ∷ ways_tokens) MAX
  unfolding front
  literal_ways_text k small_k =
      let ways : List ℕ = codes " jt " ++ (decimal first ++ ((9 ∷ codes "jf ") ++ decimal second)) in
      let room = 16 - length (codes "#" ++ hexadecimal k) in
      let blanks = blanks_then room ways_text in
      let number : Spells (hexadecimal k ++ (replicate room 32 ++ ways)) (tokens.Number k ∷ ways_tokens) (66 + (room + 14)) = number_then (hexadecimal_text k small_k) blanks (ends room ways refl) in
      let whole = bytes_then (codes "#") (tokens.Hash ∷ []) number refl refl in
      let text : codes "#" ++ (hexadecimal k ++ (replicate room 32 ++ ways)) ≡ column 16 (codes "#" ++ hexadecimal k) ++ ways = sym (append_assoc (codes "#" ++ hexadecimal k) (replicate room 32) ways) in
      spells_wide MAX (subst (λ t. Spells t (tokens.Hash ∷ tokens.Number k ∷ ways_tokens) (1 + (66 + (room + 14)))) text whole) (omega arith)
    where
      ends : (n : ℕ) (rest : List ℕ) → begins is_word_byte rest ≡ false → begins is_word_byte (replicate n 32 ++ rest) ≡ false
      ends zero rest end = end
      ends (suc n) rest end = refl
