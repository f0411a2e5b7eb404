-- A line has one way of being cut at its spaces, and is one instruction.
use Rattle.std.proofs.Common.{◌≡◌, ◌≢◌, ℕ, List, [], ◌∷◌, ◌++◌, All, Option, Some, None, IfSome, IfNone, refl, sym, ap, subst, ◌∙◌, arith, append_assoc}
use Rattle.std.proofs.lemmas.Str.Parse.{digit_at}
use Rattle.std.proofs.lemmas.List.Elements.{All-head, All-tail, All-from_get_or, All-same}
use Rattle.bpfvm.specs.declared.insn.Insn.{Insn}
use Rattle.bpfvm.specs.Lines.{AreFields}
use Rattle.bpfvm.specs.Listing.{space, IsNumber, IsLine}

-- no instruction is the line
abbrev pub NoLine : List ℕ → Type 0
NoLine line = (insn : Insn) → IsLine line insn → ⊥

-- an early return's goal, where the fact holds whatever is returned
pub early : (r : Option Insn) (line : List ℕ) → NoLine line → IfNone r (NoLine line)
early None line holds = holds
early (Some x) line holds = tt

-- a byte is in a list in which it stands
pub not-lacking : (byte : ℕ) (xs ys : List ℕ) → All (λ b. b ≢ byte) (xs ++ byte ∷ ys) → ⊥
not-lacking byte [] ys none = All-head (λ b. b ≢ byte) byte ys none refl
not-lacking byte (x ∷ xs) ys none = not-lacking byte xs ys (All-tail (λ b. b ≢ byte) x (xs ++ byte ∷ ys) none)

-- a list is cut at the first such byte in one way
pub cut-one : (byte : ℕ) (xs ys xs' ys' : List ℕ) → All (λ b. b ≢ byte) xs → All (λ b. b ≢ byte) xs' → xs ++ byte ∷ ys ≡ xs' ++ byte ∷ ys' → (xs ≡ xs') × (ys ≡ ys')
cut-one byte [] ys [] ys' none none' same = (refl, cc)
cut-one byte [] ys (x' ∷ xs') ys' none none' same = absurd (All-head (λ b. b ≢ byte) x' xs' none' cc)
cut-one byte (x ∷ xs) ys [] ys' none none' same = absurd (All-head (λ b. b ≢ byte) x xs none cc)
cut-one byte (x ∷ xs) ys (x' ∷ xs') ys' none none' same =
    let head : x ≡ x' = cc in
    let later = cut-one byte xs ys xs' ys' (All-tail (λ b. b ≢ byte) x xs none) (All-tail (λ b. b ≢ byte) x' xs' none') cc in
    let tail = later.0 in
    (cc, later.1)

-- a number has no space
pub number-no_space : (most : ℕ) (text : List ℕ) (n : ℕ) → IsNumber most text n → All (λ b. b ≢ space) text
number-no_space most text n is = All-from_get_or (λ b. b ≢ space) text 0 (λ i inside.
    let digit = digit_at text i is.numeral.1 inside in
    omega arith)

-- a line is what stands before its first space, and after it
abbrev pub Behind : (line : List ℕ) (i : Insn) → IsLine line i → List ℕ
Behind line i is = is.jt ++ (space ∷ (is.jf ++ (space ∷ is.k)))

-- the line, cut at its first space
pub line-first : (line : List ℕ) (i : Insn) (is : IsLine line i) → line ≡ is.code ++ (space ∷ Behind line i is)
line-first line i is = is.text ∙ simp append_assoc

-- with no space there is no instruction
pub NoLine-first : (line : List ℕ) → All (λ b. b ≢ space) line → NoLine line
NoLine-first line lacks i is =
    not-lacking space is.code (Behind line i is) (All-same (λ b. b ≢ space) (is.code ++ (space ∷ Behind line i is)) line (sym (line-first line i is)) lacks)

module _ (line code rest : List ℕ) (cut : line ≡ code ++ space ∷ rest) (none : All (λ b. b ≢ space) code) where
  -- the cut that was found is the first of the line
  first-cut : (i : Insn) (is : IsLine line i) → (code ≡ is.code) × (rest ≡ Behind line i is)
  first-cut i is = cut-one space code rest is.code (Behind line i is) none (number-no_space 65535 is.code i.code is.code_is) (sym cut ∙ line-first line i is)

  -- nor with one
  pub NoLine-second : All (λ b. b ≢ space) rest → NoLine line
  NoLine-second lacks i is =
      not-lacking space is.jt (is.jf ++ (space ∷ is.k)) (All-same (λ b. b ≢ space) (Behind line i is) rest (sym (first-cut i is).1) lacks)

  module _ (jt rest' : List ℕ) (cut' : rest ≡ jt ++ space ∷ rest') (none' : All (λ b. b ≢ space) jt) where
    -- and the one after it the second
    second-cut : (i : Insn) (is : IsLine line i) → (jt ≡ is.jt) × (rest' ≡ is.jf ++ (space ∷ is.k))
    second-cut i is = cut-one space jt rest' is.jt (is.jf ++ (space ∷ is.k)) none' (number-no_space 255 is.jt i.jt is.jt_is) (sym cut' ∙ (first-cut i is).1)

    -- nor with two
    pub NoLine-third : All (λ b. b ≢ space) rest' → NoLine line
    NoLine-third lacks i is =
        not-lacking space is.jf is.k (All-same (λ b. b ≢ space) (is.jf ++ (space ∷ is.k)) rest' (sym (second-cut i is).1) lacks)

    module _ (jf k : List ℕ) (cut'' : rest' ≡ jf ++ space ∷ k) (none'' : All (λ b. b ≢ space) jf) where
      -- with three, the four parts are the numbers
      pub four-fields : (i : Insn) → IsLine line i → AreFields code jt jf k i
      four-fields i is =
          let one = first-cut i is in
          let two = second-cut i is in
          let three = cut-one space jf k is.jf is.k none'' (number-no_space 255 is.jf i.jf is.jf_is) (sym cut'' ∙ two.1) in
          record {
            code_is = subst (λ (t : List ℕ). IsNumber 65535 t i.code) (sym one.0) is.code_is;
            jt_is = subst (λ (t : List ℕ). IsNumber 255 t i.jt) (sym two.0) is.jt_is;
            jf_is = subst (λ (t : List ℕ). IsNumber 255 t i.jf) (sym three.0) is.jf_is;
            k_is = subst (λ (t : List ℕ). IsNumber 4294967295 t i.k) (sym three.1) is.k_is;
          }

      -- and they are the line
      pub fields-line : (i : Insn) → AreFields code jt jf k i → IsLine line i
      fields-line i fields = record {
        code = code;
        jt = jt;
        jf = jf;
        k = k;
        text = cut ∙ ap (λ (t : List ℕ). code ++ space ∷ t) (cut' ∙ ap (λ (t : List ℕ). jt ++ space ∷ t) cut'') ∙ sym (simp append_assoc);
        code_is = fields.code_is;
        jt_is = fields.jt_is;
        jf_is = fields.jf_is;
        k_is = fields.k_is;
      }

      -- so that there is an instruction where there is one of the fields
      pub read-some : (r : Option Insn) → IfSome r (λ i. AreFields code jt jf k i) → IfSome r (λ i. IsLine line i)
      read-some None none = tt
      read-some (Some i) fields = fields-line i fields

      pub read-none : (r : Option Insn) → IfNone r ((i : Insn) → AreFields code jt jf k i → ⊥) → IfNone r (NoLine line)
      read-none None none = λ i is. none i (four-fields i is)
      read-none (Some i) fields = tt
