-- The tokens of a line, from the left.
use Rattle.std.proofs.Common.{◌≡◌, ℕ, zero, suc, ◌+◌, ◌-◌, ◌<◌, ◌≤◌, List, [], ◌∷◌, ◌++◌, length, drop, take, refl, sym, ap, ◌∙◌, subst, arith, append_assoc, length-drop, Result, Ok, Err}
use Rattle.std.proofs.Math.Seq.{take-length}
use Rattle.std.proofs.lemmas.List.{append-nil, drop-drop}
use Rattle.bpf_asm.specs.declared.token.Token.{Token}
use Rattle.bpf_asm.specs.declared.fault.Cause.{Cause}
use Rattle.bpf_asm.specs.declared.lexer.Front.{Front}
use Rattle.bpf_asm.specs.declared.lexer.Front.TheVariants as fronts
use Rattle.bpf_asm.specs.Tokens.{front, after, lexed, onto}

-- items before others, unless there are none for a fault
abbrev pub all_onto : {A E : Type 0} → List A → Result (List A) E → Result (List A) E
all_onto xs (Ok ys) = Ok (xs ++ ys)
all_onto xs (Err e) = Err e

-- one item more
pub onto_more : {A E : Type 0} (xs : List A) (x : A) (r : Result (List A) E) → all_onto xs (onto x r) ≡ all_onto (xs ++ x ∷ []) r
onto_more xs x (Ok ys) = ap Ok (sym (append_assoc xs (x ∷ []) ys))
onto_more xs x (Err e) = refl

-- no item yet
pub onto_none : {A E : Type 0} (r : Result (List A) E) → r ≡ all_onto [] r
onto_none (Ok ys) = refl
onto_none (Err e) = refl

-- the tokens past some bytes are those of the text after them
lexed-skip : (n : ℕ) (bs : List ℕ) → lexed n bs ≡ lexed 0 (drop n bs)
lexed-skip zero [] = refl
lexed-skip (suc n) [] = refl
lexed-skip zero (b ∷ bs) = refl
lexed-skip (suc n) (b ∷ bs) = lexed-skip n bs

-- past one byte and more
drop-one : (n : ℕ) (bs : List ℕ) → 0 < n → drop (n - 1) (drop 1 bs) ≡ drop n bs
drop-one n bs some = drop-drop (n - 1) 1 bs ∙ ap (λ m. drop m bs) (omega arith)

-- the tokens go on as what stands at the front says
by_front : (bs : List ℕ) (f : Front) → front bs ≡ f → lexed 0 bs ≡ after f (λ n. lexed n (drop 1 bs))
unfolding front
by_front [] f is = ap (λ g. after g (λ n. lexed n [])) is
by_front (b ∷ bs) f is = ap (λ g. after g (λ n. lexed n bs)) is

past : (bs : List ℕ) (n : ℕ) → 0 < n → lexed (n - 1) (drop 1 bs) ≡ lexed 0 (drop n bs)
past bs n some = lexed-skip (n - 1) (drop 1 bs) ∙ ap (lexed 0) (drop-one n bs some)

-- tokens up to a place, from where the rest of the line goes on
pub record LexedTo (line : List ℕ) (tokens : List Token) (at : ℕ) : Type 0 where
  pub within : at ≤ length line
  pub so_far : lexed 0 line ≡ all_onto tokens (lexed 0 (drop at line))

-- nothing is passed yet
pub lexed_begin : (line : List ℕ) (tokens : List Token) → tokens ≡ [] → LexedTo line tokens 0
lexed_begin line tokens none = rw none (record { within = omega arith; so_far = onto_none (lexed 0 line) })

module _ {line : List ℕ} {tokens : List Token} {at : ℕ} (to : LexedTo line tokens at) where
  -- past blanks
  pub lexed_blank : (n : ℕ) → front (drop at line) ≡ fronts.Blank n → 0 < n → n ≤ length (drop at line) → LexedTo line tokens (at + n)
  lexed_blank n is some inside = record {
    within = omega (arith, to.within, length-drop at line);
    so_far = to.so_far ∙ ap (all_onto tokens) (by_front (drop at line) (fronts.Blank n) is ∙ past (drop at line) n some ∙ ap (lexed 0) (drop-drop n at line));
  }

  -- past a token, which is one more
  pub lexed_token : (token : Token) (n : ℕ) → front (drop at line) ≡ fronts.Token token n → 0 < n → n ≤ length (drop at line) → LexedTo line (tokens ++ token ∷ []) (at + n)
  lexed_token token n is some inside = record {
    within = omega (arith, to.within, length-drop at line);
    so_far =
        to.so_far
        ∙ ap (all_onto tokens) (by_front (drop at line) (fronts.Token token n) is ∙ ap (onto token) (past (drop at line) n some ∙ ap (lexed 0) (drop-drop n at line)))
        ∙ onto_more tokens token (lexed 0 (drop (at + n) line));
  }

  -- at the end these are the tokens of the line
  pub lexed_all : front (drop at line) ≡ fronts.End → lexed 0 line ≡ Ok tokens
  lexed_all is = to.so_far ∙ ap (all_onto tokens) (by_front (drop at line) fronts.End is) ∙ ap Ok (append-nil tokens)

  -- where it goes on no more, the line has no tokens
  pub lexed_stuck : (cause : Cause) → front (drop at line) ≡ fronts.Stuck cause → lexed 0 line ≡ Err cause
  lexed_stuck cause is = to.so_far ∙ ap (all_onto tokens) (by_front (drop at line) (fronts.Stuck cause) is)

-- the rest of a line, as the code slices it
pub rest_whole : (line : List ℕ) (at : ℕ) → take (length line - at) (drop at line) ≡ drop at line
rest_whole line at = ap (λ n. take n (drop at line)) (sym (length-drop at line)) ∙ take-length (drop at line)

pub rest_is : (line : List ℕ) (at : ℕ) (f : Front) → f ≡ front (take (length line - at) (drop at line)) → front (drop at line) ≡ f
rest_is line at f e = sym (e ∙ ap front (rest_whole line at))

pub rest_has : (line : List ℕ) (at n : ℕ) → n ≤ length (take (length line - at) (drop at line)) → n ≤ length (drop at line)
rest_has line at n inside = subst (λ (xs : List ℕ). n ≤ length xs) (rest_whole line at) inside
