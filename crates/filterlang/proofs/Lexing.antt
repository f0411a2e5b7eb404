-- One list of tokens, or one place where the text is stuck.
use Rattle.std.proofs.Common.{◌≡◌, ℕ, zero, suc, ◌+◌, ◌-◌, ◌<◌, ◌≤◌, List, [], ◌∷◌, ◌++◌, length, drop, refl, sym, ap, ◌∙◌, subst, arith, append_assoc, ◌⊎◌, inl, inr, ⊎_elim, length-drop, take, Result, Ok, Err}
use Rattle.std.specs.Prelude.{IfOk, IfErr, IsOkUnless, IsErrOf}
use Rattle.std.proofs.Math.Seq.{take-length}
use Rattle.std.proofs.lemmas.List.{append-nil}
use Rattle.filterlang.specs.declared.token.Kind.{Kind}
use Rattle.filterlang.specs.declared.token.Token.{Token}
use Rattle.filterlang.specs.declared.fault.Fault.{Fault}
use Rattle.filterlang.specs.declared.fault.Fault.TheVariants as faults
use Rattle.filterlang.specs.declared.lexer.TheConstants.{MAX_TEXT}
use Rattle.filterlang.specs.declared.lexer.Cause.{Cause}
use Rattle.filterlang.specs.declared.lexer.Cause.TheVariants.{BadByte, BadWord, BadNumber}
use Rattle.filterlang.specs.declared.lexer.Front.{Front}
use Rattle.filterlang.specs.declared.lexer.Front.TheVariants as fronts
use Rattle.filterlang.specs.Tokens.{front, placed, Lexes, lexes_end, lexes_blank, lexes_token, Stuck, stuck_here, stuck_blank, stuck_token, AreInOrder, IsFaultOf, fault_at}
use Rattle.filterlang.specs.Finding.{IsWithin}
use Rattle.filterlang.proofs.Within.{front_within}

-- two tokens at one place are one
same_kind : {f : Front} {k l : Kind} {m n : ℕ} → f ≡ fronts.Token k m → f ≡ fronts.Token l n → (k ≡ l) × (m ≡ n)
same_kind e h = (cc, cc)

-- from a place on a text has one list of tokens
pub one_list : {text : List ℕ} {at : ℕ} {xs ys : List Token} → Lexes text at xs → Lexes text at ys → xs ≡ ys
one_list (lexes_end e) (lexes_end h) = refl
one_list (lexes_end e) (lexes_blank h s) = absurd cc
one_list (lexes_end e) (lexes_token h s) = absurd cc
one_list (lexes_blank e r) (lexes_end h) = absurd cc
one_list (lexes_blank e r) (lexes_blank h s) = one_list r s
one_list (lexes_blank e r) (lexes_token h s) = absurd cc
one_list (lexes_token e r) (lexes_end h) = absurd cc
one_list (lexes_token e r) (lexes_blank h s) = absurd cc
one_list {text} {at} (lexes_token {kind = k} {n = m} {tokens = xs} e r) (lexes_token {kind = l} {n = n} {tokens = ys} h s) =
    let same = same_kind e h in
    let rest = one_list r (subst (λ i. Lexes text (at + i) ys) (sym same.1) s) in
    λ i. placed at (same.0 i) (same.1 i) ∷ rest i

-- it is stuck at one place for one cause
pub one_place : {text : List ℕ} {at : ℕ} {c d : Cause} {p q : ℕ} → Stuck text at c p → Stuck text at d q → (c ≡ d) × (p ≡ q)
one_place (stuck_here e) (stuck_here h) = (cc, refl)
one_place (stuck_here e) (stuck_blank h s) = absurd cc
one_place (stuck_here e) (stuck_token h s) = absurd cc
one_place (stuck_blank e r) (stuck_here h) = absurd cc
one_place (stuck_blank e r) (stuck_blank h s) = one_place r s
one_place (stuck_blank e r) (stuck_token h s) = absurd cc
one_place (stuck_token e r) (stuck_here h) = absurd cc
one_place (stuck_token e r) (stuck_blank h s) = absurd cc
one_place {text} {at} {c} {d} {p} {q} (stuck_token e r) (stuck_token h s) = one_place r (subst (λ i. Stuck text (at + i) d q) (sym (same_kind e h).1) s)

-- it has no tokens where it is stuck
pub never_both : {text : List ℕ} {at : ℕ} {xs : List Token} {c : Cause} {p : ℕ} → Lexes text at xs → Stuck text at c p → ⊥
never_both (lexes_end e) (stuck_here h) = absurd cc
never_both (lexes_end e) (stuck_blank h s) = absurd cc
never_both (lexes_end e) (stuck_token h s) = absurd cc
never_both (lexes_blank e r) (stuck_here h) = absurd cc
never_both (lexes_blank e r) (stuck_blank h s) = never_both r s
never_both (lexes_blank e r) (stuck_token h s) = absurd cc
never_both (lexes_token e r) (stuck_here h) = absurd cc
never_both (lexes_token e r) (stuck_blank h s) = absurd cc
never_both {text} {at} {xs} {c} {p} (lexes_token e r) (stuck_token h s) = never_both r (subst (λ i. Stuck text (at + i) c p) (sym (same_kind e h).1) s)

-- what stands at a place lies within the text
within_at : (text : List ℕ) (at : ℕ) (f : Front) → front (drop at text) ≡ f → IsWithin f (length (drop at text))
within_at text at f e = subst (λ g. IsWithin g (length (drop at text))) e (front_within (drop at text))

-- tokens that follow a place follow what is before it
from_earlier : (before at bytes : ℕ) (xs : List Token) → before ≤ at → AreInOrder at bytes xs → AreInOrder before bytes xs
from_earlier before at bytes [] le h = omega arith
from_earlier before at bytes (x ∷ xs) le h = (omega arith, h.1, h.2)

-- its tokens follow one another within it
pub in_order : {text : List ℕ} {at : ℕ} {xs : List Token} → at ≤ length text → Lexes text at xs → AreInOrder at (length text) xs
in_order le (lexes_end e) = le
in_order {text} {at} le (lexes_blank e r) = let bytes = within_at text at fronts.Blank e in from_earlier at (at + 1) (length text) _ (omega arith) (in_order (omega (arith, length-drop at text)) r)
in_order {text} {at} le (lexes_token {kind = k} {n = n} e r) = let bytes = within_at text at (fronts.Token k n) e in (omega arith, omega arith, in_order (omega (arith, length-drop at text)) r)

-- tokens up to a place, from where the rest of the text goes on
pub record LexedTo (text : List ℕ) (xs : List Token) (at : ℕ) : Type 0 where
  pub within : at ≤ length text
  pub lexes_on : (more : List Token) → Lexes text at more → Lexes text 0 (xs ++ more)
  pub stuck_on : (cause : Cause) (place : ℕ) → Stuck text at cause place → Stuck text 0 cause place

module _ {text : List ℕ} {xs : List Token} {at : ℕ} (so_far : LexedTo text xs at) where
  -- past a blank
  pub lexed_blank : front (drop at text) ≡ fronts.Blank → LexedTo text xs (at + 1)
  lexed_blank e = record {
    within = let bytes = within_at text at fronts.Blank e in omega (arith, so_far.within, length-drop at text);
    lexes_on = λ more r. so_far.lexes_on more (lexes_blank e r);
    stuck_on = λ cause place r. so_far.stuck_on cause place (stuck_blank e r);
  }

  -- past a token, which is one more
  pub lexed_token : (kind : Kind) (n : ℕ) → front (drop at text) ≡ fronts.Token kind n → LexedTo text (xs ++ placed at kind n ∷ []) (at + n)
  lexed_token kind n e = record {
    within = let bytes = within_at text at (fronts.Token kind n) e in omega (arith, so_far.within, length-drop at text);
    lexes_on = λ more r. rw append_assoc (so_far.lexes_on (placed at kind n ∷ more) (lexes_token e r));
    stuck_on = λ cause place r. so_far.stuck_on cause place (stuck_token e r);
  }

  -- at the end these are the tokens of the text
  pub lexed_all : front (drop at text) ≡ fronts.End → Lexes text 0 xs
  lexed_all e = rw (sym (append-nil xs)) (so_far.lexes_on [] (lexes_end e))

  -- where it goes on no more, the text is stuck
  pub lexed_stuck : (cause : Cause) → front (drop at text) ≡ fronts.Stuck cause → Stuck text 0 cause at
  lexed_stuck cause e = so_far.stuck_on cause at (stuck_here e)

-- a text that is stuck has the fault of that cause and place
pub fault_is : (text : List ℕ) (cause : Cause) (place : ℕ) → length text ≤ MAX_TEXT → Stuck text 0 cause place → IsFaultOf text (fault_at cause place)
fault_is text BadByte place le stuck = (le, stuck)
fault_is text BadWord place le stuck = (le, stuck)
fault_is text BadNumber place le stuck = (le, stuck)

-- a fault of a text that lexes is that memory ran out
pub lexed_fault : (text : List ℕ) (xs : List Token) (f : Fault) → length text ≤ MAX_TEXT → Lexes text 0 xs → IsFaultOf text f → f ≡ faults.NoMemory
lexed_fault text xs faults.TextTooLong le tokens is = absurd (omega arith)
lexed_fault text xs (faults.BadByte place) le tokens is = absurd (never_both tokens is.1)
lexed_fault text xs (faults.BadWord place) le tokens is = absurd (never_both tokens is.1)
lexed_fault text xs (faults.BadNumber place) le tokens is = absurd (never_both tokens is.1)
lexed_fault text xs faults.NoMemory le tokens is = refl
lexed_fault text xs (faults.Syntax place) le tokens is = absurd is
lexed_fault text xs (faults.NoQualifier place) le tokens is = absurd is
lexed_fault text xs (faults.BadQualifier place) le tokens is = absurd is
lexed_fault text xs (faults.BadIdentifier place) le tokens is = absurd is
lexed_fault text xs (faults.NetBits place) le tokens is = absurd is
lexed_fault text xs (faults.OutOfRange place) le tokens is = absurd is
lexed_fault text xs (faults.DivideByZero place) le tokens is = absurd is
lexed_fault text xs (faults.TooNested place) le tokens is = absurd is

-- a fault of a text that is stuck names why and where, or is that memory ran out
pub stuck_fault : (text : List ℕ) (cause : Cause) (place : ℕ) (f : Fault) → length text ≤ MAX_TEXT → Stuck text 0 cause place → IsFaultOf text f → (f ≡ fault_at cause place) ⊎ (f ≡ faults.NoMemory)
stuck_fault text cause place faults.TextTooLong le stuck is = absurd (omega arith)
stuck_fault text cause place (faults.BadByte p) le stuck is = let one = one_place is.1 stuck in inl (ap (λ d. fault_at d p) one.0 ∙ ap (fault_at cause) one.1)
stuck_fault text cause place (faults.BadWord p) le stuck is = let one = one_place is.1 stuck in inl (ap (λ d. fault_at d p) one.0 ∙ ap (fault_at cause) one.1)
stuck_fault text cause place (faults.BadNumber p) le stuck is = let one = one_place is.1 stuck in inl (ap (λ d. fault_at d p) one.0 ∙ ap (fault_at cause) one.1)
stuck_fault text cause place faults.NoMemory le stuck is = inr refl
stuck_fault text cause place (faults.Syntax p) le stuck is = absurd is
stuck_fault text cause place (faults.NoQualifier p) le stuck is = absurd is
stuck_fault text cause place (faults.BadQualifier p) le stuck is = absurd is
stuck_fault text cause place (faults.BadIdentifier p) le stuck is = absurd is
stuck_fault text cause place (faults.NetBits p) le stuck is = absurd is
stuck_fault text cause place (faults.OutOfRange p) le stuck is = absurd is
stuck_fault text cause place (faults.DivideByZero p) le stuck is = absurd is
stuck_fault text cause place (faults.TooNested p) le stuck is = absurd is

-- the rest of a text, as the code slices it
pub rest_is : (text : List ℕ) (at : ℕ) (f : Front) → f ≡ front (take (length text - at) (drop at text)) → front (drop at text) ≡ f
rest_is text at f e = sym (e ∙ ap front (ap (λ n. take n (drop at text)) (sym (length-drop at text)) ∙ take-length (drop at text)))

-- what the answer of a text that lexes is
pub lexed_unless : {A : Type 0} (r : Result A Fault) (text : List ℕ) (xs : List Token) → length text ≤ MAX_TEXT → Lexes text 0 xs → IfErr r (IsFaultOf text) → IsOkUnless r faults.NoMemory
lexed_unless (Ok x) text xs le tokens fault = tt
lexed_unless (Err f) text xs le tokens fault = lexed_fault text xs f le tokens fault

-- what the answer of a text that is stuck is
pub stuck_unless : {A : Type 0} (r : Result A Fault) (view : A → List Token) (text : List ℕ) (cause : Cause) (place : ℕ) → length text ≤ MAX_TEXT → Stuck text 0 cause place → IfOk r (λ found. Lexes text 0 (view found)) → IfErr r (IsFaultOf text) → IsErrOf r (fault_at cause place) ⊎ IsErrOf r faults.NoMemory
stuck_unless (Ok x) view text cause place le stuck found fault = absurd (never_both found stuck)
stuck_unless (Err f) view text cause place le stuck found fault = ⊎_elim (λ e. inl (ap Err e)) (λ e. inr (ap Err e)) (stuck_fault text cause place f le stuck fault)

-- it has tokens from there on, or is stuck
abbrev pub HasAnswer : List ℕ → ℕ → Type 0
HasAnswer text at = ((xs : List Token) × Lexes text at xs) ⊎ ((c : Cause) × (p : ℕ) × Stuck text at c p)

-- from each place on the text has tokens or is stuck, by how much of it is left
has_answer : (fuel : ℕ) (text : List ℕ) (at : ℕ) → at ≤ length text → length text < at + fuel → HasAnswer text at
has_answer zero text at le few = absurd (omega arith)
has_answer (suc fuel) text at le few = by_front (front (drop at text)) refl (has_answer fuel text)
  where
    by_front : (f : Front) → front (drop at text) ≡ f → ((later : ℕ) → later ≤ length text → length text < later + fuel → HasAnswer text later) → HasAnswer text at
    by_front fronts.End e on = inl ([], lexes_end e)
    by_front fronts.Blank e on =
        let bytes = within_at text at fronts.Blank e in
        ⊎_elim (λ found. inl (found.0, lexes_blank e found.1)) (λ found. inr (found.0, found.1, stuck_blank e found.2)) (on (at + 1) (omega (arith, length-drop at text)) (omega (arith, few)))
    by_front (fronts.Token kind n) e on =
        let bytes = within_at text at (fronts.Token kind n) e in
        ⊎_elim (λ found. inl (placed at kind n ∷ found.0, lexes_token e found.1)) (λ found. inr (found.0, found.1, stuck_token e found.2)) (on (at + n) (omega (arith, length-drop at text)) (omega (arith, few)))
    by_front (fronts.Stuck cause) e on = inr (cause, at, stuck_here e)

-- each text has tokens or is stuck
pub answered : (text : List ℕ) → HasAnswer text 0
answered text = has_answer (length text + 1) text 0 (omega arith) (omega arith)
