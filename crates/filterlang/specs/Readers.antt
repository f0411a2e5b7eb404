-- Readers of tokens, and how a reader of values makes one of values that signs join.
use Rattle.std.specs.Prelude.{◌≡◌, ◌⊎◌, ℕ, zero, suc, true, List, [], ◌∷◌, length, Option, Some, None, Result, Ok, Err}
use Rattle.filterlang.specs.Types.{Fault, Kind}
use Rattle.filterlang.specs.Types.faults
use Rattle.filterlang.specs.Types.kind
use Rattle.filterlang.specs.Texts.{is_misreading}

infixl 10 ◌>>=◌
abbrev pub ◌>>=◌ : {A B : Type 0} → Option A → (A → Option B) → Option B
(Some x) >>= f = f x
None >>= f = None

-- What a call answered is what a reading gives: a value, seen by view, or none, unless memory was refused.
abbrev pub Gives : {X Y : Type 0} → (X → Y) → Result X Fault → Option Y → Type 0
Gives view (Ok x) read = read ≡ Some (view x)
Gives view (Err e) read = (e ≡ faults.NoMemory) ⊎ ((is_misreading e ≡ true) × (read ≡ None))

-- what the first token is, and those after it
abbrev pub next_of : List Kind → Option (Kind × List Kind)
next_of [] = None
next_of (token ∷ rest) = Some (token, rest)

abbrev pub bare_number_at : List Kind → Option (ℕ × List Kind)
bare_number_at (kind.Number n ∷ rest) = Some (n, rest)
bare_number_at rest = None

abbrev pub close_at : List Kind → Option (Unit {0} × List Kind)
close_at (kind.Close ∷ rest) = Some (tt, rest)
close_at rest = None

-- past the sign at the front, one level less is left
abbrev pub deeper : ℕ → List Kind → Option (ℕ × List Kind)
deeper (suc n) (sign ∷ tokens) = Some (n, tokens)
deeper n tokens = None

-- Reads a value: what it is, what can be inherited after it, and the tokens that follow. It is given what can be
-- inherited before it.
abbrev pub Reader : Type 0 → Type 0 → Type 0
Reader T Q = Q → List Kind → Option (T × Q × List Kind)

abbrev pub nothing : {T Q : Type 0} → Reader T Q
nothing q tokens = None

-- what a `)` follows, and the tokens after that
abbrev pub closed : {T Q : Type 0} → Option (T × Q × List Kind) → Option (T × Q × List Kind)
closed read = read >>= λ t. close_at t.2 >>= λ behind. Some (t.0, t.1, behind.1)

-- the signs that may stand between two values, and what they make of the two, where they make anything
pub record Joining (S T : Type 0) : Type 0 where
  pub sign : List Kind → Option (S × List Kind)
  pub join : S → T → T → Option T

-- After a value: what is read after a sign is joined to it, and so it goes on. Without a sign it is all.
abbrev pub turn : {S T Q : Type 0} → Joining S T → Reader T Q → (T → Q → List Kind → Option (T × Q × List Kind)) → T → Q → List Kind → Option (S × List Kind) → Option (T × Q × List Kind)
turn signs next on t q tokens None = Some (t, q, tokens)
turn signs next on t q tokens (Some s) = next q s.1 >>= λ u. signs.join s.0 t u.0 >>= λ v. on v u.1 u.2

-- as long as a sign follows, from the left, at most this many times
abbrev pub chain : {S T Q : Type 0} → Joining S T → Reader T Q → ℕ → T → Q → List Kind → Option (T × Q × List Kind)
chain signs next zero t q tokens = Some (t, q, tokens)
chain signs next (suc n) t q tokens = turn signs next (chain signs next n) t q tokens (signs.sign tokens)

-- a first value, and all that are joined to it
abbrev pub chained : {S T Q : Type 0} → Joining S T → Reader T Q → Reader T Q
chained signs next q tokens = next q tokens >>= λ t. chain signs next (length t.2) t.0 t.1 t.2
