-- How values are joined: as many turns as there are tokens are enough.
use Rattle.std.proofs.Common.{◌≡◌, ℕ, zero, suc, ◌<◌, ◌≤◌, List, length, Option, Some, None, refl, sym, ap, ◌∙◌, arith, le_refl}
use Rattle.std.specs.Prelude.{IfSome}
use Rattle.filterlang.specs.declared.token.Kind.{Kind}
use Rattle.filterlang.specs.Readers.{◌>>=◌, Reader, Joining, turn, chain}
use Rattle.filterlang.proofs.Steps.{same_step, bind_same, at_some}

-- a reader that leaves no more than it was given
abbrev pub Shortens : {T Q : Type 0} → Reader T Q → Type 0
Shortens {T} {Q} next = (q : Q) (ts : List Kind) → IfSome (next q ts) (λ t. length t.2 ≤ length ts)

-- signs that leave less than they were given
abbrev pub AreShorter : {S T : Type 0} → Joining S T → Type 0
AreShorter signs = (ts : List Kind) → IfSome (signs.sign ts) (λ s. length s.1 < length ts)

-- two ways to go on after a turn, which agree where less is left
turn_same : {S T Q : Type 0} (signs : Joining S T) (next : Reader T Q) → Shortens next → (f g : T → Q → List Kind → Option (T × Q × List Kind)) (t : T) (q : Q) (ts : List Kind) → ((v : T) (r : Q) (rest : List Kind) → length rest < length ts → f v r rest ≡ g v r rest) → (o : Option (S × List Kind)) → IfSome o (λ s. length s.1 < length ts) → turn signs next f t q ts o ≡ turn signs next g t q ts o
turn_same signs next h f g t q ts same None less = refl
turn_same signs next h f g t q ts same (Some s) less =
    same_step (λ u. length u.2 ≤ length s.1) (next q s.1) (λ u. signs.join s.0 t u.0 >>= λ v. f v u.1 u.2) (λ u. signs.join s.0 t u.0 >>= λ v. g v u.1 u.2) (h q s.1)
    (λ u k. bind_same (signs.join s.0 t u.0) (λ v. f v u.1 u.2) (λ v. g v u.1 u.2) (λ v. same v u.1 u.2 (omega arith)))

-- without tokens no sign stands
turn_none : {S T Q : Type 0} (signs : Joining S T) (next : Reader T Q) (on : T → Q → List Kind → Option (T × Q × List Kind)) (t : T) (q : Q) (ts : List Kind) → length ts ≤ 0 → (o : Option (S × List Kind)) → IfSome o (λ s. length s.1 < length ts) → turn signs next on t q ts o ≡ Some (t, q, ts)
turn_none signs next on t q ts none None less = refl
turn_none signs next on t q ts none (Some s) less = absurd (omega arith)

-- two numbers of turns, both no fewer than the tokens, do the same
same_turns : {S T Q : Type 0} (signs : Joining S T) (next : Reader T Q) → AreShorter signs → Shortens next → (m n : ℕ) (t : T) (q : Q) (ts : List Kind) → length ts ≤ m → length ts ≤ n → chain signs next m t q ts ≡ chain signs next n t q ts
same_turns signs next k h zero zero t q ts a b = refl
same_turns signs next k h zero (suc n) t q ts a b = sym (turn_none signs next (chain signs next n) t q ts a (signs.sign ts) (k ts))
same_turns signs next k h (suc m) zero t q ts a b = turn_none signs next (chain signs next m) t q ts b (signs.sign ts) (k ts)
same_turns signs next k h (suc m) (suc n) t q ts a b =
    turn_same signs next h (chain signs next m) (chain signs next n) t q ts (λ v r rest less. same_turns signs next k h m n v r rest (omega arith) (omega arith)) (signs.sign ts) (k ts)

-- a turn leaves less than there was
pub turn_shorter : {S T Q : Type 0} (signs : Joining S T) (next : Reader T Q) → AreShorter signs → Shortens next → (s : S) (u : T) (q r : Q) (ts mid rest : List Kind) → signs.sign ts ≡ Some (s, mid) → next q mid ≡ Some (u, r, rest) → length rest < length ts
turn_shorter signs next k h s u q r ts mid rest e read =
    let sign = at_some (λ s. length s.1 < length ts) (signs.sign ts) (s, mid) e (k ts) in
    let right = at_some (λ t. length t.2 ≤ length mid) (next q mid) (u, r, rest) read (h q mid) in
    omega (arith, sign, right)

-- a turn of the loop, where a sign stands, its right side is read and is joined
pub chain_turn : {S T Q : Type 0} (signs : Joining S T) (next : Reader T Q) → AreShorter signs → Shortens next → (s : S) (t u v : T) (q r : Q) (ts mid rest : List Kind) → signs.sign ts ≡ Some (s, mid) → next q mid ≡ Some (u, r, rest) → signs.join s t u ≡ Some v → chain signs next (length ts) t q ts ≡ chain signs next (length rest) v r rest
chain_turn signs next k h s t u v q r ts mid rest e read join =
    same_turns signs next k h (length ts) (suc (length ts)) t q ts (le_refl (length ts)) (omega arith)
    ∙ ap (λ o. turn signs next (chain signs next (length ts)) t q ts o) e
    ∙ ap (λ o. o >>= λ w. signs.join s t w.0 >>= λ x. chain signs next (length ts) x w.1 w.2) read
    ∙ ap (λ o. o >>= λ x. chain signs next (length ts) x r rest) join
    ∙ same_turns signs next k h (length ts) (length rest) v r rest (omega (arith, turn_shorter signs next k h s u q r ts mid rest e read)) (le_refl (length rest))

-- without a sign nothing is joined
pub chain_end : {S T Q : Type 0} (signs : Joining S T) (next : Reader T Q) (n : ℕ) (t : T) (q : Q) (ts : List Kind) → signs.sign ts ≡ None → chain signs next n t q ts ≡ Some (t, q, ts)
chain_end signs next zero t q ts none = refl
chain_end signs next (suc n) t q ts none = ap (λ o. turn signs next (chain signs next n) t q ts o) none
