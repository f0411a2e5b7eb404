-- Readings step by step: what follows from what each step gave.
use Rattle.std.proofs.Common.{◌≡◌, ℕ, zero, suc, List, ◌∷◌, length, Option, Some, None, refl, subst}
use Rattle.std.specs.Prelude.{IfSome}
use Rattle.filterlang.specs.declared.token.Kind.{Kind}
use Rattle.filterlang.specs.declared.token.Kind.TheVariants as kind
use Rattle.filterlang.specs.Readers.{◌>>=◌, Reader, Joining, turn, chain, chained, close_at, closed}

-- what a step gave has the one property, so what all give has the other
pub step : {A B : Type 0} (P : A → Type 0) (R : B → Type 0) (o : Option A) (f : A → Option B) → IfSome o P → ((x : A) → P x → IfSome (f x) R) → IfSome (o >>= f) R
step P R None f h next = tt
step P R (Some x) f h next = next x h

-- what follows from each step is what follows from all
pub each_step : {A B : Type 0} (R : B → Type 0) (o : Option A) (f : A → Option B) → ((x : A) → o ≡ Some x → IfSome (f x) R) → IfSome (o >>= f) R
each_step R None f next = tt
each_step R (Some x) f next = next x refl

-- what has the one property has the other
pub weaken : {A : Type 0} (P R : A → Type 0) (o : Option A) → IfSome o P → ((x : A) → P x → R x) → IfSome o R
weaken P R None h next = tt
weaken P R (Some x) h next = next x h

-- what was found has the property of all that may be
pub at_some : {A : Type 0} (P : A → Type 0) (o : Option A) (x : A) → o ≡ Some x → IfSome o P → P x
at_some P o x e h = subst (λ o. IfSome o P) e h

-- two ways to go on that agree where a step gave what has the property
pub same_step : {A B : Type 0} (P : A → Type 0) (o : Option A) (f g : A → Option B) → IfSome o P → ((x : A) → P x → f x ≡ g x) → (o >>= f) ≡ (o >>= g)
same_step P None f g h same = refl
same_step P (Some x) f g h same = same x h

-- what a `)` follows, from what was read before it
pub closed_sound : {T Q : Type 0} (P R : T → Q → List Kind → Type 0) (read : Option (T × Q × List Kind)) → IfSome read (λ u. P u.0 u.1 u.2) → ((t : T) (q : Q) (rest : List Kind) → P t q (kind.Close ∷ rest) → R t q rest) → IfSome (closed read) (λ u. R u.0 u.1 u.2)
closed_sound {T} {Q} P R read h next = step (λ u. P u.0 u.1 u.2) (λ u. R u.0 u.1 u.2) read (λ t. close_at t.2 >>= λ behind. Some (t.0, t.1, behind.1)) h (λ u k. at_close u.0 u.1 u.2 k)
  where
    at_close : (t : T) (q : Q) (ts : List Kind) → P t q ts → IfSome {T = T × Q × List Kind} (close_at ts >>= λ behind. Some (t, q, behind.1)) (λ u. R u.0 u.1 u.2)
    at_close t q (kind.Close ∷ rest) k = next t q rest k
    at_close t q ts k = tt

-- what goes on alike ends alike
pub bind_same : {A B : Type 0} (o : Option A) (f g : A → Option B) → ((x : A) → f x ≡ g x) → (o >>= f) ≡ (o >>= g)
bind_same None f g h = refl
bind_same (Some x) f g h = h x

-- what each turn keeps, where a sign stands and its right side is read and joined
abbrev pub Keeps : {S T Q : Type 0} → Joining S T → Reader T Q → (T → Q → List Kind → Type 0) → Type 0
Keeps {S} {T} {Q} signs next P = (s : S) (t v : T) (q : Q) (ts mid : List Kind) (u : T × Q × List Kind) → P t q ts → signs.sign ts ≡ Some (s, mid) → next q mid ≡ Some u → signs.join s t u.0 ≡ Some v → P v u.1 u.2

-- one turn, and what goes on after it
turn_keeps : {S T Q : Type 0} (signs : Joining S T) (next : Reader T Q) (P : T → Q → List Kind → Type 0) → Keeps signs next P → (on : T → Q → List Kind → Option (T × Q × List Kind)) → ((t : T) (q : Q) (ts : List Kind) → P t q ts → IfSome (on t q ts) (λ u. P u.0 u.1 u.2)) → (t : T) (q : Q) (ts : List Kind) → P t q ts → (o : Option (S × List Kind)) → signs.sign ts ≡ o → IfSome (turn signs next on t q ts o) (λ u. P u.0 u.1 u.2)
turn_keeps signs next P keeps on rest t q ts h None e = h
turn_keeps signs next P keeps on rest t q ts h (Some s) e =
    each_step (λ u. P u.0 u.1 u.2) (next q s.1) (λ u. signs.join s.0 t u.0 >>= λ v. on v u.1 u.2)
    (λ u f. each_step (λ u. P u.0 u.1 u.2) (signs.join s.0 t u.0) (λ v. on v u.1 u.2) (λ v g. rest v u.1 u.2 (keeps s.0 t v q ts s.1 u h e f g)))

-- what holds of a first value and is kept by each turn holds of all that is read
pub chain_keeps : {S T Q : Type 0} (signs : Joining S T) (next : Reader T Q) (P : T → Q → List Kind → Type 0) → Keeps signs next P → (n : ℕ) (t : T) (q : Q) (ts : List Kind) → P t q ts → IfSome (chain signs next n t q ts) (λ u. P u.0 u.1 u.2)
chain_keeps signs next P keeps zero t q ts h = h
chain_keeps signs next P keeps (suc n) t q ts h = turn_keeps signs next P keeps (chain signs next n) (chain_keeps signs next P keeps n) t q ts h (signs.sign ts) refl

-- the same of a first value and all that are joined to it
pub chained_keeps : {S T Q : Type 0} (signs : Joining S T) (next : Reader T Q) (P : T → Q → List Kind → Type 0) → Keeps signs next P → (q : Q) (ts : List Kind) → ((u : T × Q × List Kind) → next q ts ≡ Some u → P u.0 u.1 u.2) → IfSome (chained signs next q ts) (λ u. P u.0 u.1 u.2)
chained_keeps signs next P keeps q ts first =
    each_step (λ u. P u.0 u.1 u.2) (next q ts) (λ u. chain signs next (length u.2) u.0 u.1 u.2) (λ u e. chain_keeps signs next P keeps (length u.2) u.0 u.1 u.2 (first u e))
