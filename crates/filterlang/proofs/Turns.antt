-- The reading function as the parser goes: by what a term begins with.
use Rattle.std.proofs.Common.{◌≡◌, ℕ, zero, suc, List, [], ◌∷◌, Option, Some, refl}
use Rattle.std.specs.Prelude.{if◌then◌else◌}
use Rattle.filterlang.specs.declared.token.Kind.{Kind}
use Rattle.filterlang.specs.declared.token.Kind.TheVariants as kind
use Rattle.filterlang.specs.declared.lookahead.Beginning.TheVariants as beginnings
use Rattle.filterlang.specs.declared.phrases.qualifiers.Qualifiers.{Qualifiers}
use Rattle.filterlang.specs.declared.parser.Start.{Start}
use Rattle.filterlang.specs.declared.parser.Start.TheVariants as starts
use Rattle.filter_tree.specs.Trees.{test}
use Rattle.filterlang.specs.Grammar.{begins_relation}
use Rattle.filterlang.specs.Readers.{◌>>=◌, nothing, deeper, closed}
use Rattle.filterlang.specs.ValueReading.{relation_at}
use Rattle.filterlang.specs.Reading.{beginning, negated, group_at, group_term_at, identified_at, start_at, started, started_by, started_at, without_inheritance, term_at, logical_at, expr_at}
use Rattle.filterlang.proofs.Steps.{bind_same}

-- a negated term of a group
pub group_not : (n : ℕ) (g : Qualifiers) (ts : List Kind) → beginning ts ≡ beginnings.Not → group_term_at n g ts ≡ (deeper n ts >>= λ d. negated (group_term_at d.0 g d.1))
unfolding group_term_at
group_not zero g (kind.Not ∷ ts) h = refl
group_not (suc n) g (kind.Not ∷ ts) h = refl
group_not n g ts h = cc

-- a group in parentheses
pub group_parenthesis : (n : ℕ) (g : Qualifiers) (ts : List Kind) → beginning ts ≡ beginnings.Parenthesis → group_term_at n g ts ≡ (deeper n ts >>= λ d. closed (group_at d.0 g d.1))
unfolding group_term_at
group_parenthesis zero g (kind.Open ∷ ts) h = refl
group_parenthesis (suc n) g (kind.Open ∷ ts) h = refl
group_parenthesis n g ts h = cc

-- an identifier of a group
pub group_identifier : (n : ℕ) (g : Qualifiers) (ts : List Kind) → beginning ts ≡ beginnings.Primitive → group_term_at n g ts ≡ (identified_at g ts >>= λ p. Some (test p.0, g, p.1))
unfolding group_term_at
group_identifier zero g (kind.Not ∷ ts) h = cc
group_identifier (suc n) g (kind.Not ∷ ts) h = cc
group_identifier zero g (kind.Open ∷ ts) h = cc
group_identifier (suc n) g (kind.Open ∷ ts) h = cc
group_identifier zero g ts h = refl
group_identifier (suc n) g ts h = refl

-- a term is a relation, or is read by its first token
pub term_related : (n : ℕ) (q : Option Qualifiers) (ts : List Kind) → term_at n q ts ≡ (if begins_relation ts then without_inheritance (relation_at n ts) else logical_at n q ts)
unfolding term_at logical_at
term_related zero q ts = refl
term_related (suc n) q ts = refl

-- a negated term
pub logical_not : (n : ℕ) (q : Option Qualifiers) (ts : List Kind) → beginning ts ≡ beginnings.Not → logical_at n q ts ≡ (deeper n ts >>= λ d. negated (term_at d.0 q d.1))
unfolding logical_at
logical_not zero q (kind.Not ∷ ts) h = refl
logical_not (suc n) q (kind.Not ∷ ts) h = refl
logical_not n q ts h = cc

-- an expression in parentheses
pub logical_parenthesis : (n : ℕ) (q : Option Qualifiers) (ts : List Kind) → beginning ts ≡ beginnings.Parenthesis → logical_at n q ts ≡ (deeper n ts >>= λ d. closed (expr_at d.0 q d.1))
unfolding logical_at
logical_parenthesis zero q (kind.Open ∷ ts) h = refl
logical_parenthesis (suc n) q (kind.Open ∷ ts) h = refl
logical_parenthesis n q ts h = cc

-- with no level left no group is read
started_zero : (s : Start) (q : Option Qualifiers) (ts : List Kind) → started nothing s q ts ≡ started_by zero s q ts
started_zero (starts.Primitive p) q ts = refl
started_zero (starts.Group g) q [] = refl
started_zero (starts.Group g) q (t ∷ ts) = refl

-- with one more, by the reader of those that are left
started_suc : (n : ℕ) (s : Start) (q : Option Qualifiers) (ts : List Kind) → started (group_term_at n) s q ts ≡ started_by (suc n) s q ts
started_suc n (starts.Primitive p) q ts = refl
started_suc n (starts.Group g) q [] = refl
started_suc n (starts.Group g) q (t ∷ ts) = refl

-- a primitive, or a group after its phrase
pub logical_start : (n : ℕ) (q : Option Qualifiers) (ts : List Kind) → beginning ts ≡ beginnings.Primitive → logical_at n q ts ≡ started_at n q ts
unfolding logical_at
logical_start zero q (kind.Not ∷ ts) h = cc
logical_start (suc n) q (kind.Not ∷ ts) h = cc
logical_start zero q (kind.Open ∷ ts) h = cc
logical_start (suc n) q (kind.Open ∷ ts) h = cc
logical_start zero q ts h = bind_same (start_at q ts) _ _ (λ s. started_zero s.0 s.1 s.2)
logical_start (suc n) q ts h = bind_same (start_at q ts) _ _ (λ s. started_suc n s.0 s.1 s.2)
