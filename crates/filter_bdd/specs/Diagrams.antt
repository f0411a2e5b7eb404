-- What a binary decision diagram answers, by an assignment of bits.
use Rattle.std.specs.Prelude.{◌≡◌, ⊤, ℕ, ◌<◌, Bool, cond, List, [], ◌∷◌, ◌++◌, length, slice_index_or}
use Rattle.filter_bdd.specs.declared.answer.Answer.{Answer}
use Rattle.filter_bdd.specs.declared.answer.Answer.TheVariants.{Never}
use Rattle.filter_bdd.specs.declared.table.Node.{Node}
use Rattle.filter_bdd.specs.declared.table.Node.TheVariants.{Leaf, Branch}

-- what a node answers at an assignment of bits, by the answers before it
abbrev pub answer_of : (ℕ → Bool) → List Answer → Node → Answer
answer_of v known (Leaf a) = a
answer_of v known (Branch bit low high) = cond (v bit) (slice_index_or known high Never) (slice_index_or known low Never)

abbrev pub answers : (ℕ → Bool) → List Answer → List Node → List Answer
answers v known [] = known
answers v known (n ∷ ns) = answers v (known ++ answer_of v known n ∷ []) ns

-- what node i of a table answers
abbrev pub answer : List Node → (ℕ → Bool) → ℕ → Answer
answer nodes v i = slice_index_or (answers v [] nodes) i Never

-- what a node answers, by what those before it answer
abbrev pub node_answer : List Node → Node → (ℕ → Bool) → Answer
node_answer nodes (Leaf a) v = a
node_answer nodes (Branch bit low high) v = cond (v bit) (answer nodes v high) (answer nodes v low)

-- node i is there, and answers this at each assignment of bits
pub record Gives (nodes : List Node) (f : (ℕ → Bool) → Answer) (i : ℕ) : Type 0 where
  pub inside : i < length nodes
  pub says : (v : ℕ → Bool) → answer nodes v i ≡ f v

-- the table grew: no node that was there has changed
pub record Grew (old new : List Node) : Type 0 where
  pub added : List Node
  pub is : new ≡ old ++ added

-- the nodes that a node names are before it
abbrev pub IsBefore : ℕ → Node → Type 0
IsBefore i (Leaf a) = ⊤
IsBefore i (Branch bit low high) = (low < i) × (high < i)

abbrev pub IsTable : List Node → Type 0
IsTable nodes = (i : ℕ) → i < length nodes → IsBefore i (slice_index_or nodes i (Leaf Never))
