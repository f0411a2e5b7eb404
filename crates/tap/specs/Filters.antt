-- What a listener's filter keeps of a packet.
use Rattle.std.specs.Prelude.{◌≡◌, ℕ, List, Option, Some, None, string_bytes, if◌then◌else◌}
use Rattle.std.specs.List.{AllZip}
use Rattle.filter_tree.specs.declared.tree.Expr.{Expr}
use Rattle.filterlang.specs.Trees.{Tree, tree_of}
use Rattle.filterlang.specs.Texts.{ReadsAs}
use Rattle.filter_meaning.specs.Meaning.{packet_of, accepts}
use Rattle.listener.specs.declared.message.Message.{Message}
use Rattle.listener.specs.Messages.{Arrival, cut_to, kept_by}
use Rattle.tap_steps.specs.declared.filters.Filter.{Filter}
use Rattle.tap_steps.specs.declared.filters.Filter.TheVariants.{Text, Program}
use Rattle.tap_steps.specs.declared.filters.Spec.{Spec}

-- What an expression keeps of an arrival, as its tree means it: the packet cut to the snapshot length where the
-- expression accepts it, else nothing.
unfoldable pub kept_by_tree : Tree → ℕ → Arrival → Option Message
kept_by_tree tree snap a = if accepts tree (packet_of a.packet.bytes a.packet.len) then Some (cut_to snap a) else None

-- A text reads as this tree, and as no other one.
pub record ReadsOnlyAs (text : List ℕ) (tree : Tree) : Type 0 where
  pub reads : ReadsAs text tree
  pub only : (other : Tree) → ReadsAs text other → other ≡ tree

-- What a filter keeps of each arrival, at this snapshot length: a program what it answers, and an expression what the one
-- tree that it reads as accepts.
abbrev pub FiltersAs : Filter → ℕ → (Arrival → Option Message) → Type 0
FiltersAs (Program program) snap keeps = keeps ≡ kept_by program snap
FiltersAs (Text text) snap keeps = (tree : Tree) × ReadsOnlyAs (string_bytes text) tree × (keeps ≡ kept_by_tree tree snap)

-- This is the expression of a filter, if it is one.
abbrev pub IsReadAs : Filter → Option Expr → Type 0
IsReadAs (Text text) (Some expr) = ReadsAs (string_bytes text) (tree_of expr)
IsReadAs (Text text) None = ⊥
IsReadAs (Program program) expr = expr ≡ None

-- These are the expressions of the listeners' filters, one for each listener.
abbrev pub AreExpressionsOf : List Spec → List (Option Expr) → Type 0
AreExpressionsOf specs expressions = AllZip (λ spec. IsReadAs spec.filter) specs expressions
