-- Operations on nodes, and what a computed cache keeps of them. Only private clauses say this.
use Rattle.std.specs.Prelude.{◌≡◌, ⊤, ℕ, ◌<◌, Bool, List, Option, Some, None, All, IfSome, length}
use Rattle.filter_bdd.specs.declared.answer.Answer.{Answer}
use Rattle.filter_bdd.specs.declared.table.Node.{Node}
use Rattle.filter_bdd.specs.declared.table.Node.TheVariants.{Leaf}
use Rattle.filter_bdd.specs.declared.cache.Call.{Call}
use Rattle.filter_bdd.specs.declared.cache.Computed.{Computed}
use Rattle.filter_bdd.specs.declared.diagrams.Step.{Step}
use Rattle.filter_bdd.specs.declared.diagrams.Step.TheVariants.{Answers, Bit}
use Rattle.filter_bdd.specs.declared.diagrams.Applied.{Applied}
use Rattle.filter_bdd.specs.declared.diagrams.Applied.TheVariants as applied
use Rattle.filter_bdd.specs.Answers.{outcome}
use Rattle.filter_bdd.specs.Diagrams.{answer, Gives}

-- what a call answers
abbrev pub call_answer : List Node → Call → (ℕ → Bool) → Answer
call_answer nodes call v = outcome call.operation (answer nodes v call.first) (answer nodes v call.second) (answer nodes v call.third)

-- the nodes of a call are there
pub record IsInside (nodes : List Node) (call : Call) : Type 0 where
  pub first : call.first < length nodes
  pub second : call.second < length nodes
  pub third : call.third < length nodes

-- node i answers what a call does
abbrev pub IsResult : List Node → Call → ℕ → Type 0
IsResult nodes call i = Gives nodes (call_answer nodes call) i

-- each entry that is kept has a call of nodes that are there, and its result
abbrev pub AreResults : List Node → List (Option Computed) → Type 0
AreResults nodes entries = All (λ e. IfSome e (λ c. IsInside nodes c.call × IsResult nodes c.call c.place)) entries

-- what is done with three nodes: all are answers, or a bit is asked for
abbrev pub IsStep : (first second third : Node) → Step → Type 0
IsStep first second third (Answers a b c) = (first ≡ Leaf a) × (second ≡ Leaf b) × (third ≡ Leaf c)
IsStep first second third (Bit bit) = ⊤

-- what became of a call: its result, or a call that is wanted first
abbrev pub IsApplied : (old new : List Node) → Call → Applied → Type 0
IsApplied old new call (applied.Node i) = Gives new (call_answer old call) i
IsApplied old new call (applied.First inner) = IsInside new inner
