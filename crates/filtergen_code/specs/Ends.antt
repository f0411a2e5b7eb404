-- What code does of the right end of an expression. Only private clauses use this.
use Rattle.std.specs.Prelude.{ℕ, ◌+◌, ◌<◌, ◌≤◌, List, Some, unwrap_or}
use Rattle.bpfvm.specs.declared.insn.Insn.{Insn}
use Rattle.filter_tree.specs.Trees.{Tree}
use Rattle.filter_tree.specs.Trees as trees
use Rattle.filter_meaning.specs.Meaning.{meaning}
use Rattle.filtergen_facts.specs.declared.packet_facts.PacketFacts.{PacketFacts}
use Rattle.filtergen_facts.specs.declared.lists.Chain.{Chain}
use Rattle.filtergen_facts.specs.declared.lists.Chain.TheVariants as chains
use Rattle.filtergen_facts.specs.Weights.{weight, need}
use Rattle.filtergen_facts.specs.Lists.{size}
use Rattle.filtergen_code.specs.declared.entries.Entry.{Entry}
use Rattle.filtergen_code.specs.declared.entries.Targets.{Targets}
use Rattle.filtergen_code.specs.declared.compiler.KeptTargets.{KeptTargets}
use Rattle.filtergen_code.specs.Emission.{Extends}
use Rattle.filtergen_code.specs.Entries.{AreTargets, RelaysBoth, DecidesGiven}

-- how the right end of a tree is joined to what stands to its left
abbrev pub chain_of : Tree → Chain
chain_of (trees.both t u) = chains.NoneOf
chain_of other = chains.AnyOf

-- where what stands to the left of a right end goes on
abbrev pub left_targets : Chain → Entry → Targets → Targets
left_targets chains.AnyOf entry targets = record { yes = targets.yes; no = entry }
left_targets chains.NoneOf entry targets = record { yes = entry; no = targets.no }

-- relays of the targets of a tree, from those of its left part
abbrev pub kept_targets : KeptTargets → Targets → Targets
kept_targets kept last = record { yes = unwrap_or kept.yes last.yes; no = unwrap_or kept.no last.no }

-- what is kept after a right end with these relays
abbrev pub kept_with_end : Chain → KeptTargets → Targets → KeptTargets
kept_with_end chains.AnyOf kept targets = record { yes = kept.yes; no = Some (unwrap_or kept.no targets.no) }
kept_with_end chains.NoneOf kept targets = record { yes = Some (unwrap_or kept.yes targets.yes); no = kept.no }

-- the code of the right end of a tree: what decides the rest in front of it, with the targets that it leaves, decides the tree
pub record Leaves (known : PacketFacts) (whole rest : Tree) (targets relayed : Targets) (entry : Entry) (old new : List Insn) : Type 0 where
  pub most : ℕ
  pub extends : Extends most old new
  pub fits : most + weight rest ≤ weight whole
  pub smaller : size rest < size whole
  pub needs : need rest ≤ need whole
  pub here : AreTargets new (left_targets (chain_of whole) entry relayed)
  pub decides : (first : Entry) (later : List Insn) → DecidesGiven known (weight rest) (meaning rest) (left_targets (chain_of whole) entry relayed) first new later
      → DecidesGiven known (weight whole) (meaning whole) targets first old later
  pub relays : RelaysBoth targets relayed old new
