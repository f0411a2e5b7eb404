-- Two expressions, decided for every packet.
use Rattle.std.specs.Prelude.{◌≡◌, ◌⊎◌, ℕ, List, []}
use Rattle.filter_tree.specs.Trees.{Tree}
use Rattle.filter_same.specs.declared.sameness.Cause.TheVariants.{Graphs, Nodes, Steps, Product, Quotient, Load, Far, Places, Levels}
use Rattle.filter_same.specs.declared.sameness.Sameness.{Sameness}
use Rattle.filter_same.specs.declared.sameness.Sameness.TheVariants.{Same, SameAsCaptured, Short, Differ, NotDecided}
use Rattle.filter_same.specs.Same.{Holds}
use Rattle.bpftap_c.specs.declared.comparisons.BpftapComparison.{BpftapComparison}
use Rattle.bpftap_c.specs.declared.outcome.BpftapResult.{BpftapResult}
use Rattle.bpftap_c.specs.declared.outcome.Failure.{Failure}
use Rattle.bpftap_c.specs.declared.outcome.Failure.TheVariants.{NoMemory}
use Rattle.bpftap_c.specs.Memory.{Puts}
use Rattle.bpftap_c.specs.Outcome.{code_of, place_of, size_of}
use Rattle.bpftap_c.specs.Texts.{IsExpression, IsRead, IsUnread}

-- the numbers of answers, which stay from version to version
abbrev pub answer_code : Sameness → ℕ
answer_code Same = 0
answer_code SameAsCaptured = 1
answer_code (Short witness) = 2
answer_code (Differ witness) = 3
answer_code (NotDecided cause) = 4

-- why nothing is claimed, or 0
abbrev pub cause_code : Sameness → ℕ
cause_code Same = 0
cause_code SameAsCaptured = 0
cause_code (Short witness) = 0
cause_code (Differ witness) = 0
cause_code (NotDecided Graphs) = 1
cause_code (NotDecided Nodes) = 2
cause_code (NotDecided Steps) = 2
cause_code (NotDecided Places) = 2
cause_code (NotDecided Product) = 4
cause_code (NotDecided Quotient) = 5
cause_code (NotDecided Load) = 6
cause_code (NotDecided Far) = 7
cause_code (NotDecided Levels) = 8

-- the packet that shows the answer: its captured bytes, and its length on the wire
abbrev pub witness_of : Sameness → List ℕ
witness_of Same = []
witness_of SameAsCaptured = []
witness_of (Short witness) = witness.bytes.items
witness_of (Differ witness) = witness.bytes.items
witness_of (NotDecided cause) = []

abbrev pub wire_of : Sameness → ℕ
wire_of Same = 0
wire_of SameAsCaptured = 0
wire_of (Short witness) = witness.wire
wire_of (Differ witness) = witness.wire
wire_of (NotDecided cause) = 0

-- both texts are expressions, and what the answer says of these is so
abbrev pub IsCompared : List ℕ → List ℕ → Sameness → Type 0
IsCompared first second sameness = (t : Tree) × (u : Tree) × IsRead first t × IsRead second u × Holds t u sameness

-- Why two texts are not compared: the first is no expression, or the second, or both are and memory ran out.
abbrev pub IsUncompared : List ℕ → List ℕ → ℕ → Failure → Type 0
IsUncompared first second number failure =
    ((number ≡ 0) × IsUnread first failure)
    ⊎ ((number ≡ 1) × IsExpression first × IsUnread second failure)
    ⊎ ((number ≡ 0) × IsExpression first × IsExpression second × (failure ≡ NoMemory))

-- the result of a call that put the packet which shows an answer
abbrev pub comparison_of : BpftapResult → Sameness → BpftapComparison
comparison_of put sameness =
    record { fault = put.fault; number = 0; answer = answer_code sameness; cause = cause_code sameness; wire = wire_of sameness; size = put.size; place = put.place }

-- the result of a call that decides nothing
abbrev pub no_comparison : ℕ → Failure → BpftapComparison
no_comparison number failure =
    record { fault = code_of failure; number = number; answer = 4; cause = 0; wire = 0; size = size_of failure; place = place_of failure }

-- The packet that shows the answer is put, if there is one. Or nothing is decided, and all is as it was.
abbrev pub PutsComparison : List ℕ → List ℕ → List ℕ → List ℕ → BpftapComparison → Type 0
PutsComparison first second old new told =
    ((sameness : Sameness) × (put : BpftapResult) × IsCompared first second sameness × Puts (witness_of sameness) old new put
    × (told ≡ comparison_of put sameness))
    ⊎ ((number : ℕ) × (failure : Failure) × IsUncompared first second number failure × (told ≡ no_comparison number failure) × (new ≡ old))
