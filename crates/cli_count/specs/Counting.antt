-- The outcome of counting a filter's answers to the packets of a capture.
use Rattle.std.specs.Prelude.{◌≡◌, ℕ, ◌-◌, ◌^◌, ◌⊎◌, min, Bool, true, false, List, [], map, Option, Some, None, Result, Ok, Err}
use Rattle.std.specs.List.{AllByRecursion, sum_by}
use Rattle.bpfvm.specs.declared.insn.Insn.{Insn}
use Rattle.bpfvm.specs.Traces.{TakesInstructions}
use Rattle.savefile.specs.declared.fault.Fault.{Fault}
use Rattle.savefile.specs.declared.header.Header.{Header}
use Rattle.savefile.specs.declared.packet.Packet.{Packet}
use Rattle.pcap_info.specs.Survey.{IsUnopened, ReadsTo}
use Rattle.cli_answers.specs.declared.counts.VerdictCounts.{VerdictCounts}
use Rattle.cli_answers.specs.Answers.{Answer}
use Rattle.cli_answers.specs.Counts.{AreCounts}
use Rattle.cli_count.specs.declared.count.CountEnd.{CountEnd}
use Rattle.cli_answers.specs.declared.filter.AskedFilter.TheVariants.{Program}
use Rattle.cli_count.specs.declared.filter.CountedFilter.{CountedFilter}
use Rattle.cli_count.specs.declared.filter.CountedFilter.TheVariants.{Programs, Asked}
use Rattle.cli_count.specs.Filter.{Answers}

-- a filter answers so; what is said of the reason does not matter
abbrev pub IsAnswered : CountedFilter → Answer → Type 0
IsAnswered f a = Answers f a.packet a.verdict

-- the packets that were answered
abbrev pub packets_of : List Answer → List Packet
packets_of answers = map (λ a. a.packet) answers

-- A packet, and how many instructions the run of a program over it takes.
pub record Charge : Type 0 where
  pub packet : Packet
  pub instructions : ℕ

abbrev pub IsCharged : List Insn → Charge → Type 0
IsCharged program c = TakesInstructions program c.packet.bytes c.packet.len c.instructions

-- the packets whose runs were counted
abbrev pub charged_packets : List Charge → List Packet
charged_packets charges = map (λ c. c.packet) charges

-- their instructions, up to 2^64 - 1
abbrev pub sum_of_charges : List Charge → ℕ
sum_of_charges charges = min (sum_by (λ c. c.instructions) charges) (2 ^ 64 - 1)

-- the runs of a program over these packets take this many instructions
pub record TakesInAll (program : List Insn) (packets : List Packet) (n : ℕ) : Type 0 where
  pub charges : List Charge
  pub all : AllByRecursion (IsCharged program) charges
  pub packets_are : charged_packets charges ≡ packets
  pub counted : n ≡ sum_of_charges charges

-- The instructions that a program takes for these packets were counted, if there is a program.
abbrev pub IsTaken : Option (List Insn) → List Packet → Option ℕ → Type 0
IsTaken None packets taken = taken ≡ None
IsTaken (Some program) packets (Some n) = TakesInAll program packets n
IsTaken (Some program) packets None = ⊥

-- the program whose instructions are counted, if that is asked for: that of an expression, or the program that the filter is
abbrev pub measured : Bool → CountedFilter → Option (List Insn)
measured true (Programs accepting rejecting) = Some accepting
measured true (Asked (Program program)) = Some program.value
measured asked filter = None

-- The answers to all packets of a capture up to its end, or to its first fault, were counted, and the instructions that the program took.
abbrev pub CountsTo : {A : Type 0} → Option (List ℕ) → Option (List ℕ) → Header → CountedFilter → Bool → VerdictCounts → Option ℕ → Result A Fault → Type 0
CountsTo from left header f asked counts taken read =
    (answers : List Answer) × AllByRecursion (IsAnswered f) answers × ReadsTo from left header (packets_of answers) read × AreCounts counts answers
    × IsTaken (measured asked f) (packets_of answers) taken

-- The header was not read, and no packet was; or the answers were counted.
abbrev pub Counts : {R : Type 0} → (R → Option (List ℕ)) → R → CountedFilter → Bool → CountEnd R → Type 0
Counts left from f asked c =
    ((fault : Fault) × IsUnopened left from c.source fault × (c.read ≡ Err fault) × (c.opened ≡ false) × AreCounts c.counts [])
    ⊎ ((header : Header) × (c.opened ≡ true) × CountsTo (left from) (left c.source) header f asked c.counts c.taken c.read)
