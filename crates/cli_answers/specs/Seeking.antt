-- Whether a filter accepts a packet, and whether a capture has a packet that passes a test.
use Rattle.std.specs.Prelude.{◌≡◌, ℕ, ◌⊎◌, Bool, true, false, List, [], ◌∷◌, ◌++◌, Option, None, Result, Ok, Err, IsErrOf, nat_lt}
use Rattle.std.specs.List.{AllByRecursion}
use Rattle.savefile.specs.declared.fault.Fault.{Fault}
use Rattle.savefile.specs.declared.header.Header.{Header}
use Rattle.savefile.specs.declared.packet.Packet.{Packet}
use Rattle.savefile.specs.Reader.{HasGiven, IsCause, Reading, WasBegun, WasRead}
use Rattle.bpfvm.specs.Machine.{verdict}
use Rattle.filterlang.specs.Trees.{tree_of}
use Rattle.filter_meaning.specs.Meaning.{meaning}
use Rattle.cli_answers.specs.declared.filter.AskedFilter.{AskedFilter}
use Rattle.cli_answers.specs.declared.filter.AskedFilter.TheVariants.{Expression, Program}
use Rattle.cli_answers.specs.declared.seek.Sought.{Sought}
use Rattle.cli_answers.specs.Verdicts.{is_yes}
use Rattle.cli_answers.specs.Answers.{frame_of}
use Rattle.cli_answers.specs.Reading.{IsUnopened}

-- whether a filter accepts a packet: an expression does if its meaning is Yes, a program if it returns a number other than 0
abbrev pub accepts : AskedFilter → Packet → Bool
accepts (Expression expr) p = is_yes (meaning (tree_of expr) (frame_of p))
accepts (Program program) p = nat_lt 0 (verdict program.value p.bytes p.len)

-- none of these passes
abbrev pub NonePasses : (Packet → Bool) → List Packet → Type 0
NonePasses passes packets = AllByRecursion (λ p. passes p ≡ false) packets

-- where a reader goes on to the first packet that passes
abbrev pub GoesToFirst : {R : Type 0} → (R → Option (List ℕ)) → Option (List ℕ) → Header → (Packet → Bool) → Reading R → Result Bool Fault → Type 0
GoesToFirst left from header passes r (Ok true) =
    (before : List Packet) × (p : Packet) × NonePasses passes before × (passes p ≡ true) × HasGiven left from header (before ++ p ∷ []) r
GoesToFirst left from header passes r (Ok false) =
    (packets : List Packet) × NonePasses passes packets × WasRead from header packets None
GoesToFirst left from header passes r (Err fault) =
    (packets : List Packet) × NonePasses passes packets × IsCause from (left r.source) header packets fault

-- The header was not read; or the capture has a packet that passes, and this is the first; or none passes, as far as it can be read.
abbrev pub Seeks : {R : Type 0} → (R → Option (List ℕ)) → R → (Packet → Bool) → Sought R → Type 0
Seeks left from passes s =
    ((fault : Fault) × IsUnopened left from s.source fault × IsErrOf s.found fault)
    ⊎ ((header : Header) × (before : List Packet) × (p : Packet) × NonePasses passes before × (passes p ≡ true)
    × WasBegun (left from) header (before ++ p ∷ []) × (s.found ≡ Ok true))
    ⊎ ((header : Header) × (packets : List Packet) × NonePasses passes packets
    × ((WasRead (left from) header packets None × (s.found ≡ Ok false))
    ⊎ ((fault : Fault) × IsCause (left from) (left s.source) header packets fault × (s.found ≡ Err fault))))
