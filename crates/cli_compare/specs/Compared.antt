-- What is printed of a capture that two filters are compared by, and how that ends.
use Rattle.std.specs.Prelude.{◌≡◌, ℕ, ◌⊎◌, true, false, List, Option}
use Rattle.std.specs.Io.KnownBytes.{Appends, Keeps}
use Rattle.savefile.specs.declared.packet.Packet.{Packet}
use Rattle.line_text.specs.Sending.{TakesPart}
use Rattle.cli_answers.specs.declared.lines.Printed.{Printed}
use Rattle.cli_answers.specs.declared.printing.Unprinted.{Unprinted}
use Rattle.cli_answers.specs.declared.printing.Unprinted.TheVariants as unprinted
use Rattle.cli_answers.specs.declared.form.PacketForm.{PacketForm}
use Rattle.cli_answers.specs.Answers.{Answer}
use Rattle.cli_answers.specs.Lines.{PrintsCapture}
use Rattle.cli_answers.specs.Objects.{IsAnswerIn, IsJsonAnswer}
use Rattle.cli_compare.specs.declared.each.DifferenceCounts.{DifferenceCounts}
use Rattle.cli_compare.specs.declared.pair.FilterPair.{FilterPair}
use Rattle.cli_compare.specs.Pairs.{AreCounts, AreDifferences, Difference, differs, no_counts}
use Rattle.cli_compare.specs.Printed.{difference_line, difference_lines, with_both}

-- the lines of those of these packets that are treated differently were printed, and all packets counted
abbrev pub IsPrinted : PacketForm → FilterPair → List Packet → Option (List ℕ) → Option (List ℕ) → DifferenceCounts → Type 0
IsPrinted form pair packets old new counts =
    (differences : List Difference) × AreDifferences form pair packets differences × Appends old new (difference_lines form differences)
    × AreCounts pair counts packets

-- a beginning of their lines was
abbrev pub IsBegun : PacketForm → FilterPair → List Packet → Option (List ℕ) → Option (List ℕ) → Type 0
IsBegun form pair packets old new =
    (differences : List Difference) × AreDifferences form pair packets differences × TakesPart old new (difference_lines form differences)

-- The header was not read, and nothing was printed; or the packets up to some end were compared.
abbrev pub Compares : {R : Type 0} → (R → Option (List ℕ)) → R → PacketForm → FilterPair → Option (List ℕ) → Option (List ℕ) → Printed R DifferenceCounts → Type 0
Compares left from form pair old new c = PrintsCapture left from no_counts (IsPrinted form pair) (IsBegun form pair) old new c

-- ---- A line

-- after what a line had, what each filter answers to a packet was put, and the end of an object
abbrev pub PutsBoth : FilterPair → Packet → List ℕ → List ℕ → Type 0
PutsBoth pair p old new =
    (first second : Answer) × (first.packet ≡ p) × (second.packet ≡ p) × IsJsonAnswer pair.first first × IsJsonAnswer pair.second second
    × (new ≡ with_both old first second)

abbrev pub difference : ℕ → Answer → Answer → Difference
difference place first second = record { place = place; first = first; second = second }

-- what two filters answer to a packet that they treat differently
abbrev pub IsOf : PacketForm → FilterPair → ℕ → Packet → Difference → Type 0
IsOf form pair place p d =
    (d.place ≡ place) × (d.first.packet ≡ p) × (d.second.packet ≡ p) × IsAnswerIn form pair.first d.first × IsAnswerIn form pair.second d.second

-- the line of a packet was printed, if it is treated differently, and else nothing
abbrev pub PrintsOne : PacketForm → FilterPair → ℕ → Packet → Option (List ℕ) → Option (List ℕ) → Type 0
PrintsOne form pair place p old new =
    ((differs pair p ≡ false) × Keeps old new)
    ⊎ ((differs pair p ≡ true) × (d : Difference) × IsOf form pair place p d × Appends old new (difference_line form d))

-- or it is treated differently, and its line was not printed, or a beginning of it
abbrev pub IsOneBroken : PacketForm → FilterPair → ℕ → Packet → Option (List ℕ) → Option (List ℕ) → Unprinted → Type 0
IsOneBroken form pair place p old new unprinted.NoMemory = Keeps old new
IsOneBroken form pair place p old new (unprinted.Output error) =
    (differs pair p ≡ true) × (d : Difference) × IsOf form pair place p d × TakesPart old new (difference_line form d)
