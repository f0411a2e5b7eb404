-- What is printed of a capture, and how that ends.
use Rattle.std.specs.Prelude.{◌≡◌, ℕ, ◌-◌, ◌+◌, ◌^◌, ◌<◌, ◌≤◌, ◌⊎◌, Bool, true, false, List, [], ◌∷◌, ◌++◌, length, map, filter, Option, Some, None, Result, Ok, Err, IsOk, IsErr, IsErrOf, MatchResult, codes}
use Rattle.std.specs.Fmt.{decimal}
use Rattle.std.specs.List.{AllByRecursion}
use Rattle.std.specs.Io.KnownBytes.{Appends, Keeps}
use Rattle.savefile.specs.declared.fault.Fault.{Fault}
use Rattle.savefile.specs.declared.header.Header.{Header}
use Rattle.savefile.specs.declared.packet.Packet.{Packet}
use Rattle.savefile.specs.Reader.{HasGiven, IsCause, Reading, WasBegun, WasRead}
use Rattle.filter_meaning.specs.declared.verdict.Verdict.{Verdict}
use Rattle.filter_meaning.specs.declared.verdict.Verdict.TheVariants.{Yes, No, Abort}
use Rattle.line_text.specs.Sending.{TakesPart}
use Rattle.line_text.specs.Texts.{numbered}
use Rattle.cli_answers.specs.declared.counts.VerdictCounts.{VerdictCounts}
use Rattle.cli_answers.specs.declared.lines.Printed.{Printed}
use Rattle.cli_answers.specs.declared.printing.Unprinted.{Unprinted}
use Rattle.cli_answers.specs.declared.printing.Unprinted.TheVariants as unprinted
use Rattle.cli_explain.specs.declared.one.Found.{Found}
use Rattle.cli_answers.specs.declared.filter.AskedFilter.{AskedFilter}
use Rattle.cli_answers.specs.declared.form.PacketForm.{PacketForm}
use Rattle.cli_answers.specs.declared.form.PacketForm.TheVariants.{Text, Json}
use Rattle.cli_answers.specs.Verdicts.{is_yes, is_no, is_abort}
use Rattle.cli_answers.specs.Answers.{Answer, answer}
use Rattle.cli_answers.specs.Counts.{AreCounts, count_of, counts_in, no_counts}
use Rattle.cli_answers.specs.Lines.{BreaksOff, PrintsCapture}
use Rattle.cli_answers.specs.Reading.{IsUnopened, ReadsTo}
use Rattle.cli_answers.specs.Objects.{IsAnswerIn}
use Rattle.cli_explain.specs.Forms.{line_in, whole_in}

-- ---- What is printed

-- the line of each packet, numbered from 0
abbrev pub answer_lines : PacketForm → List Answer → List ℕ
answer_lines form answers = numbered (line_in form) 0 answers

-- the line of the counts
abbrev pub counts_line : PacketForm → List Answer → List ℕ
counts_line form answers = counts_in form (length answers) (count_of is_yes answers) (count_of is_no answers) (count_of is_abort answers)

-- the lines of the packets, and that of the counts
abbrev pub printed : PacketForm → List Answer → List ℕ
printed form answers = answer_lines form answers ++ counts_line form answers

-- All was printed and counted; or all lines of the packets were, and then a beginning of that of the counts.
abbrev pub Prints : {A : Type 0} → PacketForm → Option (List ℕ) → Option (List ℕ) → List Answer → VerdictCounts → Result A Unprinted → Type 0
Prints form old new answers counts done =
    MatchResult done (λ _. Appends old new (printed form answers) × AreCounts counts answers)
    (λ _. (mid : Option (List ℕ)) × Appends old mid (answer_lines form answers) × TakesPart mid new (counts_line form answers))

-- ---- What was read

-- the packets that were answered
abbrev pub packets_of : List Answer → List Packet
packets_of answers = map (λ a. a.packet) answers

-- ---- A capture

-- the lines of these packets were printed, and the packets counted
abbrev pub IsPrinted : PacketForm → AskedFilter → List Packet → Option (List ℕ) → Option (List ℕ) → VerdictCounts → Type 0
IsPrinted form filter packets old new counts =
    (answers : List Answer) × (packets_of answers ≡ packets) × AllByRecursion (IsAnswerIn form filter) answers
    × Appends old new (answer_lines form answers) × AreCounts counts answers

-- a beginning of their lines was
abbrev pub IsBegun : PacketForm → AskedFilter → List Packet → Option (List ℕ) → Option (List ℕ) → Type 0
IsBegun form filter packets old new =
    (answers : List Answer) × (packets_of answers ≡ packets) × AllByRecursion (IsAnswerIn form filter) answers
    × TakesPart old new (answer_lines form answers)

-- The printing of the lines broke off; or all were printed, and then the counts.
abbrev pub PrintsAll : {A : Type 0} → PacketForm → AskedFilter → Option (List ℕ) → Option (List ℕ) → Header → Option (List ℕ) → Option (List ℕ) → VerdictCounts → Result A Fault → Result A Unprinted → Type 0
PrintsAll form filter from left header old new counts read done =
    BreaksOff (IsBegun form filter) from header old new read done
    ⊎ ((answers : List Answer) × AllByRecursion (IsAnswerIn form filter) answers × ReadsTo from left header (packets_of answers) read
    × Prints form old new answers counts done)

-- The header was not read, and nothing was printed; or the packets up to some end were answered, and that was printed.
abbrev pub Explains : {R : Type 0} → (R → Option (List ℕ)) → R → PacketForm → AskedFilter → Option (List ℕ) → Option (List ℕ) → Printed R VerdictCounts → Type 0
Explains left from form filter old new e =
    ((fault : Fault) × IsUnopened left from e.source fault × IsErrOf e.read fault × IsOk e.printed × Keeps old new × AreCounts e.counts []
    × (e.opened ≡ false))
    ⊎ ((e.opened ≡ true) × (header : Header) × PrintsAll form filter (left from) (left e.source) header old new e.counts e.read e.printed)

-- the same without the line of the counts
abbrev pub ExplainsLines : {R : Type 0} → (R → Option (List ℕ)) → R → PacketForm → AskedFilter → Option (List ℕ) → Option (List ℕ) → Printed R VerdictCounts → Type 0
ExplainsLines left from form filter old new e = PrintsCapture left from no_counts (IsPrinted form filter) (IsBegun form filter) old new e

-- ---- A line

-- the line of a packet was printed, whose answer is told
abbrev pub PrintsLine : PacketForm → AskedFilter → ℕ → Packet → Option (List ℕ) → Option (List ℕ) → Verdict → Type 0
PrintsLine form filter place p old new verdict =
    (reason : List ℕ) × IsAnswerIn form filter (answer p verdict reason) × Appends old new (line_in form place (answer p verdict reason))

-- or why it was not, or a beginning of it alone
abbrev pub IsLineBroken : PacketForm → AskedFilter → ℕ → Packet → Option (List ℕ) → Option (List ℕ) → Unprinted → Type 0
IsLineBroken form filter place p old new unprinted.NoMemory = Keeps old new
IsLineBroken form filter place p old new (unprinted.Output error) =
    (verdict : Verdict) × (reason : List ℕ) × IsAnswerIn form filter (answer p verdict reason) × TakesPart old new (line_in form place (answer p verdict reason))

-- ---- One packet

-- what stands behind the line of a packet was printed; or memory for it was wanting, or the writer failed
abbrev pub PrintsMore : {A : Type 0} → Option (List ℕ) → Option (List ℕ) → Result A Unprinted → Type 0
PrintsMore old new (Ok done) = (text : List ℕ) × Appends old new text
PrintsMore old new (Err unprinted.NoMemory) = Keeps old new
PrintsMore old new (Err (unprinted.Output error)) = (text : List ℕ) × TakesPart old new text

-- where memory was wanting for a packet in full: nothing was printed, or of the text its line alone
abbrev pub PrintsNoMore : PacketForm → AskedFilter → ℕ → Packet → Option (List ℕ) → Option (List ℕ) → Type 0
PrintsNoMore Text filter place p old new = Keeps old new ⊎ ((verdict : Verdict) × PrintsLine Text filter place p old new verdict)
PrintsNoMore (Json capture) filter place p old new = Keeps old new

-- this holds of a text that is printed of a packet in full
abbrev pub IsOfWhole : PacketForm → AskedFilter → ℕ → Packet → (List ℕ → Type 0) → Type 0
IsOfWhole form filter place p Holds =
    (verdict : Verdict) × (reason : List ℕ) × IsAnswerIn form filter (answer p verdict reason)
    × (more : List ℕ) × Holds (whole_in form place (answer p verdict reason) more)

-- A packet was printed in full, in this form: its line and more behind it, or its object. Where the writer failed a beginning of that was.
abbrev pub PrintsWhole : {A : Type 0} → PacketForm → AskedFilter → ℕ → Packet → Option (List ℕ) → Option (List ℕ) → Result A Unprinted → Type 0
PrintsWhole form filter place p old new (Ok done) = IsOfWhole form filter place p (Appends old new)
PrintsWhole form filter place p old new (Err unprinted.NoMemory) = PrintsNoMore form filter place p old new
PrintsWhole form filter place p old new (Err (unprinted.Output error)) = IsOfWhole form filter place p (TakesPart old new)

-- what is printed where the packet is found, and nothing else
abbrev pub PrintsFound : {A : Type 0} → PacketForm → AskedFilter → ℕ → Packet → Option (List ℕ) → Option (List ℕ) → Result Bool Fault → Result A Unprinted → Type 0
PrintsFound form filter place p old new (Ok true) done = PrintsWhole form filter place p old new done
PrintsFound form filter place p old new (Ok false) done = Keeps old new × IsOk done
PrintsFound form filter place p old new (Err fault) done = Keeps old new × IsOk done

-- where a reader goes on to the packet at a place
abbrev pub GoesTo : {R : Type 0} → (R → Option (List ℕ)) → Option (List ℕ) → Header → ℕ → Reading R → Result Bool Fault → Type 0
GoesTo left from header place r (Ok true) =
    (before : List Packet) × (length before ≡ place) × HasGiven left from header (before ++ r.lent ∷ []) r
GoesTo left from header place r (Ok false) =
    (packets : List Packet) × (length packets ≤ place) × WasRead from header packets None
GoesTo left from header place r (Err fault) =
    (packets : List Packet) × (length packets ≤ place) × IsCause from (left r.source) header packets fault

-- The header was not read; or the capture has a packet at this place, and that was printed; or it has not, or can't be read so far.
abbrev pub Finds : {R : Type 0} → (R → Option (List ℕ)) → R → PacketForm → AskedFilter → ℕ → Option (List ℕ) → Option (List ℕ) → Found R → Type 0
Finds left from form filter place old new f =
    ((fault : Fault) × IsUnopened left from f.source fault × IsErrOf f.read fault × IsOk f.printed × Keeps old new)
    ⊎ ((header : Header) × (before : List Packet) × (p : Packet) × WasBegun (left from) header (before ++ p ∷ [])
    × (length before ≡ place) × (f.read ≡ Ok true) × PrintsWhole form filter place p old new f.printed)
    ⊎ ((header : Header) × (packets : List Packet) × (length packets ≤ place) × IsOk f.printed × Keeps old new
    × ((WasRead (left from) header packets None × (f.read ≡ Ok false))
    ⊎ ((fault : Fault) × IsCause (left from) (left f.source) header packets fault × (f.read ≡ Err fault))))
