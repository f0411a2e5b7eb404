-- What is printed of a split, as text and as JSON Lines.
use Rattle.std.specs.Prelude.{ℕ, List, [], ◌++◌, Option, Some, None, Result, Ok, Err, codes, slice_get, if◌then◌else◌}
use Rattle.std.specs.Fmt.{decimal}
use Rattle.savefile.specs.declared.fault.Fault.{Fault}
use Rattle.pcap_cut.specs.declared.cut.Tally.{Tally}
use Rattle.line_text.specs.Forms.{in_form}
use Rattle.line_text.specs.declared.form.NamingForm.{NamingForm}
use Rattle.line_text.specs.Strings.{json_string}
use Rattle.line_text.specs.Texts.{end_of_line}
use Rattle.line_text.specs.Texts.{numbered}
use Rattle.visible_text.specs.Hidden.{printed_name}
use Rattle.cli_split.specs.declared.part.PartEnd.{PartEnd}
use Rattle.cli_split.specs.declared.plan.SplitLine.{SplitLine}
use Rattle.cli_split.specs.declared.split.SplitEnd.{SplitEnd}
use Rattle.cli_split.specs.Splitting.{passes_header}

-- `OUT 67 of 253`
unfoldable pub count_text : List ℕ → Tally → List ℕ
count_text output tally = output ++ codes " " ++ decimal tally.written ++ codes " of " ++ decimal tally.read ++ end_of_line

-- `{"file":"OUT","kept":67,"packets":253}`
unfoldable pub count_object : List ℕ → Tally → List ℕ
count_object output tally = codes "{\"file\":" ++ json_string output ++ codes ",\"kept\":" ++ decimal tally.written
    ++ codes ",\"packets\":" ++ decimal tally.read ++ codes "}" ++ end_of_line

abbrev pub count_line : NamingForm → List ℕ → Tally → List ℕ
count_line form output tally = in_form form.form (count_text (printed_name form.is_terminal output) tally) (count_object output tally)

-- the line of a part with this OUT, where it was written whole
abbrev pub told_part : NamingForm → List ℕ → Tally → Result (Unit {0}) Fault → List ℕ
told_part form output tally (Ok done) = count_line form output tally
told_part form output tally (Err fault) = []

abbrev pub part_line : {W : Type 0} → NamingForm → List ℕ → PartEnd W → List ℕ
part_line form output part = told_part form output part.tally part.written

-- the OUT of a line
abbrev pub output_of : Option SplitLine → List ℕ
output_of None = []
output_of (Some line) = line.output.now

-- the line of the n-th part, from 0, whose OUT is that of the n-th line
abbrev pub line_text : {W : Type 0} → NamingForm → List SplitLine → ℕ → PartEnd W → List ℕ
line_text form lines n part = part_line form (output_of (slice_get lines n)) part

-- the lines of all parts, where these were begun
abbrev pub printed_split : {R W : Type 0} → NamingForm → List SplitLine → SplitEnd R W → List ℕ
printed_split form lines end = if passes_header end.end then numbered (line_text form lines) 0 end.parts.items else []
