-- What `bpftap check` prints of an expression, or of the program of a listing's file. Read it from the last definition up.
use Rattle.std.specs.Prelude.{◌≡◌, ◌≢◌, ◌⊎◌, ℕ, ◌==◌, if◌then◌else◌, Bool, true, false, List, Option, ⊤, Some, None, Result, Ok, Err, option_copied}
use Rattle.std.specs.Io.KnownBytes.{Appends}
use Rattle.bpfvm.specs.declared.insn.Insn.{Insn}
use Rattle.cli_args.specs.declared.check.CheckWords.{CheckWords}
use Rattle.cli_files.specs.declared.paths.PathFault.{PathFault}
use Rattle.cli_files.specs.declared.paths.PathFault.TheVariants as paths
use Rattle.cli_store.specs.Files.{Places, Texts}
use Rattle.cli_text.specs.declared.status.Status.{Status}
use Rattle.cli_cut.specs.Cutting.{IsGiven, IsRefusalStatus, IsUngiven, IsUnreached}
use Rattle.cli_cut.specs.Objects.{IsObjectUnprinted, PrintsObject, program_json}
use Rattle.cli_cut.specs.Printing.{IsUnprinted, IsUnread, IsUnshown, PrintsRead, program_text}
use Rattle.cli_cut.specs.Telling.{print_status}
use Rattle.cli_cut.specs.declared.outcome.Refusal.{Refusal}
use Rattle.cli_cut.specs.declared.outcome.Refusal.TheVariants as refusal
use Rattle.cli_cut.specs.declared.print.PrintFault.{PrintFault}
use Rattle.cli_cut.specs.declared.print.ProgramForm.{ProgramForm}
use Rattle.cli_cut.specs.declared.print.ProgramForm.TheVariants as forms

-- the form for this many options `-d`: as for `tcpdump -d`, one names the instructions, two make an array of C, and three numbers
abbrev pub form_for : ℕ → ProgramForm
form_for named = if named == 1 then forms.Image else if named == 2 then forms.Array else forms.Listing

-- the program that is asked for: that of the listing's file, to which standard output does not go, or that of the expression
abbrev pub IsAskedFor : Places → Texts → Option (List ℕ) → Option (List ℕ) → Option (List ℕ) → ℕ → List Insn → Type 0
IsAskedFor place text printed None expr snap program = IsGiven place text None expr snap program
IsAskedFor place text printed (Some path) expr snap program = (printed ≢ Some (place path)) × IsGiven place text (Some path) None 0 program

-- why the program of a listing's file is not printed over these paths: standard output goes to that file
abbrev pub IsPrintedOver : Places → Option (List ℕ) → Bool → Option (List ℕ) → List ℕ → PathFault → Type 0
IsPrintedOver place printed failed denied path (paths.Same other taken_for) = ⊥
IsPrintedOver place printed failed denied path (paths.Printed other) = printed ≡ Some (place path)
IsPrintedOver place printed failed denied path (paths.Unknown other error) = IsUnreached place failed denied other.now error
IsPrintedOver place printed failed denied path paths.NoMemory = ⊤

-- why there is no such program
abbrev pub IsUnasked : Places → Texts → Option (List ℕ) → Bool → Option (List ℕ) → Option (List ℕ) → Option (List ℕ) → ℕ → Refusal → Type 0
IsUnasked place text printed failed denied None expr snap reason = IsUngiven place text denied None expr snap reason
IsUnasked place text printed failed denied (Some path) expr snap (refusal.Paths fault) = IsPrintedOver place printed failed denied path fault
IsUnasked place text printed failed denied (Some path) expr snap reason = IsUngiven place text denied (Some path) None 0 reason

-- an expression as it was read was printed, or the fault says why it was not
abbrev pub PrintsExpression : Option (List ℕ) → Option (List ℕ) → List ℕ → Result (Unit {0}) PrintFault → Type 0
PrintsExpression old new expr (Ok done) = PrintsRead old new expr
PrintsExpression old new expr (Err fault) = IsUnread old new expr fault

-- the same of an expression and its program as an object of JSON
abbrev pub PrintsObjectOf : Option (List ℕ) → Option (List ℕ) → List ℕ → ℕ → Result (Unit {0}) PrintFault → Type 0
PrintsObjectOf old new expr snap (Ok done) = PrintsObject old new expr snap
PrintsObjectOf old new expr snap (Err fault) = IsObjectUnprinted old new expr snap fault

-- the same of a program in a form
abbrev pub PrintsProgram : Option (List ℕ) → Option (List ℕ) → ProgramForm → List Insn → Result (Unit {0}) PrintFault → Type 0
PrintsProgram old new form program (Ok done) = Appends old new (program_text form program)
PrintsProgram old new form program (Err fault) = IsUnshown old new form program fault

-- the same of a program as an object of JSON
abbrev pub PrintsProgramObject : Option (List ℕ) → Option (List ℕ) → List Insn → Result (Unit {0}) PrintFault → Type 0
PrintsProgramObject old new program (Ok done) = Appends old new (program_json None program)
PrintsProgramObject old new program (Err fault) = IsUnprinted old new (program_json None program) fault

-- what is printed, by whether it is JSON, the expression, and whether that is printed as it was read
abbrev pub ChecksBy : Places → Texts → Option (List ℕ) → Option (List ℕ) → Option (List ℕ) → CheckWords → Bool → Option (List ℕ) → Bool → Result (Unit {0}) PrintFault → Type 0
ChecksBy place text printed old new words true (Some expr) read done = PrintsObjectOf old new expr words.snap done
ChecksBy place text printed old new words true None read done =
    (program : List Insn) × IsAskedFor place text printed (option_copied words.listing) None words.snap program × PrintsProgramObject old new program done
ChecksBy place text printed old new words false (Some expr) true done = PrintsExpression old new expr done
ChecksBy place text printed old new words false expr read done =
    (program : List Insn) × IsAskedFor place text printed (option_copied words.listing) expr words.snap program × PrintsProgram old new (form_for words.named) program done

-- What a call that was not refused printed: what standard output had, which was `old`, is now `new`.
abbrev pub Checks : Places → Texts → Option (List ℕ) → Option (List ℕ) → Option (List ℕ) → CheckWords → Result (Unit {0}) PrintFault → Type 0
Checks place text printed old new words done = ChecksBy place text printed old new words words.json (option_copied words.expr) words.read done

-- what a call came to: how the printing ended, or why nothing was printed
abbrev pub Checked : Type 0
Checked = Result (Result (Unit {0}) PrintFault) Refusal

-- A call of `bpftap check`: it was refused for a reason, and nothing was printed; or what is asked for was printed, as far as its end says.
abbrev pub ChecksFiles : Places → Texts → Option (List ℕ) → Bool → Option (List ℕ) → Option (List ℕ) → Option (List ℕ) → CheckWords → Checked → Type 0
ChecksFiles place text printed failed denied old new words (Ok done) = Checks place text printed old new words done
ChecksFiles place text printed failed denied old new words (Err reason) =
    IsUnasked place text printed failed denied (option_copied words.listing) (option_copied words.expr) words.snap reason × (new ≡ old)

-- ---- The exit status

abbrev pub IsCheckStatus : Checked → Status → Type 0
IsCheckStatus (Ok done) ended = ended ≡ print_status done
IsCheckStatus (Err reason) ended = IsRefusalStatus reason ended
