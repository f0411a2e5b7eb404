-- The lines of an image, and the image, are read as the program.
use Rattle.std.proofs.Common.{◌≡◌, ℕ, suc, ◌+◌, ◌*◌, ◌<◌, ◌≤◌, true, false, List, [], ◌∷◌, ◌++◌, Some, None, Ok, map, All, length, take, drop, refl, ap, ◌∙◌, subst, arith, append_assoc, length-append, le-leb}
use Rattle.std.specs.Prelude.{codes, slice_get}
use Rattle.std.specs.List.{AllByRecursion, list_all, slice_split}
use Rattle.std.proofs.lemmas.Bool.{eq-eqb}
use Rattle.std.proofs.lemmas.Option.{slice_get_within}
use Rattle.std.proofs.lemmas.List.Splits.{slice_split_at}
use Rattle.std.proofs.lemmas.List.Sums.{AllPass-from_list_all}
use Rattle.std.proofs.lemmas.List.Elements.{All-weaker}
use Rattle.bpfvm.specs.declared.insn.Insn.{Insn}
use Rattle.bpfvm.specs.Codes.{operation_of}
use Rattle.bpfvm.specs.Images as images
use Rattle.bpfvm.specs.Images.{placed_text, insn_text, image_of, three_digits}
use Rattle.bpfvm.specs.Validity.{fault_of, IsValidProgram}
use Rattle.bpfvm.specs.Laws.{HasFields}
use Rattle.bpf_asm.specs.Types.{Token, Line}
use Rattle.bpf_asm.specs.Types.tokens
use Rattle.bpf_asm.specs.Lines.{bind, line_at, line_of}
use Rattle.bpf_asm.specs.Tokens.{front}
use Rattle.bpf_asm.specs.Assembly as assembly
use Rattle.bpf_asm.specs.Assembly.{is_line_feed, line_insn, assembled}
use Rattle.bpf_asm.specs.Notation.{is_assembly}
use Rattle.bpf_asm.specs.Laws.{cleared}
use Rattle.bpf_asm.proofs.Digits.{not_true}
use Rattle.bpf_asm.proofs.Spelled.{Spells, in_line, bytes_then, place_then}
use Rattle.bpf_asm.proofs.ImageInsns.{IsReadAs, is_read}
use Rattle.bpf_asm.proofs.Clear.{assembled_same, assembled_fields}

-- ---- One line

-- the line at a place is read as the instruction there
record IsLine (place : ℕ) (i : Insn) : Type 0 where
  line : Line
  is : line_of (placed_text place i) ≡ Ok line
  flat : list_all in_line (placed_text place i) ≡ true
  short : length (placed_text place i) ≤ 112
  insn : (before so_far rest : List Line) → line_insn line place before so_far rest ≡ Ok (Some (cleared i))

-- the sign after a place
closed : {rest : List ℕ} {ks : List Token} {m : ℕ} → Spells rest ks m → Spells (codes ") " ++ rest) (tokens.Close ∷ ks) (2 + m)
unfolding front
closed s = bytes_then (codes ") ") (tokens.Close ∷ []) s refl refl

-- a line with a place and an instruction
placed : (place : ℕ) (i : Insn) → place < 1000 → IsReadAs (operation_of i.code) place i → IsLine place i
unfolding placed_text insn_text line_of
placed place i small read =
    let text : List ℕ = insn_text (place + 1) i in
    let spells = place_then place small (closed read.spells) refl in
    let same : placed_text place i ≡ codes "(" ++ (three_digits place ++ (codes ") " ++ text)) = ap (λ (t : List ℕ). 40 ∷ t) (append_assoc (three_digits place) (codes ") ") text) in
    let line : Line = record { place = Some place; label = None; instruction = Some read.instruction } in
    let reads : line_at (tokens.Place place ∷ tokens.Close ∷ tokens.Name read.name ∷ read.args) ≡ Ok line = rw read.reads refl in
    record {
      line = line;
      is = ap line_of same ∙ ap (λ r. bind r line_at) spells.lexes ∙ reads;
      flat = ap (list_all in_line) same ∙ spells.flat;
      short = omega (arith, ap length same, spells.short);
      insn = λ before so_far rest. rw (eq-eqb place place refl, read.leads so_far rest) refl;
    }

-- ---- All lines

-- each line is read, from this place on
AreLines : ℕ → List Insn → Type 0
AreLines place [] = Unit {0}
AreLines place (i ∷ insns) = IsLine place i × AreLines (suc place) insns

-- nothing is wrong with these instructions of a program of this size, of which the first has this place
AreSound : (size place : ℕ) → List Insn → Type 0
AreSound size place insns = (n : ℕ) (i : Insn) → slice_get insns n ≡ Some i → fault_of size (place + n) i ≡ None

lines_read : (size place : ℕ) (insns : List Insn) → size ≤ 512 → place + length insns ≤ 512 → AllByRecursion HasFields insns → AreSound size place insns → AreLines place insns
unfolding AreLines AreSound fault_of
lines_read size place [] few inside fields sound = tt
lines_read size place (i ∷ insns) few inside fields sound =
    let first : place + 0 ≡ place = omega arith in
    let here = subst (λ p. fault_of size p i ≡ None) first (sound 0 i refl) in
    let read = is_read i.code i.jt i.jf i.k size place fields.0.jt fields.0.jf fields.0.k few here in
    let next : (n : ℕ) → place + suc n ≡ suc place + n = λ n. omega arith in
    let more : AreSound size (suc place) insns = λ n j at. subst (λ p. fault_of size p j ≡ None) (next n) (sound (suc n) j at) in
    (placed place i (omega arith) read, lines_read size (suc place) insns few (omega arith) fields.1 more)

-- the texts of the lines, and an empty one after the last line feed
texts_from : ℕ → List Insn → List (List ℕ)
texts_from place [] = [] ∷ []
texts_from place (i ∷ insns) = placed_text place i ∷ texts_from (suc place) insns

empty_line : Line
empty_line = record { place = None; label = None; instruction = None }

lines_in : (place : ℕ) (insns : List Insn) → AreLines place insns → List Line
unfolding AreLines
lines_in place [] read = empty_line ∷ []
lines_in place (i ∷ insns) read = read.0.line ∷ lines_in (suc place) insns read.1

-- the image is cut at its line feeds
split_lines : (place : ℕ) (insns : List Insn) → AreLines place insns → slice_split is_line_feed (images.lines_from place insns) ≡ texts_from place insns
unfolding AreLines texts_from
split_lines place [] read = refl
split_lines place (i ∷ insns) read =
    let text : List ℕ = placed_text place i in
    let none : All (λ b. is_line_feed b ≡ false) text = All-weaker (λ b. in_line b ≡ true) (λ b. is_line_feed b ≡ false) (λ b is. not_true (is_line_feed b) is) text (AllPass-from_list_all in_line text read.0.flat) in
    ap (slice_split is_line_feed) (append_assoc text (10 ∷ []) (images.lines_from (suc place) insns))
    ∙ slice_split_at is_line_feed text 10 (images.lines_from (suc place) insns) none refl ∙ ap (λ (ts : List (List ℕ)). text ∷ ts) (split_lines (suc place) insns read.1)

empty_read : line_of [] ≡ Ok empty_line
unfolding line_of empty_line
empty_read = refl

-- each is read
read_lines : (number place : ℕ) (insns : List Insn) (read : AreLines place insns) → assembly.lines_from number (texts_from place insns) ≡ Ok (lines_in place insns read)
unfolding AreLines texts_from lines_in
read_lines number place [] read = rw empty_read refl
read_lines number place (i ∷ insns) read = rw (read.0.is, read_lines (number + 1) (suc place) insns read.1) refl

-- as the instruction at its place
insns_read : (all : List Line) (n place : ℕ) (insns : List Insn) (read : AreLines place insns) → assembly.insns_from all n place (lines_in place insns read) ≡ Ok (map cleared insns)
unfolding AreLines lines_in empty_line
insns_read all n place [] read = refl
insns_read all n place (i ∷ insns) read =
    let next : place + 1 ≡ suc place = omega arith in
    rw (read.0.insn (take n all) (take (n + 1) all) (drop (n + 1) all), next, insns_read all (n + 1) (suc place) insns read.1) refl

-- and the image is short
image_short : (place : ℕ) (insns : List Insn) → AreLines place insns → length (images.lines_from place insns) ≤ 128 * length insns
unfolding AreLines
image_short place [] read = omega arith
image_short place (i ∷ insns) read =
    let text : List ℕ = placed_text place i in
    let rest : List ℕ = images.lines_from (suc place) insns in
    omega (arith, length-append (text ++ 10 ∷ []) rest, length-append text (10 ∷ []), read.0.short, image_short (suc place) insns read.1)

-- ---- The laws

pub image_read : (program : List Insn) → IsValidProgram program → AllByRecursion HasFields program → assembled (image_of program) ≡ Ok (map cleared program)
unfolding assembled image_of AreSound
image_read program valid fields =
    let from_0 : (n : ℕ) → n ≡ 0 + n = λ n. omega arith in
    let sound : AreSound (length program) 0 program = λ n i at. subst (λ p. fault_of (length program) p i ≡ None) (from_0 n) (valid.sound n i (slice_get_within program n i at) at) in
    let read = lines_read (length program) 0 program (omega (arith, valid.most)) (omega (arith, valid.most)) fields sound in
    let fits = le-leb (length (images.lines_from 0 program)) 65536 (omega (arith, image_short 0 program read, valid.most)) in
    let lines = split_lines 0 program read in
    let read_all = read_lines 1 0 program read in
    rw (fits, lines, read_all) (insns_read (lines_in 0 program read) 0 0 program read)

-- the first byte of an image is that of a place
pub image_assembly : (program : List Insn) → IsValidProgram program → is_assembly (image_of program) ≡ true
unfolding image_of placed_text
image_assembly [] valid = absurd (omega (arith, valid.some))
image_assembly (i ∷ insns) valid = refl

-- what is assembled has an image that is read as it again
pub assembled_again : (text : List ℕ) (program : List Insn) → assembled text ≡ Ok program → IsValidProgram program → assembled (image_of program) ≡ Ok program
assembled_again text program is valid = image_read program valid (assembled_fields text program is valid) ∙ ap Ok (assembled_same text program is)
