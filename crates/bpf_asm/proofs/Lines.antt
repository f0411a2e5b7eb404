-- The lines of a text, one after another.
use Rattle.std.proofs.Common.{◌≡◌, ◌≢◌, ℕ, ◌+◌, false, List, [], ◌∷◌, ◌++◌, All, refl, ap, ◌∙◌, rules, tests, Result, Ok, Err}
use Rattle.std.specs.List.{slice_split}
use Rattle.std.proofs.lemmas.List.{append-nil}
use Rattle.std.proofs.lemmas.List.Splits.{slice_split_at, slice_split_none}
use Rattle.std.proofs.lemmas.List.Elements.{All-weaker}
use Rattle.bpf_asm.specs.declared.line.Line.{Line}
use Rattle.bpf_asm.specs.declared.fault.AssemblyFault.{AssemblyFault}
use Rattle.bpf_asm.specs.Tokens.{onto}
use Rattle.bpf_asm.specs.Lines.{bind, line_of}
use Rattle.bpf_asm.specs.Assembly.{is_line_feed, at_line, lines_from}
use Rattle.bpf_asm.proofs.Lexing.{all_onto, onto_more, onto_none}

-- no byte is a line feed
no-line_feed : (xs : List ℕ) → All (λ byte. byte ≢ 10) xs → All (λ byte. is_line_feed byte ≡ false) xs
no-line_feed xs none = All-weaker (λ byte. byte ≢ 10) (λ byte. is_line_feed byte ≡ false) (λ byte other. search (rules, tests)) xs none

-- the first line ends at the first line feed
pub cut_at : (text xs ys : List ℕ) → text ≡ xs ++ 10 ∷ ys → All (λ byte. byte ≢ 10) xs → slice_split is_line_feed text ≡ xs ∷ slice_split is_line_feed ys
cut_at text xs ys is none = ap (slice_split is_line_feed) is ∙ slice_split_at is_line_feed xs 10 ys (no-line_feed xs none) refl

-- without one the text is a line
pub cut_none : (text : List ℕ) → All (λ byte. byte ≢ 10) text → slice_split is_line_feed text ≡ text ∷ []
cut_none text none = slice_split_none is_line_feed text (no-line_feed text none)

-- lines before those that are still to be read, of which the first has this number
pub record ReadTo (all left : List (List ℕ)) (lines : List Line) (number : ℕ) : Type 0 where
  pub so_far : lines_from 1 all ≡ all_onto lines (lines_from number left)

pub read_begin : (all : List (List ℕ)) (lines : List Line) → lines ≡ [] → ReadTo all all lines 1
read_begin all lines none = rw none (record { so_far = onto_none (lines_from 1 all) })

-- the next line is read
by_line : (number : ℕ) (text : List ℕ) (texts : List (List ℕ)) (r : Result Line AssemblyFault) → at_line number (line_of text) ≡ r → lines_from number (text ∷ texts) ≡ bind r (λ line. onto line (lines_from (number + 1) texts))
by_line number text texts r is = ap (λ (s : Result Line AssemblyFault). bind s (λ line. onto line (lines_from (number + 1) texts))) is

module _ {all left : List (List ℕ)} {lines : List Line} {number : ℕ} (to : ReadTo all left lines number) where
  pub read_more : (text : List ℕ) (texts : List (List ℕ)) (line : Line) → left ≡ text ∷ texts → at_line number (line_of text) ≡ Ok line → ReadTo all texts (lines ++ line ∷ []) (number + 1)
  read_more text texts line cut is = record {
    so_far = to.so_far ∙ ap (λ (l : List (List ℕ)). all_onto lines (lines_from number l)) cut ∙ ap (all_onto lines) (by_line number text texts (Ok line) is) ∙ onto_more lines line (lines_from (number + 1) texts);
  }

  pub read_fault : (text : List ℕ) (texts : List (List ℕ)) (fault : AssemblyFault) → left ≡ text ∷ texts → at_line number (line_of text) ≡ Err fault → lines_from 1 all ≡ Err fault
  read_fault text texts fault cut is = to.so_far ∙ ap (λ (l : List (List ℕ)). all_onto lines (lines_from number l)) cut ∙ ap (all_onto lines) (by_line number text texts (Err fault) is)

-- after the last line all are read
pub read_all : (all : List (List ℕ)) (lines : List Line) (number : ℕ) → ReadTo all [] lines number → lines_from 1 all ≡ Ok lines
read_all all lines number to = to.so_far ∙ ap Ok (append-nil lines)
