-- The instructions of lines, one after another.
use Rattle.std.proofs.Common.{◌≡◌, ℕ, ◌+◌, ◌<◌, ◌≤◌, Bool, true, false, List, [], ◌∷◌, ◌++◌, length, get_or, take, drop, refl, sym, ap, ◌∙◌, arith, Option, Some, None, Result, Ok, Err, if◌then◌else◌}
use Rattle.std.specs.Prelude.{option_map}
use Rattle.std.proofs.lemmas.List.{append-nil, length_push, at_drop_more, at_drop_all}
use Rattle.bpfvm.specs.declared.insn.Insn.{Insn}
use Rattle.bpf_asm.specs.declared.line.Line.{Line}
use Rattle.bpf_asm.specs.declared.token.Label.{Label}
use Rattle.bpf_asm.specs.declared.fault.AssemblyFault.{AssemblyFault}
use Rattle.bpf_asm.specs.Lines.{bind}
use Rattle.bpf_asm.specs.Assembly.{has_label, passed_by, ahead, at_line, line_insn, before_others, next_place, insns_from}
use Rattle.bpf_asm.proofs.Lexing.{all_onto, onto_more, onto_none}

-- ---- The way to a label

abbrev pub past : ℕ → Option ℕ → Option ℕ
past n found = option_map (λ m. n + m) found

pub past_none : (found : Option ℕ) → found ≡ past 0 found
past_none None = refl
past_none (Some n) = ap Some (omega arith)

past_more : (n m : ℕ) (found : Option ℕ) → past n (option_map (λ k. m + k) found) ≡ past (n + m) found
past_more n m None = refl
past_more n m (Some k) = ap Some (omega arith)

ahead_test : (b : Bool) (n : ℕ) (label : Label) (line : Line) (lines : List Line) → b ≡ false → past n (if b then Some 0 else option_map (λ k. passed_by line + k) (ahead label lines)) ≡ past (n + passed_by line) (ahead label lines)
ahead_test true n label line lines lacks = absurd cc
ahead_test false n label line lines lacks = past_more n (passed_by line) (ahead label lines)

-- the label is farther on
pub ahead_later : (label : Label) (lines : List Line) (i n : ℕ) (d : Line) → i < length lines → has_label label (get_or lines i d) ≡ false → ahead label lines ≡ past n (ahead label (drop i lines)) → ahead label lines ≡ past (n + passed_by (get_or lines i d)) (ahead label (drop (i + 1) lines))
ahead_later label lines i n d inside lacks so_far =
    so_far ∙ ap (past n) (at_drop_more (ahead label) lines i d inside) ∙ ahead_test (has_label label (get_or lines i d)) n label (get_or lines i d) (drop (i + 1) lines) lacks

ahead_found : (b : Bool) (n : ℕ) (label : Label) (line : Line) (lines : List Line) → b ≡ true → Some n ≡ past n (if b then Some 0 else option_map (λ k. passed_by line + k) (ahead label lines))
ahead_found true n label line lines holds = ap Some (omega arith)
ahead_found false n label line lines holds = absurd cc

-- or here
pub ahead_here : (label : Label) (lines : List Line) (i n : ℕ) (d : Line) → i < length lines → has_label label (get_or lines i d) ≡ true → ahead label lines ≡ past n (ahead label (drop i lines)) → Some n ≡ ahead label lines
ahead_here label lines i n d inside holds so_far =
    ahead_found (has_label label (get_or lines i d)) n label (get_or lines i d) (drop (i + 1) lines) holds ∙ sym (so_far ∙ ap (past n) (at_drop_more (ahead label) lines i d inside))

-- or nowhere
pub ahead_none : (label : Label) (lines : List Line) (i n : ℕ) → length lines ≤ i → ahead label lines ≡ past n (ahead label (drop i lines)) → None ≡ ahead label lines
ahead_none label lines i n over so_far = sym (so_far ∙ ap (past n) (at_drop_all (ahead label) lines i over))

-- ---- The instructions

-- instructions before those of the lines past n of them
pub record AssembledTo (lines : List Line) (insns : List Insn) (n : ℕ) : Type 0 where
  pub so_far : insns_from lines 0 0 lines ≡ all_onto insns (insns_from lines n (length insns) (drop n lines))

pub assembled_begin : (lines : List Line) (insns : List Insn) → insns ≡ [] → AssembledTo lines insns 0
assembled_begin lines insns none = rw none (record { so_far = onto_none (insns_from lines 0 0 lines) })

-- what one line gives
abbrev pub here : List Line → (n place : ℕ) → Line → Result (Option Insn) AssemblyFault
here lines n place line = at_line (n + 1) (line_insn line place (take n lines) (take (n + 1) lines) (drop (n + 1) lines))

module _ {lines : List Line} {insns : List Insn} {n : ℕ} (to : AssembledTo lines insns n) (d : Line) (inside : n < length lines) where
  by_line : (r : Result (Option Insn) AssemblyFault) → here lines n (length insns) (get_or lines n d) ≡ r
      → insns_from lines 0 0 lines ≡ all_onto insns (bind r (λ found. before_others found (insns_from lines (n + 1) (next_place found (length insns)) (drop (n + 1) lines))))
  by_line r is =
      to.so_far ∙ ap (all_onto insns) (at_drop_more (insns_from lines n (length insns)) lines n d inside)
      ∙ ap (λ (s : Result (Option Insn) AssemblyFault). all_onto insns (bind s (λ found. before_others found (insns_from lines (n + 1) (next_place found (length insns)) (drop (n + 1) lines))))) is

  -- one instruction more
  pub assembled_more : (insn : Insn) (more : List Insn) → here lines n (length insns) (get_or lines n d) ≡ Ok (Some insn) → more ≡ insns ++ insn ∷ [] → AssembledTo lines more (n + 1)
  assembled_more insn more is pushed = record {
    so_far =
        by_line (Ok (Some insn)) is ∙ onto_more insns insn (insns_from lines (n + 1) (length insns + 1) (drop (n + 1) lines))
        ∙ ap (λ (l : List Insn). all_onto l (insns_from lines (n + 1) (length insns + 1) (drop (n + 1) lines))) (sym pushed)
        ∙ ap (λ m. all_onto more (insns_from lines (n + 1) m (drop (n + 1) lines))) (sym (ap length pushed ∙ length_push insns insn));
  }

  -- or none
  pub assembled_same : here lines n (length insns) (get_or lines n d) ≡ Ok None → AssembledTo lines insns (n + 1)
  assembled_same is = record { so_far = by_line (Ok None) is }

  -- or a fault
  pub assembled_fault : (fault : AssemblyFault) → here lines n (length insns) (get_or lines n d) ≡ Err fault → insns_from lines 0 0 lines ≡ Err fault
  assembled_fault fault is = by_line (Err fault) is

-- after the last line these are all
pub assembled_all : (lines : List Line) (insns : List Insn) (n : ℕ) → length lines ≤ n → AssembledTo lines insns n → insns_from lines 0 0 lines ≡ Ok insns
assembled_all lines insns n over to = to.so_far ∙ ap (all_onto insns) (at_drop_all (insns_from lines n (length insns)) lines n over) ∙ ap Ok (append-nil insns)
