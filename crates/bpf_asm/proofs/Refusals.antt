-- Why a text is no assembly.
use Rattle.std.proofs.Common.{◌≡◌, ℕ, ◌+◌, ◌≤◌, List, [], ◌∷◌, length, Option, Some, None, Result, Ok, Err, refl, sym, ap, subst, ◌∙◌, ◌⊎◌, inl, inr, ⊎_elim, le-leb}
use Rattle.std.specs.Prelude.{IfErr}
use Rattle.std.specs.Result.{IsErr, IsErrAnd}
use Rattle.std.specs.List.{slice_split}
use Rattle.bpfvm.specs.declared.insn.Insn.{Insn}
use Rattle.bpfvm.specs.declared.fault.Invalid.{Invalid}
use Rattle.bpf_asm.specs.declared.line.Line.{Line}
use Rattle.bpf_asm.specs.declared.fault.Cause.{Cause}
use Rattle.bpf_asm.specs.declared.fault.AssemblyFault.{AssemblyFault}
use Rattle.bpf_asm.specs.declared.fault.AssemblyFault.TheVariants as faults
use Rattle.bpf_asm.specs.Tokens.{onto}
use Rattle.bpf_asm.specs.Lines.{bind, line_of}
use Rattle.bpf_asm.specs.Assembly.{is_line_feed, at_line, before_others, next_place, insns_from, lines_from, assembled}
use Rattle.bpf_asm.specs.Answers.{IsRefused}
use Rattle.bpf_asm.proofs.Agreeing.{bind_fails, bind_then}

-- an answer is not refused as a program
abbrev IsFree : {A : Type 0} → Result A AssemblyFault → Type 0
IsFree {A} r = (f : Invalid) → ◌≡◌ {A = Result A AssemblyFault} r (Err (faults.Program f)) → ⊥

onto-free : {A : Type 0} (x : A) (r : Result (List A) AssemblyFault) → IsFree r → IsFree (onto x r)
onto-free x (Ok xs) free f is = absurd cc
onto-free x (Err e) free f is = free f is

before-free : (found : Option Insn) (r : Result (List Insn) AssemblyFault) → IsFree r → IsFree (before_others found r)
before-free None r free = free
before-free (Some insn) r free = onto-free insn r free

line-free : {A B : Type 0} (n : ℕ) (r : Result A Cause) (next : A → Result B AssemblyFault) → ((x : A) → IsFree (next x)) → IsFree (bind (at_line n r) next)
line-free n (Ok x) next free = free x
line-free n (Err cause) next free = λ f is. absurd cc

lines-free : (n : ℕ) (texts : List (List ℕ)) → IsFree (lines_from n texts)
lines-free n [] = λ f is. absurd cc
lines-free n (text ∷ texts) = line-free n (line_of text) (λ line. onto line (lines_from (n + 1) texts)) (λ line. onto-free line (lines_from (n + 1) texts) (lines-free (n + 1) texts))

insns-free : (all : List Line) (n place : ℕ) (lines : List Line) → IsFree (insns_from all n place lines)
insns-free all n place [] = λ f is. absurd cc
insns-free all n place (line ∷ lines) =
    line-free (n + 1) _ (λ found. before_others found (insns_from all (n + 1) (next_place found place) lines))
    (λ found. before-free found (insns_from all (n + 1) (next_place found place) lines) (insns-free all (n + 1) (next_place found place) lines))

-- a fault of lines is one of the text
lines-refused : (text : List ℕ) (e : AssemblyFault) → length text ≤ 65536 → lines_from 1 (slice_split is_line_feed text) ≡ Err e → assembled text ≡ Err e
unfolding assembled
lines-refused text e short is = rw (le-leb (length text) 65536 short) (bind_fails (lines_from 1 (slice_split is_line_feed text)) (λ (lines : List Line). insns_from lines 0 0 lines) e is)

insns-refused : (text : List ℕ) (lines : List Line) (e : AssemblyFault) → length text ≤ 65536 → lines_from 1 (slice_split is_line_feed text) ≡ Ok lines → insns_from lines 0 0 lines ≡ Err e → assembled text ≡ Err e
unfolding assembled
insns-refused text lines e short is fails = rw (le-leb (length text) 65536 short) (bind_then (lines_from 1 (slice_split is_line_feed text)) lines (λ (lines : List Line). insns_from lines 0 0 lines) is ∙ fails)

refused : (text : List ℕ) (e : AssemblyFault) → ((f : Invalid) → e ≡ faults.Program f → ⊥) → (e ≡ faults.NoMemory) ⊎ (assembled text ≡ Err e) → IsRefused text e
refused text faults.TextTooLong free why = ⊎_elim (λ memory. absurd cc) (λ is. is) why
refused text (faults.Line n cause) free why = ⊎_elim (λ memory. absurd cc) (λ is. is) why
refused text (faults.Program f) free why = absurd (free f refl)
refused text faults.NoMemory free why = tt

-- what a step answered that failed, and is handed on
handed : {A : Type 0} (r : Result A AssemblyFault) (e : AssemblyFault) (text : List ℕ) → IsErr r × IsErrAnd r (λ f. f ≡ e) → IsRefused text e → IfErr r (IsRefused text)
handed (Ok x) e text failed why = tt
handed (Err f) e text failed why = subst (IsRefused text) (sym failed.1) why

pub lines_refused : {A : Type 0} (r : Result A AssemblyFault) (e : AssemblyFault) (text : List ℕ) → length text ≤ 65536 → IsErr r × IsErrAnd r (λ f. f ≡ e)
    → (e ≡ faults.NoMemory) ⊎ (lines_from 1 (slice_split is_line_feed text) ≡ Err e) → IfErr r (IsRefused text)
lines_refused r e text short failed why = handed r e text failed (⊎_elim
    (λ memory. refused text e (λ f is. let clash : faults.NoMemory ≡ faults.Program f = sym memory ∙ is in absurd cc) (inl memory))
    (λ is. refused text e (λ f same. lines-free 1 (slice_split is_line_feed text) f (is ∙ ap (λ (d : AssemblyFault). Err d) same)) (inr (lines-refused text e short is)))
    why)

pub insns_refused : {A : Type 0} (r : Result A AssemblyFault) (e : AssemblyFault) (text : List ℕ) (lines : List Line) → length text ≤ 65536 → IsErr r × IsErrAnd r (λ f. f ≡ e)
    → lines_from 1 (slice_split is_line_feed text) ≡ Ok lines → (e ≡ faults.NoMemory) ⊎ (insns_from lines 0 0 lines ≡ Err e) → IfErr r (IsRefused text)
insns_refused r e text lines short failed is why = handed r e text failed (⊎_elim
    (λ memory. refused text e (λ f same. let clash : faults.NoMemory ≡ faults.Program f = sym memory ∙ same in absurd cc) (inl memory))
    (λ fails. refused text e (λ f same. insns-free lines 0 0 lines f (fails ∙ ap (λ (d : AssemblyFault). Err d) same)) (inr (insns-refused text lines e short is fails)))
    why)
