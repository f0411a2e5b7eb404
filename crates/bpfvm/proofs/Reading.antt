-- How far the lines of a listing are read.
use Rattle.std.proofs.Common.{◌≡◌, ℕ, zero, suc, ◌+◌, ◌<◌, ◌≤◌, List, [], ◌∷◌, ◌++◌, length, take, Some, refl, sym, ap, subst, ◌∙◌, arith, append_assoc, length-append, length-take, min}
use Rattle.std.proofs.lemmas.List.{take_all, take-append-le}
use Rattle.std.specs.List.{slice_get}
use Rattle.std.proofs.lemmas.Option.{get_or_from_slice_get}
use Rattle.bpfvm.specs.declared.insn.Insn.{Insn}
use Rattle.bpfvm.specs.Listing.{IsLine, AreLines}
use Rattle.bpfvm.specs.Lines.{StopsAfter}
use Rattle.bpfvm.proofs.Fields.{NoLine}

-- this many instructions are read of all the lines, of which these are left and the first 512 kept
pub record IsRead (all left : List (List ℕ)) (kept : List Insn) (count : ℕ) : Type 0 where
  pub front : List (List ℕ)
  pub insns : List Insn
  pub lines : all ≡ front ++ left
  pub each : AreLines front insns
  pub counted : count ≡ length insns
  pub first : kept ≡ take 512 insns

-- none is read yet
pub IsRead-none : (all : List (List ℕ)) (kept : List Insn) → kept ≡ [] → IsRead all all kept 0
IsRead-none all kept none = record { front = []; insns = []; lines = refl; each = tt; counted = refl; first = none }

-- one instruction more, and its line
AreLines-push : (lines : List (List ℕ)) (insns : List Insn) (line : List ℕ) (insn : Insn) → AreLines lines insns → IsLine line insn → AreLines (lines ++ line ∷ []) (insns ++ insn ∷ [])
AreLines-push [] [] line insn each is = (is, tt)
AreLines-push (l ∷ lines) (i ∷ insns) line insn each is = (each.0, AreLines-push lines insns line insn each.1 is)
AreLines-push [] (i ∷ insns) line insn each is = absurd each
AreLines-push (l ∷ lines) [] line insn each is = absurd each

-- as many lines as instructions
pub length-AreLines : (lines : List (List ℕ)) (insns : List Insn) → AreLines lines insns → length lines ≡ length insns
length-AreLines [] [] each = refl
length-AreLines (l ∷ lines) (i ∷ insns) each = ap suc (length-AreLines lines insns each.1)
length-AreLines [] (i ∷ insns) each = absurd each
length-AreLines (l ∷ lines) [] each = absurd each

-- one line more
pub IsRead-more : (all left : List (List ℕ)) (kept kept' : List Insn) (count : ℕ) (line : List ℕ) (insn : Insn) → IsRead all (line ∷ left) kept count → IsLine line insn
    → ((insns : List Insn) → kept ≡ take 512 insns → kept' ≡ take 512 (insns ++ insn ∷ [])) → IsRead all left kept' (count + 1)
IsRead-more all left kept kept' count line insn read is keeps = record {
  front = read.front ++ line ∷ [];
  insns = read.insns ++ insn ∷ [];
  lines = read.lines ∙ sym (append_assoc read.front (line ∷ []) left);
  each = AreLines-push read.front read.insns line insn read.each is;
  counted = ap (λ n. n + 1) read.counted ∙ sym (length-append read.insns (insn ∷ []));
  first = keeps read.insns read.first;
}

-- the line after those that are read
get-after : (front left : List (List ℕ)) (line : List ℕ) → slice_get (front ++ line ∷ left) (length front) ≡ Some line
get-after [] left line = refl
get-after (l ∷ front) left line = get-after front left line

-- a line that is read is an instruction
AreLines-at : (front left : List (List ℕ)) (insns : List Insn) (k : ℕ) (line : List ℕ) → AreLines front insns → k < length front → slice_get (front ++ left) k ≡ Some line → (insn : Insn) × IsLine line insn
AreLines-at [] left insns k line each below here = absurd (omega arith)
AreLines-at (l ∷ front) left [] k line each below here = absurd each
AreLines-at (l ∷ front) left (i ∷ insns) zero line each below here =
    let same : l ≡ line = get_or_from_slice_get (l ∷ (front ++ left)) 0 line l here in
    (i, subst (λ (l' : List ℕ). IsLine l' i) same each.0)
AreLines-at (l ∷ front) left (i ∷ insns) (suc k) line each below here = AreLines-at front left insns k line each.1 (omega arith) here

-- the next line stops the reading where it is no instruction
pub StopsAfter-read : (all left : List (List ℕ)) (kept : List Insn) (count : ℕ) (line : List ℕ) → IsRead all (line ∷ left) kept count → NoLine line → StopsAfter all count
StopsAfter-read all left kept count line read bad =
    let place : length read.front ≡ count = length-AreLines read.front read.insns read.each ∙ sym read.counted in
    record {
      line = line;
      here = ap (λ (l : List (List ℕ)). slice_get l count) read.lines ∙ ap (λ n. slice_get (read.front ++ line ∷ left) n) (sym place) ∙ get-after read.front left line;
      bad = bad;
      before = λ k earlier below here. AreLines-at read.front (line ∷ left) read.insns k earlier read.each (omega arith) (ap (λ (l : List (List ℕ)). slice_get l k) (sym read.lines) ∙ here);
    }

-- a number of first instructions of a list, when it grows
pub take-room : (n : ℕ) (kept kept' insns : List Insn) (i : Insn) → length kept < n → kept' ≡ kept ++ i ∷ [] → kept ≡ take n insns → kept' ≡ take n (insns ++ i ∷ [])
take-room n kept kept' insns i room grown first =
    let long : length kept ≡ min n (length insns) = ap length first ∙ length-take n insns in
    let all : take n insns ≡ insns = take_all n insns (omega arith) in
    let all' : take n (insns ++ i ∷ []) ≡ insns ++ i ∷ [] = take_all n (insns ++ i ∷ []) (omega (arith, length-append insns (i ∷ []))) in
    grown ∙ ap (λ (l : List Insn). l ++ i ∷ []) (first ∙ all) ∙ sym all'

-- and when there is no room left
pub take-full : (n : ℕ) (kept insns : List Insn) (i : Insn) → n ≤ length kept → kept ≡ take n insns → kept ≡ take n (insns ++ i ∷ [])
take-full n kept insns i full first =
    let long : length kept ≡ min n (length insns) = ap length first ∙ length-take n insns in
    first ∙ sym (take-append-le n insns (i ∷ []) (omega arith))
