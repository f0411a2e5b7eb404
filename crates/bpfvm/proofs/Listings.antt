-- A text is at most one listing, and is refused for one reason.
use Rattle.std.proofs.Common.{◌≡◌, ◌↔◌, ℕ, zero, suc, ◌+◌, ◌<◌, ◌≤◌, ◌⊎◌, ⊎_elim, List, [], ◌∷◌, ◌++◌, length, take, Some, Result, Ok, Err, refl, sym, ap, subst, ◌∙◌, arith}
use Rattle.std.specs.List.{slice_get}
use Rattle.std.proofs.lemmas.Option.{slice_get_within, get_or_from_slice_get}
use Rattle.std.proofs.lemmas.List.{take_all}
use Rattle.bpfvm.specs.declared.insn.Insn.{Insn}
use Rattle.bpfvm.specs.declared.fault.ListingFault.{ListingFault}
use Rattle.bpfvm.specs.declared.fault.ListingFault.TheVariants.{BadLine, Count, Program}
use Rattle.bpfvm.specs.Validity.{IsValidProgram, IsRefusedAs}
use Rattle.bpfvm.specs.Listing.{space, IsNumber, IsLine, AreLines, IsListing, HasForm, IsRefusedListing, lines_of}
use Rattle.bpfvm.specs.Lines.{StopsAfter}
use Rattle.bpfvm.proofs.Fields.{number-no_space, line-first, Behind, four-fields}
use Rattle.bpfvm.proofs.Refusals.{IsRefusedAs-one, IsRefusedAs-invalid}

-- digits are one number
number-one : (most : ℕ) (text : List ℕ) (n m : ℕ) → IsNumber most text n → IsNumber most text m → n ≡ m
number-one most text n m one other = one.is ∙ sym other.is

-- instructions with the same fields are one
same-insn : (i j : Insn) → i.code ≡ j.code → i.jt ≡ j.jt → i.jf ≡ j.jf → i.k ≡ j.k → i ≡ j
same-insn i j code jt jf k =
    let one = ap (λ (n : ℕ). let i' : Insn = record { code = n; jt = i.jt; jf = i.jf; k = i.k } in i') code in
    let two = ap (λ (n : ℕ). let i' : Insn = record { code = j.code; jt = n; jf = i.jf; k = i.k } in i') jt in
    let three = ap (λ (n : ℕ). let i' : Insn = record { code = j.code; jt = j.jt; jf = n; k = i.k } in i') jf in
    let four = ap (λ (n : ℕ). let i' : Insn = record { code = j.code; jt = j.jt; jf = j.jf; k = n } in i') k in
    one ∙ two ∙ three ∙ four

-- a line is one instruction
line-one : (line : List ℕ) (i j : Insn) → IsLine line i → IsLine line j → i ≡ j
line-one line i j one other =
    let fields = four-fields line one.code (Behind line i one) (line-first line i one) (number-no_space 65535 one.code i.code one.code_is)
    one.jt (one.jf ++ (space ∷ one.k)) refl (number-no_space 255 one.jt i.jt one.jt_is)
    one.jf one.k refl (number-no_space 255 one.jf i.jf one.jf_is) j other in
    same-insn i j
    (number-one 65535 one.code i.code j.code one.code_is fields.code_is)
    (number-one 255 one.jt i.jt j.jt one.jt_is fields.jt_is)
    (number-one 255 one.jf i.jf j.jf one.jf_is fields.jf_is)
    (number-one 4294967295 one.k i.k j.k one.k_is fields.k_is)

-- lines are one list of instructions
lines-one : (lines : List (List ℕ)) (is js : List Insn) → AreLines lines is → AreLines lines js → is ≡ js
lines-one [] [] [] one other = refl
lines-one [] [] (j ∷ js) one other = absurd other
lines-one [] (i ∷ is) js one other = absurd one
lines-one (l ∷ lines) [] js one other = absurd one
lines-one (l ∷ lines) (i ∷ is) [] one other = absurd other
lines-one (l ∷ lines) (i ∷ is) (j ∷ js) one other =
    let head = line-one l i j one.0 other.0 in
    let tail = lines-one lines is js one.1 other.1 in
    cc

-- what the same lines say
module _ (text first : List ℕ) (others : List (List ℕ)) (lines : lines_of text ≡ first ∷ others) where
  -- the first line and those after it are these
  same-others : (first' : List ℕ) (others' : List (List ℕ)) → lines_of text ≡ first' ∷ others' → (first ≡ first') × (others ≡ others')
  same-others first' others' lines' = let same = sym lines ∙ lines' in (cc, cc)

  -- the instructions of a listing are those of its lines
  pub listing-insns : (insns p : List Insn) → AreLines others insns → IsListing text p → insns ≡ p
  listing-insns insns p each listing =
      let same = same-others listing.first listing.others listing.lines in
      lines-one others insns p each (subst (λ (l : List (List ℕ)). AreLines l p) (sym same.1) listing.each)

  -- its count is the number of the first line
  listing-count : (n : ℕ) (p : List Insn) → IsNumber 4294967295 first n → IsListing text p → n ≡ length p
  listing-count n p count listing =
      let same = same-others listing.first listing.others listing.lines in
      number-one 4294967295 first n (length p) count (subst (λ (l : List ℕ). IsNumber 4294967295 l (length p)) (sym same.0) listing.count)

  -- each line has its form
  have-forms : (n : ℕ) (insns : List Insn) → IsNumber 4294967295 first n → AreLines others insns → (k : ℕ) (line : List ℕ) → slice_get (lines_of text) k ≡ Some line → HasForm k line
  have-forms n insns count each k line here = at k (ap (λ (l : List (List ℕ)). slice_get l k) (sym lines) ∙ here)
    where
      in_others : (others : List (List ℕ)) (insns : List Insn) (k : ℕ) → AreLines others insns → slice_get others k ≡ Some line → (insn : Insn) × IsLine line insn
      in_others [] insns k each here = absurd (omega (arith, slice_get_within [] k line here))
      in_others (l ∷ others) [] k each here = absurd each
      in_others (l ∷ others) (i ∷ insns) zero each here =
          let same : l ≡ line = get_or_from_slice_get (l ∷ others) 0 line l here in
          (i, subst (λ (l' : List ℕ). IsLine l' i) same each.0)
      in_others (l ∷ others) (i ∷ insns) (suc k) each here = in_others others insns k each.1 here

      at : (k : ℕ) → slice_get (first ∷ others) k ≡ Some line → HasForm k line
      at zero here =
          let same : first ≡ line = get_or_from_slice_get (first ∷ others) 0 line first here in
          (n, subst (λ (l : List ℕ). IsNumber 4294967295 l n) same count)
      at (suc k) here = in_others others insns k each here

  -- the first line may be no number
  pub refused-first : ((n : ℕ) → IsNumber 4294967295 first n → ⊥) → IsRefusedListing text (BadLine 1)
  refused-first bad =
      (0, first, refl, ap (λ (l : List (List ℕ)). slice_get l 0) lines, (λ form. bad form.0 form.1), (λ k earlier below here. absurd (omega arith)))

  -- or a further line no instruction
  pub refused-line : (n good : ℕ) → IsNumber 4294967295 first n → StopsAfter others good → IsRefusedListing text (BadLine (good + 2))
  refused-line n good count stops = (
    suc good,
    stops.line,
    omega arith,
    ap (λ (l : List (List ℕ)). slice_get l (suc good)) lines ∙ stops.here,
    (λ form. stops.bad form.0 form.1),
    (λ k earlier below here. before k earlier below (ap (λ (l : List (List ℕ)). slice_get l k) (sym lines) ∙ here)),
  )
    where
      before : (k : ℕ) (earlier : List ℕ) → k < suc good → slice_get (first ∷ others) k ≡ Some earlier → HasForm k earlier
      before zero earlier below here =
          let same : first ≡ earlier = get_or_from_slice_get (first ∷ others) 0 earlier first here in
          (n, subst (λ (l : List ℕ). IsNumber 4294967295 l n) same count)
      before (suc k) earlier below here = stops.before k earlier (omega arith) here

  -- or the count is not the number of the lines
  pub refused-count : (n : ℕ) (insns : List Insn) → IsNumber 4294967295 first n → AreLines others insns → (n ≡ length insns → ⊥) → IsRefusedListing text Count
  refused-count n insns count each differs = (first, others, n, insns, lines, count, each, differs)

  -- or the instructions are no program
  pub listed : (n : ℕ) (insns : List Insn) → IsNumber 4294967295 first n → AreLines others insns → n ≡ length insns → IsListing text insns
  listed n insns count each same =
      record { first = first; others = others; lines = lines; count = subst (IsNumber 4294967295 first) same count; each = each }

  -- the same, where the first 512 were kept and there are no more
  pub listed-kept : (n : ℕ) (insns kept : List Insn) → IsNumber 4294967295 first n → AreLines others insns → n ≡ length insns → length insns ≤ 512 → kept ≡ take 512 insns → IsListing text kept
  listed-kept n insns kept count each same few first-ones =
      subst (IsListing text) (sym (first-ones ∙ take_all 512 insns few)) (listed n insns count each same)

-- a text is at most one listing
pub IsListing-one : (text : List ℕ) (p q : List Insn) → IsListing text p → IsListing text q → p ≡ q
IsListing-one text p q one other = listing-insns text one.first one.others one.lines p q one.each other

-- the first bad line has one place
bad-not_before : (text : List ℕ) (n m : ℕ) (one : IsRefusedListing text (BadLine n)) (other : IsRefusedListing text (BadLine m)) → one.0 < other.0 → ⊥
bad-not_before text n m one other below = one.4 (other.5 one.0 one.1 below one.3)

-- which is the line that the fault names
bad-one : (text : List ℕ) (n m : ℕ) → IsRefusedListing text (BadLine n) → IsRefusedListing text (BadLine m) → n ≡ m
bad-one text n m one other = ⊎_elim
    (λ (below : one.0 < other.0). absurd (bad-not_before text n m one other below))
    (⊎_elim (λ (below : other.0 < one.0). absurd (bad-not_before text m n other one below))
    (λ (same : one.0 ≡ other.0). one.2 ∙ ap (λ k. k + 1) same ∙ sym other.2))
    (order one.0 other.0)
  where
    order : (a b : ℕ) → (a < b) ⊎ ((b < a) ⊎ (a ≡ b))
    order a b = grind arith

-- a listing has no bad line
bad-not_listing : (text : List ℕ) (n : ℕ) (p : List Insn) → IsRefusedListing text (BadLine n) → IsListing text p → ⊥
bad-not_listing text n p bad listing =
    bad.4 (have-forms text listing.first listing.others listing.lines (length p) p listing.count listing.each bad.0 bad.1 bad.3)

-- where a line is bad the count is not looked at
bad-not_count : (text : List ℕ) (n : ℕ) → IsRefusedListing text (BadLine n) → IsRefusedListing text Count → ⊥
bad-not_count text n bad count =
    bad.4 (have-forms text count.0 count.1 count.4 count.2 count.3 count.5 count.6 bad.0 bad.1 bad.3)

-- the count of a listing is right
count-not_listing : (text : List ℕ) (p : List Insn) → IsRefusedListing text Count → IsListing text p → ⊥
count-not_listing text p count listing =
    let insns = listing-insns text count.0 count.1 count.4 count.3 p count.6 listing in
    let number = listing-count text count.0 count.1 count.4 count.2 p count.5 listing in
    count.7 (number ∙ ap length (sym insns))

-- a text is refused for one reason
pub IsRefusedListing-one : (text : List ℕ) (f g : ListingFault) → IsRefusedListing text f → IsRefusedListing text g → f ≡ g
IsRefusedListing-one text (BadLine n) (BadLine m) one other = ap BadLine (bad-one text n m one other)
IsRefusedListing-one text (BadLine n) Count one other = absurd (bad-not_count text n one other)
IsRefusedListing-one text (BadLine n) (Program f) one other = absurd (bad-not_listing text n other.0 one other.1)
IsRefusedListing-one text Count (BadLine m) one other = absurd (bad-not_count text m other one)
IsRefusedListing-one text Count Count one other = refl
IsRefusedListing-one text Count (Program f) one other = absurd (count-not_listing text other.0 one other.1)
IsRefusedListing-one text (Program f) (BadLine m) one other = absurd (bad-not_listing text m one.0 other one.1)
IsRefusedListing-one text (Program f) Count one other = absurd (count-not_listing text one.0 other one.1)
IsRefusedListing-one text (Program f) (Program g) one other =
    let same = IsListing-one text one.0 other.0 one.1 other.1 in
    ap Program (IsRefusedAs-one other.0 f g (subst (λ (p : List Insn). IsRefusedAs p f) same one.2) other.2)

-- and is then no listing of a program
pub IsRefusedListing-none : (text : List ℕ) (f : ListingFault) (p : List Insn) → IsRefusedListing text f → IsListing text p → IsValidProgram p → ⊥
IsRefusedListing-none text (BadLine n) p refused listing valid = bad-not_listing text n p refused listing
IsRefusedListing-none text Count p refused listing valid = count-not_listing text p refused listing
IsRefusedListing-none text (Program f) p refused listing valid =
    let same = IsListing-one text refused.0 p refused.1 listing in
    IsRefusedAs-invalid p f (subst (λ (q : List Insn). IsRefusedAs q f) same refused.2) valid

-- where reading refuses, it is for this reason alone
pub refused-listing-exactly : {A : Type 0} (text : List ℕ) (f g : ListingFault) → IsRefusedListing text f → (◌≡◌ {A = Result A ListingFault} (Err f) (Err g)) ↔ IsRefusedListing text g
refused-listing-exactly text f g refused =
    ((λ is. let same : f ≡ g = cc in subst (IsRefusedListing text) same refused), (λ other. ap (λ h. Err h) (IsRefusedListing-one text f g refused other)))

-- and where it accepts, there is none
pub accepted-listing-exactly : {A : Type 0} (text : List ℕ) (p : List Insn) (q : A) (g : ListingFault) → IsListing text p → IsValidProgram p → (◌≡◌ {A = Result A ListingFault} (Ok q) (Err g)) ↔ IsRefusedListing text g
accepted-listing-exactly text p q g listing valid =
    ((λ is. absurd cc), (λ refused. absurd (IsRefusedListing-none text g p refused listing valid)))
