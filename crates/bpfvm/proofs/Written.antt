-- What is written of a program is a listing of it.
use Rattle.std.proofs.Common.{◌≡◌, ◌≢◌, ℕ, get_or, ◌+◌, ◌<◌, ◌≤◌, ◌^◌, List, [], ◌∷◌, ◌++◌, length, map, take, All, refl, sym, ap, subst, ◌∙◌, arith, append_assoc}
use Rattle.std.specs.List.{AllByRecursion, flat_map}
use Rattle.std.specs.Fmt.{decimal}
use Rattle.std.proofs.lemmas.Fmt.{decimal_is_IsNumeral}
use Rattle.std.proofs.lemmas.Grind.{flat_map-append}
use Rattle.std.proofs.lemmas.List.{append-nil, take_more}
use Rattle.std.proofs.lemmas.Str.Parse.{digit_at}
use Rattle.std.proofs.lemmas.List.Elements.{All-append, All-cons, All-from_get_or}
use Rattle.bpfvm.specs.declared.insn.Insn.{Insn}
use Rattle.bpfvm.specs.Laws.{HasFields}
use Rattle.bpfvm.specs.Validity.{IsValidProgram}
use Rattle.bpfvm.specs.Listing.{space, line_feed, IsNumber, IsLine, AreLines, IsListing, further_lines, line_text, listing_of}
use Rattle.bpfvm.proofs.Lines.{further_lines-cut, lines_of-cut}

-- a line without its end
abbrev line_of : Insn → List ℕ
line_of i = decimal i.code ++ space ∷ decimal i.jt ++ space ∷ decimal i.jf ++ space ∷ decimal i.k

-- a number in decimal is read as itself
written-number : (most n : ℕ) → n ≤ most → most < 2 ^ 64 → IsNumber most (decimal n) n
written-number most n fits small =
    let numeral = decimal_is_IsNumeral n (omega arith) in
    record { numeral = numeral.0; is = sym numeral.1; fits = fits }

-- a line is read as its instruction
written-line : (i : Insn) → HasFields i → IsLine (line_of i) i
written-line i fields = record {
  code = decimal i.code;
  jt = decimal i.jt;
  jf = decimal i.jf;
  k = decimal i.k;
  text = refl;
  code_is = written-number 65535 i.code (omega (arith, fields.code)) (omega arith);
  jt_is = written-number 255 i.jt (omega (arith, fields.jt)) (omega arith);
  jf_is = written-number 255 i.jf (omega (arith, fields.jf)) (omega arith);
  k_is = written-number 4294967295 i.k (omega (arith, fields.k)) (omega arith);
}

-- one instruction more has its fields too
fields-push : (insns : List Insn) (i : Insn) → AllByRecursion HasFields insns → HasFields i → AllByRecursion HasFields (insns ++ i ∷ [])
fields-push [] i all one = (one, tt)
fields-push (j ∷ insns) i all one = (all.0, fields-push insns i all.1 one)

pub fields-more : (insns : List Insn) (n : ℕ) (d : Insn) → n < length insns → AllByRecursion HasFields (take n insns) → HasFields (get_or insns n d) → AllByRecursion HasFields (take (n + 1) insns)
fields-more insns n d inside all one =
    subst (AllByRecursion HasFields) (sym (take_more insns n d inside)) (fields-push (take n insns) (get_or insns n d) all one)

-- and one line more
pub text-more : (text text' front : List ℕ) (insns : List Insn) (n : ℕ) (d : Insn) → n < length insns → text ≡ front ++ line_feed ∷ flat_map line_text (take n insns)
    → text' ≡ text ++ line_text (get_or insns n d) → text' ≡ front ++ line_feed ∷ flat_map line_text (take (n + 1) insns)
text-more text text' front insns n d inside before after =
    let line = line_text (get_or insns n d) in
    let lines = flat_map line_text (take n insns) in
    let more : flat_map line_text (take (n + 1) insns) ≡ lines ++ line =
    ap (flat_map line_text) (take_more insns n d inside) ∙ flat_map-append line_text (take n insns) (get_or insns n d ∷ []) ∙ ap (λ (t : List ℕ). lines ++ t) (append-nil line) in
    after ∙ ap (λ (t : List ℕ). t ++ line) before ∙ append_assoc front (line_feed ∷ lines) line ∙ ap (λ (t : List ℕ). front ++ line_feed ∷ t) (sym more)

-- the lines are read as their instructions
written-lines : (insns : List Insn) → AllByRecursion HasFields insns → AreLines (map line_of insns) insns
written-lines [] fields = tt
written-lines (i ∷ insns) fields = (written-line i fields.0, written-lines insns fields.1)

-- digits have no line feed
decimal-one_line : (n : ℕ) → n < 2 ^ 64 → All (λ b. b ≢ line_feed) (decimal n)
decimal-one_line n small =
    let numeral = (decimal_is_IsNumeral n small).0 in
    All-from_get_or (λ b. b ≢ line_feed) (decimal n) 0 (λ k inside. let digit = digit_at (decimal n) k numeral.1 inside in omega arith)

-- nor has what follows a space
space-one_line : (xs : List ℕ) → All (λ b. b ≢ line_feed) xs → All (λ b. b ≢ line_feed) (space ∷ xs)
space-one_line xs none = All-cons (λ b. b ≢ line_feed) space xs (omega arith) none

-- a line has none either
line-one_line : (i : Insn) → HasFields i → All (λ b. b ≢ line_feed) (line_of i)
line-one_line i fields =
    let P : ℕ → Type 0 = λ b. b ≢ line_feed in
    All-append P _ _ (All-append P _ _ (All-append P _ _
    (decimal-one_line i.code (omega (arith, fields.code)))
    (space-one_line _ (decimal-one_line i.jt (omega (arith, fields.jt)))))
    (space-one_line _ (decimal-one_line i.jf (omega (arith, fields.jf)))))
    (space-one_line _ (decimal-one_line i.k (omega (arith, fields.k))))

-- the text of the instructions is cut into their lines
cut-lines : (insns : List Insn) → AllByRecursion HasFields insns → further_lines (flat_map line_text insns) ≡ map line_of insns
cut-lines [] fields = refl
cut-lines (i ∷ insns) fields =
    ap further_lines (append_assoc (line_of i) (line_feed ∷ []) (flat_map line_text insns))
    ∙ further_lines-cut (line_of i) (flat_map line_text insns) (line-one_line i fields.0)
    ∙ ap (λ (lines : List (List ℕ)). line_of i ∷ lines) (cut-lines insns fields.1)

-- the listing of a program is read as the program
pub written-listing : (program : List Insn) → IsValidProgram program → AllByRecursion HasFields program → IsListing (listing_of program) program
unfolding listing_of
written-listing program valid fields = record {
  first = decimal (length program);
  others = map line_of program;
  lines = lines_of-cut (decimal (length program)) (flat_map line_text program) (decimal-one_line (length program) (omega (arith, valid.most)))
      ∙ ap (λ (lines : List (List ℕ)). decimal (length program) ∷ lines) (cut-lines program fields);
  count = written-number 4294967295 (length program) (omega (arith, valid.most)) (omega arith);
  each = written-lines program fields;
}
