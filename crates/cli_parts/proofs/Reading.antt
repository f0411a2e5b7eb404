-- The fields of the line of a part, read back from their texts.
use Rattle.std.proofs.Common.{◌≡◌, ◌≢◌, ℕ, ◌<◌, ◌^◌, List, [], ◌∷◌, ◌++◌, All, true, Option, Some, None, codes, refl, sym, ap, subst, ◌∙◌, inl, inr, arith, append_assoc}
use Rattle.std.proofs.lemmas.Fmt.{decimal_is_IsNumeral}
use Rattle.std.proofs.lemmas.List.Elements.{All-nil, All-cons}
use Rattle.std.proofs.lemmas.List.Sums.{AllPass-from_list_all}
use Rattle.std.proofs.lemmas.Str.Parse.{digit_at}
use Rattle.std.specs.List.{list_all}
use Rattle.std.specs.Prelude.{nat_lt, ◌⊎◌}
use Rattle.std.specs.Fmt.{decimal}
use Rattle.std.specs.Str.Parse.{AllDigits, digits_value}
use Rattle.bpfvm.specs.Listing.{space, IsNumber}
use Rattle.line_text.proofs.Cuts.{cut-one, not-lacking}
use Rattle.savefile.specs.declared.fault.Fault.{Fault}
use Rattle.savefile.specs.declared.fault.Fault.TheVariants.{ShortHeader, NotSavefile, Version, LinkType, TornRecord, BadFraction, TooLong, NoMemory, Device, Failed, CountFull}
use Rattle.savefile.specs.Faults.{fault_name, fault_place, fault_text}
use Rattle.pcap_parts.specs.declared.part.PartCut.{PartCut}
use Rattle.cli_parts.specs.Lines.{IsPartEnd, end_text, part_text, range_text}

-- no digit is a byte below them
no-digit : (byte : ℕ) → byte < 48 → (ds : List ℕ) → AllDigits 10 ds → All (λ b. b ≢ byte) ds
no-digit byte low [] all = All-nil (λ b. b ≢ byte)
no-digit byte low (d ∷ ds) all =
    let range = digit_at (d ∷ ds) 0 all (omega arith) in
    All-cons (λ b. b ≢ byte) d ds (λ same. omega arith) (no-digit byte low ds all.1)

pub decimal-lacks : (byte n : ℕ) → byte < 48 → n < 2 ^ 64 → All (λ b. b ≢ byte) (decimal n)
decimal-lacks byte n low small = no-digit byte low (decimal n) (decimal_is_IsNumeral n small).0.1

-- a text without such a byte has none
pub lacks-cut : (byte : ℕ) (text xs ys : List ℕ) → text ≡ xs ++ byte ∷ ys → All (λ b. b ≢ byte) text → ⊥
lacks-cut byte text xs ys is none = not-lacking byte xs ys (subst (λ (t : List ℕ). All (λ b. b ≢ byte) t) is none)

-- a text that begins with a number is cut behind it
pub cut-decimal : (byte n : ℕ) (text a b rest : List ℕ) → byte < 48 → n < 2 ^ 64 → text ≡ a ++ byte ∷ b → All (λ c. c ≢ byte) a
    → text ≡ decimal n ++ byte ∷ rest → (a ≡ decimal n) × (b ≡ rest)
cut-decimal byte n text a b rest low small cut first is = cut-one byte a b (decimal n) rest first (decimal-lacks byte n low small) (sym cut ∙ is)

-- the number that is read is the one that was written
pub number-is : (n m : ℕ) (a : List ℕ) → n < 2 ^ 64 → a ≡ decimal n → IsNumber 18446744073709551615 a m → m ≡ n
number-is n m a small same is = is.is ∙ ap (digits_value 10) same ∙ (decimal_is_IsNumeral n small).1

-- and one is read
pub number-read : (n : ℕ) (a : List ℕ) → n < 2 ^ 64 → a ≡ decimal n → ((m : ℕ) → IsNumber 18446744073709551615 a m → ⊥) → ⊥
number-read n a small same none =
    let d = decimal_is_IsNumeral n small in
    let number : IsNumber 18446744073709551615 (decimal n) n = record { numeral = d.0; is = sym d.1; fits = omega arith } in
    none n (subst (λ (t : List ℕ). IsNumber 18446744073709551615 t n) (sym same) number)

-- a word whose bytes lie above the space
pub word-of : (bs : List ℕ) → list_all (nat_lt 32) bs ≡ true → All (λ b. b ≢ 32) bs
word-of bs all = λ k d lt same.
    let above : nat_lt 32 32 ≡ true = subst (λ (b : ℕ). nat_lt 32 b ≡ true) same (AllPass-from_list_all (nat_lt 32) bs all k d lt) in
    absurd cc

-- a range, cut at its dash
pub range-cut : (first end : ℕ) (rest : List ℕ) → range_text first end ++ 32 ∷ rest ≡ decimal first ++ 45 ∷ (decimal end ++ 32 ∷ rest)
unfolding range_text
range-cut first end rest =
    append_assoc (decimal first ++ codes "-") (decimal end) (32 ∷ rest) ∙ append_assoc (decimal first) (codes "-") (decimal end ++ 32 ∷ rest)

-- what a line has after the number of bytes and a space
abbrev pub behind_sent : Option Fault → List ℕ → List ℕ
behind_sent None file = codes "Clean " ++ file
behind_sent (Some fault) file = (fault_text fault ++ codes " ") ++ file

pub end_text-behind : (fault : Option Fault) (file : List ℕ) → end_text fault ++ file ≡ space ∷ behind_sent fault file
end_text-behind None file = refl
end_text-behind (Some fault) file = refl

pub end-cut : (fault : Option Fault) (text file : List ℕ) → space ∷ text ≡ end_text fault ++ file → text ≡ behind_sent fault file
end-cut fault text file is =
    let same : space ∷ text ≡ space ∷ behind_sent fault file = is ∙ end_text-behind fault file in
    cc

-- a torn or bad record, by its name and its place
pub record IsNamed (fault : Fault) (file : List ℕ) : Type 0 where
  pub place : ℕ
  pub at : fault_place fault ≡ Some place
  pub small : place < 2 ^ 64
  pub word : All (λ b. b ≢ 32) (fault_name fault)
  pub text : behind_sent (Some fault) file ≡ fault_name fault ++ 32 ∷ (decimal place ++ 32 ∷ file)
  pub dirty : fault_name fault ≢ codes "Clean"

first-of : List ℕ → ℕ
first-of [] = 0
first-of (b ∷ bs) = b

pub named-of : (fault : Fault) (file : List ℕ) → IsPartEnd (Some fault) → IsNamed fault file
unfolding first-of
named-of (TornRecord place) file end = record {
  place = place;
  at = refl;
  small = end;
  word = word-of (codes "TornRecord") refl;
  text = ap (λ (t : List ℕ). codes "TornRecord " ++ t) (append_assoc (decimal place) (32 ∷ []) file);
  dirty = λ same. let e : 84 ≡ 67 = ap first-of same in omega (arith, e);
}
named-of (BadFraction place) file end = record {
  place = place;
  at = refl;
  small = end;
  word = word-of (codes "BadFraction") refl;
  text = ap (λ (t : List ℕ). codes "BadFraction " ++ t) (append_assoc (decimal place) (32 ∷ []) file);
  dirty = λ same. let e : 66 ≡ 67 = ap first-of same in omega (arith, e);
}
named-of (TooLong place) file end = record {
  place = place;
  at = refl;
  small = end;
  word = word-of (codes "TooLong") refl;
  text = ap (λ (t : List ℕ). codes "TooLong " ++ t) (append_assoc (decimal place) (32 ∷ []) file);
  dirty = λ same. let e : 84 ≡ 67 = ap first-of same in omega (arith, e);
}
named-of ShortHeader file end = absurd end
named-of NotSavefile file end = absurd end
named-of Version file end = absurd end
named-of LinkType file end = absurd end
named-of NoMemory file end = absurd end
named-of Device file end = absurd end
named-of Failed file end = absurd end
named-of CountFull file end = absurd end

pub fault_cases : (fault : Fault) (place : ℕ) → IsPartEnd (Some fault) → fault_place fault ≡ Some place
    → (fault ≡ TornRecord place) ⊎ (fault ≡ BadFraction place) ⊎ (fault ≡ TooLong place)
fault_cases (TornRecord p) place end at = inl cc
fault_cases (BadFraction p) place end at = inr (inl cc)
fault_cases (TooLong p) place end at = inr (inr cc)
fault_cases ShortHeader place end at = absurd end
fault_cases NotSavefile place end at = absurd end
fault_cases Version place end at = absurd end
fault_cases LinkType place end at = absurd end
fault_cases NoMemory place end at = absurd end
fault_cases Device place end at = absurd end
fault_cases Failed place end at = absurd end
fault_cases CountFull place end at = absurd end

-- how a part ends, by the word before the next space and what follows that
abbrev pub EndIs : Option Fault → (file name rest : List ℕ) → Type 0
EndIs None file name rest = (name ≡ codes "Clean") × (rest ≡ file)
EndIs (Some fault) file name rest =
    IsPartEnd (Some fault) × ((place : ℕ) × (fault_place fault ≡ Some place) × (place < 2 ^ 64) × (name ≡ fault_name fault) × (rest ≡ decimal place ++ 32 ∷ file) × (name ≢ codes "Clean"))

pub end-is : (fault : Option Fault) (text file name rest : List ℕ) → IsPartEnd fault → space ∷ text ≡ end_text fault ++ file
    → text ≡ name ++ 32 ∷ rest → All (λ b. b ≢ 32) name → EndIs fault file name rest
end-is None text file name rest end is cut first =
    cut-one 32 name rest (codes "Clean") file first (word-of (codes "Clean") refl) (sym cut ∙ end-cut None text file is)
end-is (Some fault) text file name rest end is cut first =
    let named = named-of fault file end in
    let one = cut-one 32 name rest (fault_name fault) (decimal named.place ++ 32 ∷ file) first named.word (sym cut ∙ end-cut (Some fault) text file is ∙ named.text) in
    (end, (named.place, named.at, named.small, one.0, one.1, λ same. named.dirty (sym one.0 ∙ same)))

-- there is such a space
pub end-there : (fault : Option Fault) (text file : List ℕ) → IsPartEnd fault → space ∷ text ≡ end_text fault ++ file → All (λ b. b ≢ 32) text → ⊥
end-there None text file end is lacks = lacks-cut 32 text (codes "Clean") file (end-cut None text file is) lacks
end-there (Some fault) text file end is lacks =
    let named = named-of fault file end in
    lacks-cut 32 text (fault_name fault) (decimal named.place ++ 32 ∷ file) (end-cut (Some fault) text file is ∙ named.text) lacks

pub end-clean : (fault : Option Fault) (file name rest : List ℕ) → EndIs fault file name rest → name ≡ codes "Clean" → (None ≡ fault) × (rest ≡ file)
end-clean None file name rest end clean = (refl, end.1)
end-clean (Some fault) file name rest end clean = absurd (end.1.5 clean)

-- the end is that of a torn or bad record
pub record IsFaulty (fault : Option Fault) (file name rest : List ℕ) : Type 0 where
  pub of : Fault
  pub is : fault ≡ Some of
  pub end : IsPartEnd (Some of)
  pub place : ℕ
  pub at : fault_place of ≡ Some place
  pub small : place < 2 ^ 64
  pub named : name ≡ fault_name of
  pub tail : rest ≡ decimal place ++ 32 ∷ file

pub end-faulty : (fault : Option Fault) (file name rest : List ℕ) → EndIs fault file name rest → name ≢ codes "Clean" → IsFaulty fault file name rest
end-faulty None file name rest end dirty = absurd (dirty end.0)
end-faulty (Some fault) file name rest end dirty =
    let (place, at, small, named, is, other) = end.1 in
    record { of = fault; is = refl; end = end.0; place = place; at = at; small = small; named = named; tail = is }

-- a line, a field after the other
abbrev pub behind_written : PartCut → List ℕ
behind_written p = codes "bytes" ++ space ∷ (decimal p.sent ++ space ∷ behind_sent p.fault p.file.now)

abbrev pub behind_read : PartCut → List ℕ
behind_read p = codes "kept" ++ space ∷ (decimal p.tally.written ++ space ∷ behind_written p)

abbrev pub behind_size : PartCut → List ℕ
behind_size p = codes "packets" ++ space ∷ (decimal p.tally.read ++ space ∷ behind_read p)

abbrev pub behind_range : PartCut → List ℕ
behind_range p = codes "of" ++ space ∷ (decimal p.size ++ space ∷ behind_size p)

four : (a b c d t : List ℕ) → (a ++ b ++ c ++ d) ++ t ≡ a ++ (b ++ (c ++ (d ++ t)))
four a b c d t = append_assoc (a ++ b ++ c) d t ∙ append_assoc (a ++ b) c (d ++ t) ∙ append_assoc a b (c ++ (d ++ t))

pub part_text-fields : (p : PartCut) → part_text p ≡ range_text p.first p.end ++ space ∷ behind_range p
unfolding part_text
part_text-fields p =
    let range = range_text p.first p.end in
    let size = decimal p.size in
    let read = decimal p.tally.read in
    let written = decimal p.tally.written in
    let sent = decimal p.sent in
    let counts = codes " of " ++ size ++ codes " packets " ++ read in
    let kept = codes " kept " ++ written ++ codes " bytes " ++ sent in
    let tail = end_text p.fault ++ p.file.now in
    four range counts kept (end_text p.fault) p.file.now
    ∙ ap (λ (t : List ℕ). range ++ t) (four (codes " of ") size (codes " packets ") read (kept ++ tail))
    ∙ ap (λ (t : List ℕ). range ++ (codes " of " ++ (size ++ (codes " packets " ++ (read ++ t))))) (four (codes " kept ") written (codes " bytes ") sent tail)
    ∙ ap (λ (t : List ℕ). range ++ (codes " of " ++ (size ++ (codes " packets " ++ (read ++ (codes " kept " ++ (written ++ (codes " bytes " ++ (sent ++ t)))))))))
    (end_text-behind p.fault p.file.now)

-- parts with the same fields have one line
pub part_text-same : (p q : PartCut) → p.first ≡ q.first → p.end ≡ q.end → p.size ≡ q.size → p.tally.read ≡ q.tally.read → p.tally.written ≡ q.tally.written
    → p.sent ≡ q.sent → p.fault ≡ q.fault → p.file.now ≡ q.file.now → part_text p ≡ part_text q
unfolding part_text
part_text-same p q first end size read written sent fault file = rw (first, end, size, read, written, sent, fault, file) refl

-- what each field of a part's line leaves behind it
pub record Leaves (p : PartCut) (text : List ℕ) : Type 0 where
  pub line : text ≡ range_text p.first p.end ++ space ∷ behind_range p
  pub size : behind_range p ≡ codes "of" ++ space ∷ (decimal p.size ++ space ∷ behind_size p)
  pub read : behind_size p ≡ codes "packets" ++ space ∷ (decimal p.tally.read ++ space ∷ behind_read p)
  pub written : behind_read p ≡ codes "kept" ++ space ∷ (decimal p.tally.written ++ space ∷ behind_written p)
  pub sent : behind_written p ≡ codes "bytes" ++ space ∷ (decimal p.sent ++ space ∷ behind_sent p.fault p.file.now)
  pub end : space ∷ behind_sent p.fault p.file.now ≡ end_text p.fault ++ p.file.now
  pub of : All (λ b. b ≢ 32) (codes "of")
  pub packets : All (λ b. b ≢ 32) (codes "packets")
  pub kept : All (λ b. b ≢ 32) (codes "kept")
  pub bytes : All (λ b. b ≢ 32) (codes "bytes")

pub leaves : (p : PartCut) (line : List ℕ) → line ≡ part_text p → Leaves p line
leaves p line is = record {
  line = is ∙ part_text-fields p;
  size = refl;
  read = refl;
  written = refl;
  sent = refl;
  end = sym (end_text-behind p.fault p.file.now);
  of = word-of (codes "of") refl;
  packets = word-of (codes "packets") refl;
  kept = word-of (codes "kept") refl;
  bytes = word-of (codes "bytes") refl;
}

-- a word under another name
pub with_word : (word like : List ℕ) → like ≡ word → All (λ b. b ≢ 32) word → All (λ b. b ≢ 32) like
with_word word like same is = subst (λ (w : List ℕ). All (λ b. b ≢ 32) w) (sym same) is

pub at_word : (word like text rest : List ℕ) → like ≡ word → text ≡ word ++ rest → text ≡ like ++ rest
at_word word like text rest same is = is ∙ ap (λ (w : List ℕ). w ++ rest) (sym same)
