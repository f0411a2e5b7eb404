-- The end of a comment.
use Rattle.std.proofs.Common.{◌≡◌, ℕ, ◌+◌, ◌<◌, ◌≤◌, Bool, true, false, List, ◌∷◌, Option, Some, None, length, drop, get_or, refl, sym, ap, ◌∙◌, arith, nat_eq, if◌then◌else◌}
use Rattle.std.specs.Prelude.{option_map, codes}
use Rattle.std.specs.List.{starts_with}
use Rattle.std.proofs.lemmas.List.{at_drop_more, at_drop_all}
use Rattle.bpf_asm.specs.Tokens.{past_close}

-- this many more bytes
abbrev pub further : ℕ → Option ℕ → Option ℕ
further n found = option_map (λ m. m + n) found

-- the end of the comment is further on where it is not here
one_on : (n : ℕ) (found : Option ℕ) → further n (option_map (λ m. m + 1) found) ≡ further (n + 1) found
one_on n None = refl
one_on n (Some m) = ap Some (omega arith)

-- at a byte that is there
close_test : (b : Bool) (n : ℕ) (bs : List ℕ) → b ≡ false → further n (if b then Some 2 else option_map (λ m. m + 1) (past_close bs)) ≡ further (n + 1) (past_close bs)
close_test true n bs lacks = absurd cc
close_test false n bs lacks = one_on n (past_close bs)

-- the comment does not end at this place
pub close_later : (text : List ℕ) (i : ℕ) → i < length text → starts_with nat_eq (drop i text) (codes "*/") ≡ false → past_close text ≡ further i (past_close (drop i text)) → past_close text ≡ further (i + 1) (past_close (drop (i + 1) text))
close_later text i inside lacks so_far =
    let cut = at_drop_more (λ (xs : List ℕ). starts_with nat_eq xs (codes "*/")) text i 0 inside in
    so_far ∙ ap (further i) (at_drop_more past_close text i 0 inside) ∙ close_test (starts_with nat_eq (get_or text i 0 ∷ drop (i + 1) text) (codes "*/")) i (drop (i + 1) text) (sym cut ∙ lacks)

close_found : (b : Bool) (n : ℕ) (bs : List ℕ) → b ≡ true → Some (n + 2) ≡ further n (if b then Some 2 else option_map (λ m. m + 1) (past_close bs))
close_found true n bs holds = ap Some (omega arith)
close_found false n bs holds = absurd cc

-- or it does
pub close_here : (text : List ℕ) (i : ℕ) → i < length text → starts_with nat_eq (drop i text) (codes "*/") ≡ true → past_close text ≡ further i (past_close (drop i text)) → Some (i + 2) ≡ past_close text
close_here text i inside holds so_far =
    let cut = at_drop_more (λ (xs : List ℕ). starts_with nat_eq xs (codes "*/")) text i 0 inside in
    close_found (starts_with nat_eq (get_or text i 0 ∷ drop (i + 1) text) (codes "*/")) i (drop (i + 1) text) (sym cut ∙ holds)
    ∙ sym (so_far ∙ ap (further i) (at_drop_more past_close text i 0 inside))

-- at the end there is none
pub close_none : (text : List ℕ) (i : ℕ) → length text ≤ i → past_close text ≡ further i (past_close (drop i text)) → None ≡ past_close text
close_none text i over so_far = sym (so_far ∙ ap (further i) (at_drop_all past_close text i over))

-- before the first byte nothing is passed
pub close_begin : (found : Option ℕ) → found ≡ further 0 found
close_begin None = refl
close_begin (Some n) = ap Some (omega arith)
