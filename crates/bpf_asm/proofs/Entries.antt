-- Finding in a table.
use Rattle.std.proofs.Common.{◌≡◌, ℕ, Bool, true, false, cond, List, [], ◌∷◌, Option, Some, map, refl, sym, ap, ◌∙◌}
use Rattle.std.specs.Prelude.{option_map}
use Rattle.std.specs.Borrow.{Bor}
use Rattle.std.specs.Str.{bytes_eq}
use Rattle.bpf_asm.specs.declared.token.Token.{Token}
use Rattle.bpf_asm.specs.Words.{Entry, spelled}
use Rattle.bpf_asm.specs.Answers.{first_of}

-- a table as the code has it
abbrev pub entries_of : List (Bor (List ℕ) × Token) → List Entry
entries_of table = map (λ entry. (entry.0.now, entry.1)) table

-- one entry's turn
found_test : (b : Bool) (e : Bor (List ℕ) × Token) (x : Option Entry) (y : Option (Bor (List ℕ) × Token)) → option_map (λ e. e.1) x ≡ option_map (λ e. e.1) y
    → option_map (λ e. e.1) (cond b (Some e) y) ≡ option_map (λ e. e.1) (cond b (Some (e.0.now, e.1)) x)
found_test true e x y same = refl
found_test false e x y same = sym same

-- an entry is found in the plain table exactly where it's found in the code's
found : (word : List ℕ) (table : List (Bor (List ℕ) × Token)) → first_of word table ≡ spelled (entries_of table) word
found word [] = refl
found word (e ∷ table) = found_test (bytes_eq e.0.now word) e _ _ (sym (found word table))

-- the same, where the code's table spells a plain one
pub found_in : (word : List ℕ) (table : List (Bor (List ℕ) × Token)) (plain : List Entry) (r : Option Token) → r ≡ first_of word table → entries_of table ≡ plain → r ≡ spelled plain word
found_in word table plain r is same = is ∙ found word table ∙ ap (λ t. spelled t word) same
