-- Finding in a table.
use Rattle.std.proofs.Common.{◌≡◌, ℕ, Bool, true, false, cond, List, [], ◌∷◌, Option, Some, length, refl, sym, ap, ◌∙◌}
use Rattle.std.specs.Prelude.{option_map}
use Rattle.std.specs.Borrow.{Bor}
use Rattle.std.specs.List.{find}
use Rattle.filterlang.specs.declared.token.Kind.{Kind}
use Rattle.filterlang.specs.Words.{Entry, token_of}
use Rattle.filterlang.specs.Finding.{entries_of, first_of}

-- one entry's turn
found_test : (b : Bool) (e : Bor (List ℕ) × Kind) (x : Option Entry) (y : Option (Bor (List ℕ) × Kind)) → option_map token_of x ≡ option_map (λ e. (e.1, length e.0.now)) y
    → option_map (λ e. (e.1, length e.0.now)) (cond b (Some e) y) ≡ option_map token_of (cond b (Some (e.0.now, e.1)) x)
found_test true e x y same = refl
found_test false e x y same = sym same

-- an entry is found in the plain table exactly where it's found in the code's
found : (p : List ℕ → Bool) (table : List (Bor (List ℕ) × Kind)) → first_of p table ≡ option_map token_of (find (λ e. p e.0) (entries_of table))
found p [] = refl
found p (e ∷ table) = found_test (p e.0.now) e _ _ (sym (found p table))

-- the same, where the code's table spells a plain one
pub found_in : (p : List ℕ → Bool) (table : List (Bor (List ℕ) × Kind)) (plain : List Entry) (r : Option (Kind × ℕ)) → r ≡ first_of p table → entries_of table ≡ plain → r ≡ option_map token_of (find (λ e. p e.0) plain)
found_in p table plain r is same = is ∙ found p table ∙ ap (λ t. option_map token_of (find (λ e. p e.0) t)) same
