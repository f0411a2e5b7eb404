-- What is kept of LISTENERS, line by line.
use Rattle.std.proofs.Common.{◌≡◌, ℕ, ◌<◌, ◌≤◌, List, [], ◌∷◌, ◌++◌, length, take, sym, ap, ◌∙◌, arith, length-append, length-take, take_all}
use Rattle.std.proofs.lemmas.List.{take-append-le}

-- where fewer than n were kept, so is the next one
pub take-next : {X : Type 0} (n : ℕ) (xs : List X) (x : X) → length (take n xs) < n → take n (xs ++ x ∷ []) ≡ take n xs ++ x ∷ []
take-next n xs x few =
    let short : length xs < n = omega (arith, few, length-take n xs) in
    take_all n (xs ++ x ∷ []) (omega (arith, short, length-append xs (x ∷ [])))
    ∙ ap (λ (ys : List _). ys ++ x ∷ []) (sym (take_all n xs (omega (arith, short))))

-- and where n were, it is not
pub take-none : {X : Type 0} (n : ℕ) (xs : List X) (x : X) → n ≤ length (take n xs) → take n (xs ++ x ∷ []) ≡ take n xs
take-none n xs x many = take-append-le n xs (x ∷ []) (omega (arith, many, length-take n xs))
