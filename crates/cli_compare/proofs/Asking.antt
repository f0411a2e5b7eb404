-- The paths that are compared.
use Rattle.std.proofs.Common.{◌≡◌, ◌≢◌, ℕ, List, [], ◌∷◌, length, Option, Some, None, All, Bor, refl, subst, arith}
use Rattle.std.specs.Prelude.{MatchOption}
use Rattle.cli_files.specs.declared.paths.Opening.TheVariants.{Late}
use Rattle.cli_store.specs.Files.{IsApart, IsUnprinted, Places, Texts}
use Rattle.cli_args.specs.declared.compare.CompareWords.{CompareWords}
use Rattle.cli_compare.specs.Comparing.{AreApart, path_of, read_paths}

-- the path of OUT as a list
pub written_is : (output : Option (Bor (List ℕ))) (found : List (Bor (List ℕ))) → MatchOption output (found ≡ []) (λ path. found ≡ path ∷ []) → found ≡ path_of output
written_is None found is = is
written_is (Some path) found is = is

-- no file is lost, by the lists of paths that were compared
pub apart-of : (place : Places) (text : Texts) (printed : Option (List ℕ)) (words : CompareWords) (read written : List (Bor (List ℕ))) → read ≡ read_paths words → written ≡ path_of words.output →
    All (λ output. All (λ path. IsApart Late place text output.now path.now) read) written → All (λ path. IsUnprinted Late place text printed path.now) read →
    All (λ output. printed ≢ Some (place output.now)) written → AreApart place printed words
apart-of place text printed words read written reads writes apart unprinted unshared = record {
  unprinted = subst (λ (r : List (Bor (List ℕ))). All (λ path. printed ≢ Some (place path.now)) r) reads unprinted;
  unshared = subst (λ (d : List (Bor (List ℕ))). All (λ output. printed ≢ Some (place output.now)) d) writes unshared;
  apart = subst (λ (d : List (Bor (List ℕ))). All (λ output. All (λ path. place path.now ≢ place output.now) (read_paths words)) d) writes
      (subst (λ (r : List (Bor (List ℕ))). All (λ output. All (λ path. place path.now ≢ place output.now) r) written) reads apart);
}

-- there is no IN
pub none-there : {X : Type 0} (xs : List X) → length xs ≡ 0 → xs ≡ []
none-there [] few = refl
none-there (x ∷ xs) few = absurd (omega (arith, few))
