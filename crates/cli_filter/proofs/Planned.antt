-- The programs of lines, one after the other.
use Rattle.std.proofs.Common.{◌≡◌, ℕ, suc, ◌+◌, ◌<◌, List, [], ◌∷◌, ◌++◌, get_or, length, take, refl, ap, subst, sym}
use Rattle.std.specs.List.{AllZip}
use Rattle.std.proofs.lemmas.List.{take_more}
use Rattle.std.proofs.lemmas.Option.{slice_get-get_or}
use Rattle.bpfvm.specs.declared.insn.Insn.{Insn}
use Rattle.filtergen.specs.declared.expression.ExpressionFault.{ExpressionFault}
use Rattle.filtergen.specs.Expressions.{IsProgramOf, IsUncompiled}
use Rattle.cli_filter.specs.Plan.{IsCompiled, IsFirstUncompiled}

pub zip-push : {A B : Type 0} (R : A → B → Type 0) (xs : List A) (ys : List B) (x : A) (y : B) → AllZip R xs ys → R x y → AllZip R (xs ++ x ∷ []) (ys ++ y ∷ [])
zip-push R [] [] x y each is = (is, tt)
zip-push R [] (w ∷ ys) x y each is = absurd each
zip-push R (v ∷ xs) [] x y each is = absurd each
zip-push R (v ∷ xs) (w ∷ ys) x y each is = (each.0, zip-push R xs ys x y each.1 is)

pub zip-length : {A B : Type 0} (R : A → B → Type 0) (xs : List A) (ys : List B) → AllZip R xs ys → length xs ≡ length ys
zip-length R [] [] each = refl
zip-length R [] (y ∷ ys) each = absurd each
zip-length R (x ∷ xs) [] each = absurd each
zip-length R (x ∷ xs) (y ∷ ys) each = ap suc (zip-length R xs ys each.1)

-- one more item beside its own
pub zip_more : {A B : Type 0} (R : A → B → Type 0) (xs : List A) (ys : List B) (i : ℕ) (d : A) (y : B) → i < length xs → AllZip R (take i xs) ys → R (get_or xs i d) y →
    AllZip R (take (i + 1) xs) (ys ++ y ∷ [])
zip_more {A} {B} R xs ys i d y inside each one =
    subst (λ (t : List A). AllZip R t (ys ++ y ∷ [])) (sym (take_more xs i d inside)) (zip-push R (take i xs) ys (get_or xs i d) y each one)

-- the first expression that has no program
pub first_uncompiled : {X : Type 0} (expression : X → List ℕ) (snap : X → ℕ) (lines : List X) (n : ℕ) (d : X) (why : ExpressionFault) (programs : List (List Insn)) → n < length lines
    → AllZip (IsCompiled expression snap) (take n lines) programs → IsUncompiled (expression (get_or lines n d)) (snap (get_or lines n d)) why → IsFirstUncompiled expression snap lines n why
first_uncompiled expression snap lines n d why programs inside earlier applies = record {
  asked = get_or lines n d;
  at = slice_get-get_or lines n d inside;
  applies = applies;
  programs = programs;
  earlier = earlier;
}

-- what a program stands for is the line's
pub compiled : {X : Type 0} (expression : X → List ℕ) (snap : X → ℕ) (asked : X) (text : List ℕ) (n : ℕ) (program : List Insn) → text ≡ expression asked → n ≡ snap asked → IsProgramOf text n program
    → IsCompiled expression snap asked program
compiled expression snap asked text n program same-text same-n is =
    subst (λ (t : List ℕ). IsProgramOf t (snap asked) program) same-text (subst (λ (m : ℕ). IsProgramOf text m program) same-n is)
