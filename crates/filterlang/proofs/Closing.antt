-- What is answered where a value was read and its `)` is gone past, and where a step of a reading failed.
use Rattle.std.proofs.Common.{◌≡◌, List, Option, Some, None, Result, Ok, Err, true, refl, ap, ◌∙◌, ◌⊎◌, inl, inr, ⊎_elim}
use Rattle.std.specs.Prelude.{option_map}
use Rattle.std.specs.Result.{IsErr, IsErrAnd}
use Rattle.std.proofs.lemmas.Result.{err_from_is_err_and}
use Rattle.filterlang.specs.declared.fault.Fault.{Fault}
use Rattle.filterlang.specs.declared.fault.Fault.TheVariants.{NoMemory}
use Rattle.filterlang.specs.declared.token.Kind.{Kind}
use Rattle.filterlang.specs.Texts.{is_misreading}
use Rattle.filterlang.specs.Readers.{◌>>=◌, Gives}

-- what was read, as it is seen
abbrev viewed : {T U Q : Type 0} → (T → U) → Q → T × List Kind → U × Q × List Kind
viewed view q x = (view x.0, q, x.1)

-- the value is answered as it was read
pub closed_gives : {T U Q : Type 0} (view : T → U) (result : Result T Fault) (t : T) (q : Q) (rest : List Kind) (o : Option (Unit {0} × List Kind)) → Gives {Y = T × List Kind} (λ r. (r, rest)) result (option_map (λ behind. (t, behind.1)) o) → Gives {Y = U × Q × List Kind} (λ r. (view r, q, rest)) result (o >>= λ behind. Some (view t, q, behind.1))
closed_gives view (Ok r) t q rest None given = absurd cc
closed_gives {T} view (Ok r) t q rest (Some behind) given = ap (λ (o : Option (T × List Kind)). option_map (viewed view q) o) given
closed_gives view (Err e) t q rest None given = ⊎_elim (λ memory. inl memory) (λ none. inr (none.0, refl)) given
closed_gives view (Err e) t q rest (Some behind) given = ⊎_elim (λ memory. inl memory) (λ none. let clash = none.1 in absurd cc) given

-- so is a group, after which its phrase can be inherited
pub group_gives : {T U P Q : Type 0} (view : T → U) (result : Result T Fault) (t : T) (p : P) (q : Q) (rest : List Kind) (o : Option (Unit {0} × List Kind)) (group : Option (U × P × List Kind)) → Gives {Y = T × List Kind} (λ r. (r, rest)) result (option_map (λ behind. (t, behind.1)) o) → group ≡ (o >>= λ behind. Some (view t, p, behind.1)) → Gives {Y = U × Q × List Kind} (λ r. (view r, q, rest)) result (group >>= λ u. Some (u.0, q, u.2))
group_gives view result t p q rest None group given same = rw same (closed_gives view result t q rest None given)
group_gives view result t p q rest (Some behind) group given same = rw same (closed_gives view result t q rest (Some behind) given)

-- a step that failed fails what goes on from it
pub fails : {X Y A : Type 0} (view : X → Y) (result : Result X Fault) (e : Fault) (o : Option A) (on : A → Option Y) → IsErr result × IsErrAnd result (λ f. f ≡ e) → (e ≡ NoMemory) ⊎ ((is_misreading e ≡ true) × (o ≡ None)) → Gives view result (o >>= on)
fails {X} view (Ok x) e o on failed given =
    let is = err_from_is_err_and {T = X} {E = Fault} {Q = λ f. f ≡ e} (Ok x) failed.1 in
    let clash : ◌≡◌ {A = Result X Fault} (Ok x) (Err is.0) = is.1 in absurd cc
fails {X} view (Err f) e o on failed given =
    let is = err_from_is_err_and {T = X} {E = Fault} {Q = λ f. f ≡ e} (Err f) failed.1 in
    let told : ◌≡◌ {A = Result X Fault} (Err f) (Err is.0) = is.1 in
    let was : is.0 ≡ e = is.2 in
    let same : f ≡ e = cc in
    ⊎_elim (λ memory. inl (same ∙ memory)) (λ none. inr (rw same none.0, rw none.1 refl)) given
