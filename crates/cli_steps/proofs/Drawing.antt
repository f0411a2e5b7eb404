-- Bytes that are sent piece by piece, and the file that has them.
use Rattle.std.proofs.Common.{◌≡◌, ◌≢◌, ℕ, ◌+◌, ◌-◌, ◌%◌, ◌^◌, ◌≤◌, true, List, [], ◌++◌, Option, Some, None, IfSome, Result, Ok, Err, is_err, length, take, drop, refl, sym, subst, ◌∙◌, ap, arith, append_assoc, take_all, take-append-drop}
use Rattle.std.proofs.lemmas.List.{length-drop}
use Rattle.std.specs.Prelude.{Vec}
use Rattle.std.specs.Borrow.{Bor}
use Rattle.std.specs.declared.alloc.Global.{Global}
use Rattle.std.specs.Io.KnownBytes.{Appends}
use Rattle.std.proofs.KnownBytes.{Appends-trans}
use Rattle.savefile.specs.Device.{CountsFailure}
use Rattle.tap.specs.declared.fault.Fault.{Fault}
use Rattle.cli_store.specs.Files.{Places, StoresAt, Texts}
use Rattle.cli_steps.specs.declared.steps.Replayed.{Replayed}
use Rattle.cli_steps.specs.FromFiles.{IsDrawn}

-- what was taken so far is the front of the bytes, and is so with the next piece
pub taken_more : (old mid new : Option (List ℕ)) (bytes front rest : List ℕ) (n : ℕ) → n ≤ length rest → bytes ≡ front ++ rest → Appends old mid front → Appends mid new (take n rest)
    → (x : List ℕ) × (bytes ≡ x ++ take (length rest - n) (drop n rest)) × Appends old new x
taken_more old mid new bytes front rest n within is first more =
    let all : take (length rest - n) (drop n rest) ≡ drop n rest = take_all (length rest - n) (drop n rest) (omega (arith, length-drop n rest)) in (
      front ++ take n rest,
      is ∙ ap (λ (t : List ℕ). front ++ t) (sym (take-append-drop n rest)) ∙ sym (append_assoc front (take n rest) (drop n rest)) ∙ ap (λ (t : List ℕ). (front ++ take n rest) ++ t) (sym all),
      Appends-trans old mid new front (take n rest) first more,
    )

-- no file but the one of this name changed
pub others_at : (old mid new : Texts) (name place : List ℕ) → name ≡ place → mid ≡ old → ((at : List ℕ) → at ≢ name → new at ≡ mid at) → (at : List ℕ) → at ≢ place → new at ≡ old at
others_at old mid new name place is texts spared at other = spared at (λ e. other (e ∙ is)) ∙ ap (λ (t : Texts). t at) texts

-- a file that took these bytes alone has them
pub stored_at : (old mid new : Texts) (name place bytes : List ℕ) (before after : Option (List ℕ)) → before ≡ Some [] → Appends before after bytes → name ≡ place → mid ≡ old →
    IfSome after (StoresAt mid new name) → StoresAt old new place bytes
stored_at old mid new name place bytes before None is appends named texts stored = absurd (subst (λ (b : Option (List ℕ)). Appends b None bytes) is appends)
stored_at old mid new name place bytes before (Some taken) is appends named texts stored =
    let here : taken ≡ bytes = subst (λ (b : Option (List ℕ)). Appends b (Some taken) bytes) is appends in
    subst (λ (t : Texts). StoresAt t new place bytes) texts (subst (λ (n : List ℕ). StoresAt mid new n bytes) named (subst (λ (b : List ℕ). StoresAt mid new name b) here stored))

-- a sink that worked has failed if a call did
pub broke_then : {T E : Type 0} (before after : ℕ) (r : Result T E) → before ≡ 0 → is_err r ≡ true → CountsFailure before after r → after ≢ 0
broke_then before after (Ok done) works failed counts = absurd cc
broke_then before after (Err broken) works failed counts =
    let one : after ≡ 1 = subst (λ (b : ℕ). after ≡ (b + 1) % 2 ^ 64) works counts in
    λ none. absurd (omega (arith, one, none))

-- a picture of a replay that is stored is what was asked for
pub is_drawn : (place : Places) (old new : Texts) (wanted : Option (Bor (List ℕ))) (replayed : Result Replayed Fault) (path : Bor (List ℕ)) (played : Replayed) (picture : Vec ℕ Global) →
    wanted ≡ Some path → replayed ≡ Ok played → StoresAt old new (place path.now) picture.items → IsDrawn place old new wanted replayed (Some picture)
is_drawn place old new wanted replayed path played picture asked was stored = rw (asked, was) (picture, refl, stored)
