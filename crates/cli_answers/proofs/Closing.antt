-- A walk that a failed device ended has a capture that failed.
use Rattle.std.proofs.Common.{◌≡◌, ◌≢◌, ◌↔◌, ℕ, zero, suc, inl, inr, Bool, true, List, [], ◌∷◌, ◌++◌, length, Option, Some, Result, Ok, Err, sym, refl, ap, subst, ◌∙◌, Bor, arith}
use Rattle.std.specs.List.{AllByRecursion, AllZip, Any}
use Rattle.savefile.specs.declared.fault.Fault.{Fault}
use Rattle.savefile.specs.declared.fault.Fault.TheVariants.{Device, NoMemory}
use Rattle.cli_walk.specs.declared.walk.Stop.{Stop}
use Rattle.cli_walk.specs.declared.walk.Visited.{Visited}
use Rattle.cli_walk.specs.Walking.{Walked, Walks, end_of, stop}
use Rattle.cli_store.specs.Files.{Places, Texts}
use Rattle.cli_answers.specs.declared.captures.SoughtCaptures.{SoughtCaptures}
use Rattle.savefile.specs.declared.packet.Packet.{Packet}
use Rattle.cli_answers.specs.Asked.{IsCaptureAt}
use Rattle.cli_answers.specs.Captures.{LooksIn, SeeksIn, is_found, read_of}

-- the fault that ended a walk is that of the last visit
end-device : (n k : ℕ) (goes_on : Result Bool Fault) → end_of n goes_on ≡ Err (stop k Device) → goes_on ≡ Err Device
end-device n k (Ok x) is = absurd (cc)
end-device n k (Err fault) is =
    let same : stop n fault ≡ stop k Device = cc in
    ap (λ (s : Stop). Err s.fault) same

any-first : {X : Type 0} (P : X → Type 0) (x : X) (xs : List X) → P x → Any P (x ∷ xs)
any-first P x xs holds = (0, x, omega arith, refl, holds)

any-later : {X : Type 0} (P : X → Type 0) (x : X) (xs : List X) → Any P xs → Any P (x ∷ xs)
any-later P x xs (k, y, inside, here, holds) = (suc k, y, omega (arith, inside), here, holds)

module _ {R S O : Type 0} (left : R → Option (List ℕ)) (failures : R → ℕ) (visits : ℕ → S → O → R → Visited R → S → O → Type 0) where
  walks-broke : (n k : ℕ) (froms tos : List R) (s : S) (o : O) (s' : S) (o' : O) (end : Result Bool Stop) → AllByRecursion (λ (c : R). failures c ≡ 0) froms →
      Walks left failures visits n froms tos s o s' o' end → end ≡ Err (stop k Device) → Any (λ (c : R). failures c ≢ 0) tos
  walks-broke n k [] [] s o s' o' end fresh (states, outs, is) ended = absurd (cc)
  walks-broke n k [] (to ∷ tos) s o s' o' end fresh walks ended = absurd walks
  walks-broke n k (from ∷ froms) [] s o s' o' end fresh walks ended = absurd walks
  walks-broke n k (from ∷ froms) (to ∷ tos) s o s' o' end (first, others) (goes_on, t, p, visit, inl (on, walks)) ended =
      any-later (λ (c : R). failures c ≢ 0) to tos (walks-broke (suc n) k froms tos t p s' o' end others walks ended)
  walks-broke n k (from ∷ froms) (to ∷ tos) s o s' o' end (first, others) (goes_on, t, p, (did, (given, broke)), inr (off, states, outs, same, is)) ended =
      any-first (λ (c : R). failures c ≢ 0) to tos (λ none. broke.0 (end-device n k goes_on (sym is ∙ ended)) (none ∙ sym first))

  -- from the first capture on
  pub walked-broke : (k : ℕ) (froms tos : List R) (s : S) (o : O) (s' : S) (o' : O) (end : Result Bool Stop) → AllByRecursion (λ (c : R). failures c ≡ 0) froms →
      Walked left failures visits froms tos s o s' o' end → end ≡ Err (stop k Device) → Any (λ (c : R). failures c ≢ 0) tos
  walked-broke k froms tos s o s' o' end fresh (inl walks) ended = walks-broke 0 k froms tos s o s' o' end fresh walks ended
  walked-broke k froms tos s o s' o' end fresh (inr (same, states, outs, is)) ended =
      let both : stop 0 NoMemory ≡ stop k Device = cc in
      let fault : NoMemory ≡ Device = ap (λ (s : Stop). s.fault) both in
      absurd (cc)

-- captures that were opened just now have not failed
pub fresh : {R : Type 0} (left : R → Option (List ℕ)) (failures : R → ℕ) (place : Places) (text : Texts) (paths : List (Bor (List ℕ))) (captures : List R) →
    AllZip (IsCaptureAt left failures place text) paths captures → AllByRecursion (λ (c : R). failures c ≡ 0) captures
fresh left failures place text [] [] are = tt
fresh left failures place text [] (c ∷ cs) are = absurd are
fresh left failures place text (p ∷ ps) [] are = absurd are
fresh left failures place text (p ∷ ps) (c ∷ cs) ((has, works), others) = (works, fresh left failures place text ps cs others)

-- what ended the reading of captures ended the walk
pub read-broke : (n : ℕ) (ended : Result Bool Stop) → read_of ended ≡ Err (stop n Device) → ended ≡ Err (stop n Device)
read-broke n (Ok x) is = absurd (cc)
read-broke n (Err s) is =
    let same : s ≡ stop n Device = cc in
    ap (λ (t : Stop). Err t) same

found-broke : (n : ℕ) (ended : Result Bool Stop) → is_found ended ≡ Err (stop n Device) → ended ≡ Err (stop n Device)
found-broke n (Ok x) is = absurd (cc)
found-broke n (Err s) is =
    let same : s ≡ stop n Device = cc in
    ap (λ (t : Stop). Err t) same

-- a failed device that ended a search is one of a capture
pub seeks-broke : {R : Type 0} (left : R → Option (List ℕ)) (failures : R → ℕ) (passes : Packet → Bool) (captures : List R) (s : SoughtCaptures R) (n : ℕ) →
    AllByRecursion (λ (c : R). failures c ≡ 0) captures → SeeksIn left failures passes captures s → s.found ≡ Err (stop n Device) → Any (λ (c : R). failures c ≢ 0) s.sources.items
seeks-broke {R = R} left failures passes captures s n new (ended, is, walked) device =
    walked-broke {R = R} {S = Unit {0}} {O = Unit {0}} left failures (λ m t o from v t' o'. LooksIn left passes from v) n captures s.sources.items tt tt tt tt ended new walked
    (found-broke n ended (sym is ∙ device))
