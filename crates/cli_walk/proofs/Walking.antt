-- How far a walk has come.
use Rattle.std.proofs.Common.{◌≡◌, ◌≢◌, ℕ, suc, inl, inr, Bool, true, false, List, [], ◌∷◌, ◌++◌, length, Option, Result, Ok, Err, refl, ap, sym, subst, arith}
use Rattle.std.proofs.lemmas.List.{append-nil, append_assoc}
use Rattle.savefile.specs.declared.fault.Fault.{Fault}
use Rattle.cli_walk.specs.declared.walk.Stop.{Stop}
use Rattle.cli_walk.specs.declared.walk.Visited.{Visited}
use Rattle.cli_walk.specs.Walking.{Visits, Walks, end_of}

module _ {R S O : Type 0} (left : R → Option (List ℕ)) (failures : R → ℕ) (visits : ℕ → S → O → R → Visited R → S → O → Type 0) where
  -- What was visited so far, with what the rest comes to, is what all come to; or the walk has ended.
  abbrev pub WalksSoFar : List R → S → O → List R → ℕ → List R → S → O → Result Bool Stop → Type 0
  WalksSoFar all s o sources n rest t p (Ok true) =
      (others : List R) (s' : S) (o' : O) (end : Result Bool Stop) → Walks left failures visits n rest others t p s' o' end → Walks left failures visits 0 all (sources ++ others) s o s' o' end
  WalksSoFar all s o sources n rest t p (Ok false) = Walks left failures visits 0 all (sources ++ rest) s o t p (Ok false)
  WalksSoFar all s o sources n rest t p (Err stop) = Walks left failures visits 0 all (sources ++ rest) s o t p (Err stop)

  -- the next capture was visited, or left as it is
  abbrev pub IsNext : ℕ → S → O → R → R → S → O → Result Bool Stop → Result Bool Stop → Type 0
  IsNext n t p from to t' p' end end' =
      (end ≡ Ok true → (goes_on : Result Bool Fault) × (end' ≡ end_of n goes_on) × Visits left failures visits n t p from to goes_on t' p')
      × (end ≢ Ok true → (to ≡ from) × (end' ≡ end) × (t' ≡ t) × (p' ≡ p))

  visits-on : (all : List R) (s : S) (o : O) (sources : List R) (n : ℕ) (from to : R) (rest : List R) (t : S) (p : O) (t' : S) (p' : O) (goes_on : Result Bool Fault) →
      WalksSoFar all s o sources n (from ∷ rest) t p (Ok true) → Visits left failures visits n t p from to goes_on t' p' →
      WalksSoFar all s o (sources ++ to ∷ []) (suc n) rest t' p' (end_of n goes_on)
  visits-on all s o sources n from to rest t p t' p' (Ok true) so visit =
      λ others s' o' end walks. subst (λ xs. Walks left failures visits 0 all xs s o s' o' end) (sym (append_assoc sources (to ∷ []) others))
      (so (to ∷ others) s' o' end (Ok true, t', p', visit, inl (refl, walks)))
  visits-on all s o sources n from to rest t p t' p' (Ok false) so visit =
      subst (λ xs. Walks left failures visits 0 all xs s o t' p' (Ok false)) (sym (append_assoc sources (to ∷ []) rest))
      (so (to ∷ rest) t' p' (Ok false) (Ok false, t', p', visit, inr ((λ is. absurd (cc)), refl, refl, refl, refl)))
  visits-on all s o sources n from to rest t p t' p' (Err fault) so visit =
      subst (λ xs. Walks left failures visits 0 all xs s o t' p' (end_of n (Err fault))) (sym (append_assoc sources (to ∷ []) rest))
      (so (to ∷ rest) t' p' (end_of n (Err fault)) (Err fault, t', p', visit, inr ((λ is. absurd (cc)), refl, refl, refl, refl)))

  -- the walk has ended, and the capture is left
  stays-so : (all : List R) (s : S) (o : O) (sources : List R) (n : ℕ) (from to : R) (rest : List R) (t : S) (p : O) (t' : S) (p' : O) (end end' : Result Bool Stop) → Walks left failures visits 0 all (sources ++ from ∷ rest) s o t p end → (to ≡ from) × (end' ≡ end) × (t' ≡ t) × (p' ≡ p) → Walks left failures visits 0 all ((sources ++ to ∷ []) ++ rest) s o t' p' end
  stays-so all s o sources n from to rest t p t' p' end end' so (same, is, states, outs) =
      rw same (rw states (rw outs (subst (λ xs. Walks left failures visits 0 all xs s o t p end) (sym (append_assoc sources (from ∷ []) rest)) so)))

  next-by : (all : List R) (s : S) (o : O) (sources : List R) (n : ℕ) (from to : R) (rest : List R) (t : S) (p : O) (t' : S) (p' : O) (end end' : Result Bool Stop) → WalksSoFar all s o sources n (from ∷ rest) t p end → IsNext n t p from to t' p' end end' → WalksSoFar all s o (sources ++ to ∷ []) (suc n) rest t' p' end'
  next-by all s o sources n from to rest t p t' p' (Ok true) end' so (first, second) =
      let (goes_on, is, visit) = first refl in
      subst (λ e. WalksSoFar all s o (sources ++ to ∷ []) (suc n) rest t' p' e) (sym is) (visits-on all s o sources n from to rest t p t' p' goes_on so visit)
  next-by all s o sources n from to rest t p t' p' (Ok false) end' so (first, second) =
      let left_so = second (λ is. absurd (cc)) in
      subst (λ e. WalksSoFar all s o (sources ++ to ∷ []) (suc n) rest t' p' e) (sym left_so.1) (stays-so all s o sources n from to rest t p t' p' (Ok false) end' so left_so)
  next-by all s o sources n from to rest t p t' p' (Err stop) end' so (first, second) =
      let left_so = second (λ is. absurd (cc)) in
      subst (λ e. WalksSoFar all s o (sources ++ to ∷ []) (suc n) rest t' p' e) (sym left_so.1) (stays-so all s o sources n from to rest t p t' p' (Err stop) end' so left_so)

  -- one capture more, with the lists and the number as a loop has them
  pub walks-on : (all : List R) (s : S) (o : O) (sources sources' : List R) (n n' number : ℕ) (from to : R) (rest rest' : List R) (t : S) (p : O) (t' : S) (p' : O) (end end' : Result Bool Stop) → WalksSoFar all s o sources n rest t p end → rest ≡ from ∷ rest' → sources' ≡ sources ++ to ∷ [] → n' ≡ suc n → number ≡ n → IsNext number t p from to t' p' end end' → WalksSoFar all s o sources' n' rest' t' p' end'
  walks-on all s o sources sources' n n' number from to rest rest' t p t' p' end end' so taken given is same next =
      let one = subst (λ xs. WalksSoFar all s o sources n xs t p end) taken so in
      let two = subst (λ k. IsNext k t p from to t' p' end end') same next in
      rw given (rw is (next-by all s o sources n from to rest' t p t' p' end end' one two))

  pub walks-all : (all : List R) (s : S) (o : O) (sources : List R) (n : ℕ) (rest : List R) (t : S) (p : O) (end : Result Bool Stop) → WalksSoFar all s o sources n rest t p end → length rest ≡ 0 → Walks left failures visits 0 all sources s o t p end
  walks-all all s o sources n [] t p (Ok true) so none = subst (λ xs. Walks left failures visits 0 all xs s o t p (Ok true)) (append-nil sources) (so [] t p (Ok true) (refl, refl, refl))
  walks-all all s o sources n [] t p (Ok false) so none = subst (λ xs. Walks left failures visits 0 all xs s o t p (Ok false)) (append-nil sources) so
  walks-all all s o sources n [] t p (Err stop) so none = subst (λ xs. Walks left failures visits 0 all xs s o t p (Err stop)) (append-nil sources) so
  walks-all all s o sources n (x ∷ rest) t p end so none = absurd (omega (arith, none))
