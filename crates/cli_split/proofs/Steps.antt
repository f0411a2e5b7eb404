-- A split that reads one capture more.
use Rattle.std.proofs.Common.{◌≡◌, ◌+◌, ◌<◌, ℕ, zero, suc, true, List, [], ◌∷◌, ◌++◌, length, length-append, refl, ap, sym, ◌∙◌, arith, subst, Option, Result, Ok, Err, OnOk, OnErr}
use Rattle.std.proofs.lemmas.List.{append_assoc}
use Rattle.savefile.specs.declared.header.Order.{Order}
use Rattle.savefile.specs.declared.header.Unit.{Unit as TimeUnit}
use Rattle.savefile.specs.declared.packet.Packet.{Packet}
use Rattle.cli_split.specs.declared.part.Part.{Part}
use Rattle.cli_split.specs.declared.split.Splitter.{Splitter}
use Rattle.cli_split.specs.declared.split.Stop.{Stop}
use Rattle.cli_split.specs.declared.split.Stop.TheVariants.{AtHeader, AtRecord}
use Rattle.cli_split.specs.Reading.{EndsSo, ReadsOne, ReadsSoFar}
use Rattle.cli_split.specs.Splitting.{passes_header}
use Rattle.cli_split.specs.Standing.{GoesOn, HasParts, HasSplit}
use Rattle.cli_split.proofs.Readings.{one-more, one-unread}

module _ {R W : Type 0} (left : R → Option (List ℕ)) (broken : R → ℕ) (taken : W → Option (List ℕ)) (name : W → List ℕ) (failures : W → ℕ) where
  -- the n-th capture was read, where none before has ended the reading
  abbrev pub IsNext : R → R → ℕ → Splitter W → Splitter W → Result (Unit {0}) Stop → Result (Unit {0}) Stop → Type 0
  IsNext s t n old new end ended =
      OnOk end ((these : List Packet) × ReadsOne left broken s t new.read n these ended × GoesOn taken name failures these old new)
      × OnErr end ((t ≡ s) × (ended ≡ end) × (new ≡ old))

  -- the parts go on
  pub parts-on : (s t : R) (n : ℕ) (old new : Splitter W) (end ended : Result (Unit {0}) Stop) → IsNext s t n old new end ended → HasParts taken name failures old → HasParts taken name failures new
  parts-on s t n old new (Ok done) ended next (order, unit, packets, parts, has) = (order, unit, packets ++ next.0.0, parts, next.0.2 order unit packets parts has)
  parts-on s t n old new (Err stop) ended next has = subst (λ w. HasParts taken name failures w) (sym next.1.2) has

  -- so does what was read
  pub reads-on : (order : Order) (unit : TimeUnit) (packets more : List Packet) (parts : List (Part W)) (all sources sources' : List R) (s t : R) (rest rest' : List R) (n : ℕ) (old new : Splitter W)
      (end ended : Result (Unit {0}) Stop) → HasSplit taken name failures order unit (packets ++ more) parts old → ReadsSoFar left broken all sources (length sources) rest (packets ++ more) end
      → rest ≡ s ∷ rest' → sources' ≡ sources ++ t ∷ [] → n ≡ length sources → IsNext s t n old new end ended
      → (further : List Packet) × HasSplit taken name failures order unit (packets ++ further) parts new × ReadsSoFar left broken all sources' (length sources') rest' (packets ++ further) ended
  reads-on order unit packets more parts all sources sources' s t rest rest' n old new (Ok done) ended has so taken-out given here next =
      let these = next.0.0 in
      let now : HasSplit taken name failures order unit ((packets ++ more) ++ these) parts new = next.0.2 order unit (packets ++ more) parts has in
      let joined = append_assoc packets more these in
      let longer : length sources + 1 ≡ length sources' = sym (ap length given ∙ length-append sources (t ∷ [])) in (
        more ++ these,
        subst (λ ps. HasSplit taken name failures order unit ps parts new) joined now,
        subst (λ ps. ReadsSoFar left broken all sources' (length sources') rest' ps ended) joined
            (subst (λ k. ReadsSoFar left broken all sources' k rest' ((packets ++ more) ++ these) ended) longer
            (subst (λ ts. ReadsSoFar left broken all ts (length sources + 1) rest' ((packets ++ more) ++ these) ended) (sym given)
            (one-more left broken all sources (length sources) new.read s t rest' (packets ++ more) these done ended
            (subst (λ xs. ReadsSoFar left broken all sources (length sources) xs (packets ++ more) (Ok done)) taken-out so)
            (subst (λ k. ReadsOne left broken s t new.read k these ended) here next.0.1) now.0))),
      )
  reads-on order unit packets more parts all sources sources' s t rest rest' n old new (Err stop) ended has so taken-out given here next = (
    more,
    subst (λ w. HasSplit taken name failures order unit (packets ++ more) parts w) (sym next.1.2) has,
    subst (λ e. ReadsSoFar left broken all sources' (length sources') rest' (packets ++ more) e) (sym next.1.1)
        (subst (λ ts. ReadsSoFar left broken all ts (length sources') rest' (packets ++ more) (Err stop)) (sym (given ∙ ap (λ x. sources ++ x ∷ []) next.1.0))
        (one-unread left broken all sources (length sources) (length sources') s rest' (packets ++ more) stop
        (subst (λ xs. ReadsSoFar left broken all sources (length sources) xs (packets ++ more) (Err stop)) taken-out so))),
  )

  -- the header of the first capture is none of a later one
  passes-behind : (text given : List ℕ) (total n : ℕ) (these : List Packet) (ended : Result (Unit {0}) Stop) → 0 < n → EndsSo text given total n these ended → passes_header ended ≡ true
  passes-behind text given total n these (Ok done) behind ends = refl
  passes-behind text given total n these (Err (AtHeader zero fault)) behind ends = absurd (omega (arith, behind, ends.0))
  passes-behind text given total n these (Err (AtHeader (suc m) fault)) behind ends = refl
  passes-behind text given total n these (Err (AtRecord m fault)) behind ends = refl

  pub passes-on : (s t : R) (n : ℕ) (old new : Splitter W) (end ended : Result (Unit {0}) Stop) → 0 < n → IsNext s t n old new end ended → passes_header end ≡ true → passes_header ended ≡ true
  passes-on s t n old new (Ok done) ended behind next passed = let r = next.0.1 in passes-behind r.text r.given new.read n next.0.0 ended behind r.ends
  passes-on s t n old new (Err stop) ended behind next passed = ap passes_header next.1.1 ∙ passed
