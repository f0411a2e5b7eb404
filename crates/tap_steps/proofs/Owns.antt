-- Each listener goes through its own steps.
use Rattle.std.proofs.Common.{◌≡◌, ◌≢◌, ℕ, zero, suc, Bool, true, false, cond, eqb, List, [], ◌∷◌, ◌++◌, Option, Some, None, option_map, map, ◌<◌, length, take, drop, get_or, refl, ap, sym, ◌∙◌, arith}
use Rattle.std.specs.List.{slice_get}
use Rattle.std.proofs.lemmas.Option.{slice_get-map}
use Rattle.std.proofs.lemmas.Bool.{false≢true, eqb-true, eq-eqb}
use Rattle.listener.specs.Listening.{seen_by}
use Rattle.listener.specs.PlainList.{Request}
use Rattle.listener.specs.PlainList as P
use Rattle.tap_steps.specs.declared.playlist.PlacedPacket.{PlacedPacket}
use Rattle.tap_steps.specs.declared.step.Step.{Step}
use Rattle.tap_steps.specs.declared.step.Step.TheVariants.{Arrive, Flush, Read, Close}
use Rattle.tap_steps.specs.OwnSteps.{own}
use Rattle.tap_steps.specs.Watching.{Watch, stepped, arrived_at, one_stepped, played, all_stepped}

one_here : (l : ℕ) (r : Request) (ws : List Watch) → slice_get (one_stepped l r ws) l ≡ option_map (stepped r) (slice_get ws l)
one_here l r [] = refl
one_here zero r (w ∷ ws) = refl
one_here (suc l) r (w ∷ ws) = one_here l r ws

one_other : (k l : ℕ) (r : Request) (ws : List Watch) → k ≢ l → slice_get (one_stepped k r ws) l ≡ slice_get ws l
one_other k l r [] h = refl
one_other zero zero r (w ∷ ws) h = absurd (h refl)
one_other zero (suc l) r (w ∷ ws) h = refl
one_other (suc k) zero r (w ∷ ws) h = refl
one_other (suc k) (suc l) r (w ∷ ws) h = one_other k l r ws (λ e. h (ap suc e))

rest_here : (f : Watch → Watch) (ws : List Watch) (i : ℕ) (d : Watch) → i < length ws → get_or (map f (take i ws) ++ drop i ws) i d ≡ get_or ws i d
rest_here f [] i d h = absurd (omega arith)
rest_here f (w ∷ ws) zero d h = refl
rest_here f (w ∷ ws) (suc i) d h = rest_here f ws i d (omega arith)

-- what a listener becomes by its own steps
abbrev pub goes : ℕ → List Step → List PlacedPacket → Watch → Watch
goes l steps playlist w = all_stepped (own (seen_by w.listener) l steps playlist) w

-- a step of its own, or another's
-- one step first
stepped_goes : (r : Request) (l : ℕ) (steps : List Step) (playlist : List PlacedPacket) (o : Option Watch) →
    option_map (goes l steps playlist) (option_map (stepped r) o) ≡ option_map (λ w. all_stepped (r ∷ own (seen_by w.listener) l steps playlist) w) o
unfolding stepped
stepped_goes r l steps playlist None = refl
stepped_goes r l steps playlist (Some w) = refl

one_goes : (k l : ℕ) (r : Request) (ws : List Watch) (steps : List Step) (playlist : List PlacedPacket) (b : Bool) → eqb k l ≡ b → (o : Option Watch) → slice_get ws l ≡ o →
    option_map (goes l steps playlist) (slice_get (one_stepped k r ws) l) ≡ option_map (λ w. all_stepped (cond b (r ∷ []) [] ++ own (seen_by w.listener) l steps playlist) w) o
unfolding stepped
one_goes k l r ws steps playlist true e o is =
    let same : k ≡ l = eqb-true k l e in
    let here : slice_get (one_stepped k r ws) l ≡ option_map (stepped r) o =
    ap (λ (j : ℕ). slice_get (one_stepped j r ws) l) same ∙ one_here l r ws ∙ ap (option_map (stepped r)) is in
    ap (option_map (goes l steps playlist)) here ∙ stepped_goes r l steps playlist o
one_goes k l r ws steps playlist false e o is =
    let other : slice_get (one_stepped k r ws) l ≡ o = one_other k l r ws (λ same. false≢true (sym e ∙ eq-eqb k l same)) ∙ is in
    ap (option_map (goes l steps playlist)) other

arrived_goes : (p : PlacedPacket) (l : ℕ) (steps : List Step) (playlist : List PlacedPacket) (o : Option Watch) →
    option_map (goes l steps playlist) (option_map (arrived_at p) o) ≡ option_map (goes l (Arrive ∷ steps) (p ∷ playlist)) o
unfolding stepped
arrived_goes p l steps playlist None = refl
arrived_goes p l steps playlist (Some w) = refl

none_goes : (l : ℕ) (playlist : List PlacedPacket) (o : Option Watch) → o ≡ option_map (goes l [] playlist) o
none_goes l playlist None = refl
none_goes l playlist (Some w) = refl

pub played_own : (steps : List Step) (playlist : List PlacedPacket) (ws : List Watch) (l : ℕ) →
    slice_get (played steps playlist ws) l ≡ option_map (goes l steps playlist) (slice_get ws l)
played_own [] playlist ws l = none_goes l playlist (slice_get ws l)
played_own (Arrive ∷ steps) [] ws l = played_own steps [] ws l
played_own (Arrive ∷ steps) (p ∷ playlist) ws l =
    played_own steps playlist (map (arrived_at p) ws) l ∙ ap (option_map (goes l steps playlist)) (slice_get-map (arrived_at p) ws l)
    ∙ arrived_goes p l steps playlist (slice_get ws l)
played_own (Flush k ∷ steps) playlist ws l =
    played_own steps playlist (one_stepped k P.Flush ws) l ∙ one_goes k l P.Flush ws steps playlist (eqb k l) refl (slice_get ws l) refl
played_own (Read k ∷ steps) playlist ws l =
    played_own steps playlist (one_stepped k P.Read ws) l ∙ one_goes k l P.Read ws steps playlist (eqb k l) refl (slice_get ws l) refl
played_own (Close k ∷ steps) playlist ws l =
    played_own steps playlist (one_stepped k P.Close ws) l ∙ one_goes k l P.Close ws steps playlist (eqb k l) refl (slice_get ws l) refl

-- in a loop that changes each item, an item that is not changed yet
pub rest_at : (f : Watch → Watch) (ws us : List Watch) (i : ℕ) (w : Watch) → i < length ws → us ≡ map f (take i ws) ++ drop i ws → w ≡ get_or us i w → w ≡ get_or ws i w
rest_at f ws us i w h e g = g ∙ ap (λ (vs : List Watch). get_or vs i w) e ∙ rest_here f ws i w h
