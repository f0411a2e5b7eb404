-- The counts of listeners fit, and steps of one listener keep that.
use Rattle.std.proofs.Common.{◌≡◌, ℕ, zero, suc, ◌+◌, ◌<◌, ◌≤◌, ◌^◌, Bool, true, false, List, [], ◌∷◌, ◌++◌, Option, Some, None, length, map, get_or, refl, ap, ◌∙◌, arith}
use Rattle.std.proofs.Math.ListN.{set}
use Rattle.listener.specs.declared.message.Message.{Message}
use Rattle.listener.specs.declared.answer.Fed.{Fed}
use Rattle.listener.specs.declared.answer.Fed.TheVariants.{Passed, Stored, Held, Rotated, Dropped, Closed}
use Rattle.listener.specs.PlainList.{PlainList, Request, arrived, flushed, read, next}
use Rattle.listener.specs.PlainList as P
use Rattle.tap_steps.specs.declared.playlist.PlacedPacket.{PlacedPacket}
use Rattle.std.specs.List.{AllZip}
use Rattle.tap_steps.specs.Watching.{Watch, stepped, arrived_at, one_stepped, CountsFit}

-- what the code writes
pub one_set : (l : ℕ) (r : Request) (ws : List Watch) (w x : Watch) → l < length ws → w ≡ get_or ws l w → x ≡ stepped r w → set ws l x ≡ one_stepped l r ws
one_set l r [] w x h g e = absurd (omega arith)
one_set zero r (u ∷ ws) w x h g e = λ i. (e ∙ ap (stepped r) g) i ∷ ws
one_set (suc l) r (u ∷ ws) w x h g e = ap (λ (vs : List Watch). u ∷ vs) (one_set l r ws w x (omega arith) g e)

pub length_one : (l : ℕ) (r : Request) (ws : List Watch) → length (one_stepped l r ws) ≡ length ws
length_one l r [] = refl
length_one zero r (w ∷ ws) = refl
length_one (suc l) r (w ∷ ws) = ap suc (length_one l r ws)

same_flushed : (s : PlainList) (b : Bool) → (next s (flushed b)).received ≡ s.received
same_flushed s true = refl
same_flushed s false = refl

same_read : (s : PlainList) (o : Option (List Message)) → (next s (read o)).received ≡ s.received
same_read s (Some batch) = refl
same_read s None = refl

one_more : (s : PlainList) (m : Option Message) (fed : Fed) → (next s (arrived m fed)).received ≤ s.received + 1
one_more s None Passed = omega arith
one_more s None Stored = omega arith
one_more s None Rotated = omega arith
one_more s None Dropped = omega arith
one_more s None Closed = omega arith
one_more s None Held = omega arith
one_more s (Some m) Passed = omega arith
one_more s (Some m) Stored = omega arith
one_more s (Some m) Rotated = omega arith
one_more s (Some m) Dropped = omega arith
one_more s (Some m) Closed = omega arith
one_more s (Some m) Held = omega arith

-- no arrival
abbrev IsOther : Request → Type 0
IsOther (P.Arrive m) = ⊥
IsOther other = Unit {0}

same_counts : (r : Request) (w : Watch) → IsOther r → (stepped r w).listener.list.received ≡ w.listener.list.received
unfolding stepped
same_counts (P.Arrive m) w h = absurd h
same_counts P.Flush w h = same_flushed w.listener.list _
same_counts P.Read w h = same_read w.listener.list _
same_counts P.Close w h = refl

fit_other : (n l : ℕ) (r : Request) (ws : List Watch) → IsOther r → CountsFit n ws → CountsFit n (one_stepped l r ws)
fit_other n l r [] o h = tt
fit_other n zero r (w ∷ ws) o h = (omega (arith, same_counts r w o, h.0), h.1)
fit_other n (suc l) r (w ∷ ws) o h = (h.0, fit_other n l r ws o h.1)

pub fit_flush : (n l : ℕ) (ws : List Watch) → CountsFit n ws → CountsFit n (one_stepped l P.Flush ws)
fit_flush n l ws h = fit_other n l P.Flush ws tt h

pub fit_read : (n l : ℕ) (ws : List Watch) → CountsFit n ws → CountsFit n (one_stepped l P.Read ws)
fit_read n l ws h = fit_other n l P.Read ws tt h

pub fit_close : (n l : ℕ) (ws : List Watch) → CountsFit n ws → CountsFit n (one_stepped l P.Close ws)
fit_close n l ws h = fit_other n l P.Close ws tt h

one_arrived : (p : PlacedPacket) (w : Watch) → (arrived_at p w).listener.list.received ≤ w.listener.list.received + 1
unfolding stepped
one_arrived p w = one_more w.listener.list _ _

pub fit_arrived : (n : ℕ) (p : PlacedPacket) (ws : List Watch) → CountsFit (suc n) ws → CountsFit n (map (arrived_at p) ws)
fit_arrived n p [] h = tt
fit_arrived n p (w ∷ ws) h = (omega (arith, one_arrived p w, h.0), fit_arrived n p ws h.1)

pub fit_less : (n m : ℕ) (ws : List Watch) → m ≤ n → CountsFit n ws → CountsFit m ws
fit_less n m [] e h = tt
fit_less n m (w ∷ ws) e h = (omega (arith, h.0), fit_less n m ws e h.1)

-- at each place
pub fit_at : (n : ℕ) (ws : List Watch) (i : ℕ) (w : Watch) → CountsFit n ws → i < length ws → w ≡ get_or ws i w → w.listener.list.received + n < 2 ^ 64
fit_at n [] i w h e g = absurd (omega arith)
fit_at n (u ∷ ws) zero w h e g = let r = ap (λ (v : Watch). v.listener.list.received) g in omega (arith, h.0, r)
fit_at n (u ∷ ws) (suc i) w h e g = fit_at n ws i w h.1 (omega arith) g

-- ---- Two lists side by side

pub zip_length : {A B : Type 0} (R : A → B → Type 0) (xs : List A) (ys : List B) → AllZip R xs ys → length ys ≡ length xs
zip_length R [] [] z = refl
zip_length R [] (y ∷ ys) z = absurd z
zip_length R (x ∷ xs) [] z = absurd z
zip_length R (x ∷ xs) (y ∷ ys) z = ap suc (zip_length R xs ys z.1)

pub zip_push : {A B : Type 0} (R : A → B → Type 0) (xs : List A) (ys : List B) (x : A) (y : B) → AllZip R xs ys → R x y → AllZip R (xs ++ x ∷ []) (ys ++ y ∷ [])
zip_push R [] [] x y z r = (r, tt)
zip_push R [] (v ∷ ys) x y z r = absurd z
zip_push R (u ∷ xs) [] x y z r = absurd z
zip_push R (u ∷ xs) (v ∷ ys) x y z r = (z.0, zip_push R xs ys x y z.1 r)
