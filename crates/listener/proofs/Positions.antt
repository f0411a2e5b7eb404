-- Looking back by positions is looking back.
use Rattle.std.proofs.Common.{◌≡◌, ℕ, zero, suc, ◌+◌, ◌<◌, Bool, true, false, not, ◌&&◌, ◌||◌, List, [], ◌∷◌, length, refl, ap, sym, ◌∙◌, subst, arith, nat_lt, lt-ltb, cond, inl, inr}
use Rattle.std.proofs.lemmas.Bool.{cases_lt, le-ltb, false≢true}
use Rattle.listener.specs.Messages.{size_of}
use Rattle.listener.specs.PlainList.{Terms, Request}
use Rattle.listener.specs.LookingBack.{is_over, is_read, makes_hold, load, hold_is_full}
use Rattle.listener.specs.Positions.{reads_at, makes_hold_at, puts_at, made_since, stored_at, sum_below, stored_in_all, HoldIsFull, LoadIsByPositions, HoldIsByPositions, DropIsByPositions}

-- ---- Truth values

or_false : (a : Bool) → (a || false) ≡ a
or_false true = refl
or_false false = refl

or_true : (a : Bool) → (a || true) ≡ true
or_true true = refl
or_true false = refl

or_assoc : (a b c : Bool) → ((a || b) || c) ≡ (a || (b || c))
or_assoc true b c = refl
or_assoc false b c = refl

both : (a b : Bool) → (a && b) ≡ true → (a ≡ true) × (b ≡ true)
both true b h = (refl, h)
both false b h = absurd (false≢true h)

is_not : (a : Bool) → not a ≡ true → a ≡ false
is_not true h = absurd (false≢true h)
is_not false h = refl

-- ---- Sums

sum_alike : (n : ℕ) (f g : ℕ → ℕ) → ((k : ℕ) → f k ≡ g k) → sum_below n f ≡ sum_below n g
sum_alike zero f g h = refl
sum_alike (suc n) f g h = let i = sum_alike n f g h in let j = h n in omega (arith, i, j)

sum_first : (n : ℕ) (f : ℕ → ℕ) → sum_below (suc n) f ≡ f 0 + sum_below n (λ k. f (suc k))
sum_first zero f = omega arith
sum_first (suc n) f = let i = sum_first n f in omega (arith, i)

sum_none : (n : ℕ) (f : ℕ → ℕ) → ((k : ℕ) → f k ≡ 0) → sum_below n f ≡ 0
sum_none zero f h = refl
sum_none (suc n) f h = let i = sum_none n f h in let j = h n in omega (arith, i, j)

-- ---- The load

load_more : (t : Terms) (step : Request) (before : List Request) → load t (step ∷ before) ≡
    cond (makes_hold t (load t before) (hold_is_full t before) step) 0 (load t before) + puts_at t (step ∷ before) 0
unfolding load hold_is_full
load_more t step before = refl

-- what stands one step further back
made_since_more : (t : Terms) (step : Request) (before : List Request) (n : ℕ) →
    made_since t (step ∷ before) (suc n) ≡ (makes_hold t (load t before) (hold_is_full t before) step || made_since t before n)
made_since_more t step before zero = sym (or_false (makes_hold t (load t before) (hold_is_full t before) step))
made_since_more t step before (suc n) =
    ap (λ (b : Bool). b || makes_hold_at t before n) (made_since_more t step before n)
    ∙ or_assoc (makes_hold t (load t before) (hold_is_full t before) step) (made_since t before n) (makes_hold_at t before n)

stored_more : (t : Terms) (step : Request) (before : List Request) (n : ℕ) →
    stored_at t (step ∷ before) (suc n) ≡ cond (makes_hold t (load t before) (hold_is_full t before) step || made_since t before n) 0 (puts_at t before n)
stored_more t step before n = ap (λ (b : Bool). cond b 0 (puts_at t before n)) (made_since_more t step before n)

-- by whether the step makes the store the hold
stored_behind : (t : Terms) (step : Request) (before : List Request) (makes : Bool) → makes_hold t (load t before) (hold_is_full t before) step ≡ makes →
    sum_below (length before) (λ k. stored_at t (step ∷ before) (suc k)) ≡ cond makes 0 (stored_in_all t before)
stored_behind t step before true is =
    sum_none (length before) (λ k. stored_at t (step ∷ before) (suc k))
    (λ k. stored_more t step before k ∙ ap (λ (b : Bool). cond (b || made_since t before k) 0 (puts_at t before k)) is)
stored_behind t step before false is =
    sum_alike (length before) (λ k. stored_at t (step ∷ before) (suc k)) (stored_at t before)
    (λ k. stored_more t step before k ∙ ap (λ (b : Bool). cond (b || made_since t before k) 0 (puts_at t before k)) is)

load_none : (t : Terms) → load t [] ≡ 0
unfolding load hold_is_full
load_none t = refl

pub load_by_positions : LoadIsByPositions
load_by_positions t [] = load_none t
load_by_positions t (step ∷ before) =
    let makes = makes_hold t (load t before) (hold_is_full t before) step in
    let own = puts_at t (step ∷ before) 0 in
    let more : load t (step ∷ before) ≡ cond makes 0 (load t before) + own = load_more t step before in
    let same : cond makes 0 (load t before) ≡ cond makes 0 (stored_in_all t before) = ap (λ (n : ℕ). cond makes 0 n) (load_by_positions t before) in
    let first : stored_in_all t (step ∷ before) ≡ own + sum_below (length before) (λ k. stored_at t (step ∷ before) (suc k)) =
    sum_first (length before) (stored_at t (step ∷ before)) in
    let behind = stored_behind t step before makes refl in
    omega (arith, more, same, first, behind)

-- ---- The hold

held_more : (t : Terms) (step : Request) (before : List Request) → hold_is_full t (step ∷ before) ≡
    (makes_hold t (load t before) (hold_is_full t before) step || (not (is_read step) && hold_is_full t before))
unfolding load hold_is_full
held_more t step before = refl

held_none : (t : Terms) → hold_is_full t [] ≡ false
unfolding load hold_is_full
held_none t = refl

-- no step since is a Read, one step further back
none_reads : (step : Request) (before : List Request) (n : ℕ) → is_read step ≡ false → ((k : ℕ) → k < n → reads_at before k ≡ false)
    → (k : ℕ) → k < suc n → reads_at (step ∷ before) k ≡ false
none_reads step before n here none zero below = here
none_reads step before n here none (suc k) below = none k (omega (arith, below))

full_by : (t : Terms) (step : Request) (before : List Request) (makes : Bool) → makes_hold t (load t before) (hold_is_full t before) step ≡ makes
    → (hold_is_full t before ≡ true → HoldIsFull t before) → (makes || (not (is_read step) && hold_is_full t before)) ≡ true → HoldIsFull t (step ∷ before)
full_by t step before true is behind h = (0, is, λ k below. absurd (omega (arith, below)))
full_by t step before false is behind h =
    let parts = both (not (is_read step)) (hold_is_full t before) h in
    let full = behind parts.1 in
    (suc full.0, full.1, none_reads step before full.0 (is_not (is_read step) parts.0) full.2)

full_of_held : (t : Terms) (before : List Request) → hold_is_full t before ≡ true → HoldIsFull t before
full_of_held t [] h = absurd (false≢true (sym (held_none t) ∙ h))
full_of_held t (step ∷ before) h =
    full_by t step before (makes_hold t (load t before) (hold_is_full t before) step) refl (full_of_held t before) (sym (held_more t step before) ∙ h)

held_of_full : (t : Terms) (before : List Request) (n : ℕ) → makes_hold_at t before n ≡ true → ((k : ℕ) → k < n → reads_at before k ≡ false) → hold_is_full t before ≡ true
held_of_full t [] n makes none = absurd (false≢true makes)
held_of_full t (step ∷ before) zero makes none =
    held_more t step before ∙ ap (λ (b : Bool). b || (not (is_read step) && hold_is_full t before)) makes
held_of_full t (step ∷ before) (suc n) makes none =
    let behind = held_of_full t before n makes (λ k below. none (suc k) (omega (arith, below))) in
    let here : is_read step ≡ false = none 0 (omega arith) in
    held_more t step before
    ∙ (λ i. makes_hold t (load t before) (hold_is_full t before) step || (not (here i) && behind i))
    ∙ or_true (makes_hold t (load t before) (hold_is_full t before) step)

pub held_by_positions : HoldIsByPositions
held_by_positions t before = (full_of_held t before, λ full. held_of_full t before full.0 full.1 full.2)

-- ---- Drops

over_of : (a b : ℕ) → nat_lt a b ≡ true → a < b
over_of a b h = elim (cases_lt a b) [ inl below ↦ below | inr least ↦ absurd (false≢true (sym (le-ltb a b least) ∙ h)) ]

pub drop_by_positions : DropIsByPositions
drop_by_positions t before m = (
  λ h.
      let parts = both (is_over t (load t before) m) (hold_is_full t before) h in
      let over : t.capacity < load t before + size_of m = over_of t.capacity (load t before + size_of m) parts.0 in
      (subst (λ (n : ℕ). t.capacity < n + size_of m) (load_by_positions t before) over, full_of_held t before parts.1),
  λ h.
      let over : t.capacity < load t before + size_of m = subst (λ (n : ℕ). t.capacity < n + size_of m) (sym (load_by_positions t before)) h.0 in
      let is : is_over t (load t before) m ≡ true = lt-ltb t.capacity (load t before + size_of m) over in
      let full : hold_is_full t before ≡ true = held_of_full t before h.1.0 h.1.1 h.1.2 in
      (λ i. is i && full i),
)
