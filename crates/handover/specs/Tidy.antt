-- The two lists never disagree.
use Rattle.std.specs.Prelude.{◌≡◌, Bool, true, false, List, [], ◌∷◌}
use Rattle.handover.specs.declared.calls.Feed.{Feed}
use Rattle.handover.specs.declared.calls.Take.{Take}
use Rattle.handover.specs.History.{Kind, plain, stores, finds_closed, kind, later_turns}

abbrev pub by_kind_type : Kind → Type 0 → Type 0 → Type 0 → Type 0
by_kind_type plain p s c = p
by_kind_type stores p s c = s
by_kind_type finds_closed p s c = c

-- there is a turn to take
abbrev pub HasTurn : List (List Take) → Type 0
HasTurn [] = ⊥
HasTurn (turn ∷ turns) = Unit {0}

-- what is left once all turns are taken that a call takes: one turn while the hold is empty, and none while it is full
abbrev pub AreLeft : Bool → List (List Take) → Type 0
AreLeft full [] = full ≡ true
AreLeft full (turn ∷ []) = full ≡ false
AreLeft full (turn ∷ more ∷ turns) = ⊥

abbrev pub AllFind : List Feed → Type 0
AllFind [] = Unit {0}
AllFind (f ∷ fs) = (kind f ≡ finds_closed) × AllFind fs

-- Each call that stores 1 takes a turn, and the turns are enough; after a call that found the pair closed each one did.
abbrev pub Tidy : List (List Take) → List Feed → Bool → Type 0
Tidy turns [] full = AreLeft full turns
Tidy turns (f ∷ fs) full = by_kind_type (kind f)
    (Tidy turns fs full)
    (HasTurn turns × Tidy (later_turns turns) fs full)
    (AreLeft full turns × AllFind fs)
