-- Laws of the files LISTENERS and SCRIPT, and of reasons.
use Rattle.std.specs.Prelude.{◌≡◌, ℕ, Bool, true, false, List, Option, is_some}
use Rattle.listener.specs.declared.message.Message.{Message}
use Rattle.listener.specs.PlainList.{Terms, PlainList, IsRight, flushed, read}
use Rattle.tap_steps.specs.Answers.{answered}
use Rattle.line_text.specs.Files.{IsFileOf, IsFirstBad}
use Rattle.tap_text.specs.declared.reasons.FlushEnd.{FlushEnd}
use Rattle.tap_text.specs.declared.reasons.FlushEnd.TheVariants as flush_ends
use Rattle.tap_text.specs.declared.reasons.ReadEnd.{ReadEnd}
use Rattle.tap_text.specs.declared.reasons.ReadEnd.TheVariants as read_ends
use Rattle.tap_text.specs.Reasons.{flush_end, read_end, state_before}

-- a file whose lines all have their form has no bad line
abbrev pub NoneIsBad : {X : Type 0} → (List ℕ → X → Type 0) → Type 0
NoneIsBad {X} Is = (text : List ℕ) (items : List X) (n : ℕ) → IsFileOf Is text items → IsFirstBad Is text n → ⊥

-- a file has one first bad line
abbrev pub FirstBadIsOne : {X : Type 0} → (List ℕ → X → Type 0) → Type 0
FirstBadIsOne Is = (text : List ℕ) (n m : ℕ) → IsFirstBad Is text n → IsFirstBad Is text m → n ≡ m

-- ---- Reasons

-- a flush that ends so makes the store the hold
abbrev pub makes_hold : FlushEnd → Bool
makes_hold flush_ends.Closed = false
makes_hold (flush_ends.NotRead hold) = false
makes_hold flush_ends.NothingStored = false
makes_hold (flush_ends.Takes load) = true

-- a read that ends so takes the hold
abbrev pub takes_hold : ReadEnd → Bool
takes_hold read_ends.Closed = false
takes_hold read_ends.NothingHeld = false
takes_hold (read_ends.Takes hold) = true

-- The reason of a flush follows from the state before it: if the answer is right, the reason agrees with it.
abbrev pub FlushReasonsAgree : Type 0
FlushReasonsAgree = (t : Terms) (s : PlainList) (full : Bool) (held_since : ℕ) → IsRight t s (flushed full)
    → makes_hold (flush_end (state_before (answered s (flushed full)) held_since t.capacity)) ≡ full

-- So does that of a read.
abbrev pub ReadReasonsAgree : Type 0
ReadReasonsAgree = (t : Terms) (s : PlainList) (batch : Option (List Message)) (held_since : ℕ) → IsRight t s (read batch)
    → takes_hold (read_end (state_before (answered s (read batch)) held_since t.capacity)) ≡ is_some batch
