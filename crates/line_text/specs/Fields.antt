-- The fields of a line.
use Rattle.std.specs.Prelude.{◌≡◌, ◌≢◌, ℕ, ◌-◌, ◌^◌, List, ◌++◌, codes, All}
use Rattle.bpfvm.specs.Listing.{space, IsNumber}
use Rattle.listener.specs.declared.mode.Mode.{Mode}
use Rattle.listener.specs.declared.mode.Mode.TheVariants.{Buffered, Immediate}
use Rattle.savefile.specs.declared.record.TheConstants.{MAX_SNAP}
use Rattle.savefile.specs.Snapshot.{effective_snaplen}

-- a text without a space
abbrev pub IsWord : List ℕ → Type 0
IsWord text = All (λ byte. byte ≢ space) text

-- a decimal number up to MAX_SNAP, where 0 stands for the largest
abbrev pub IsSnap : List ℕ → ℕ → Type 0
IsSnap text snap = (n : ℕ) × IsNumber MAX_SNAP text n × (snap ≡ effective_snaplen n)

-- a decimal number, and after it an `i` for the mode Immediate
abbrev pub IsCapacity : List ℕ → ℕ → Mode → Type 0
IsCapacity text capacity Buffered = IsNumber (2 ^ 64 - 1) text capacity
IsCapacity text capacity Immediate = (digits : List ℕ) × (text ≡ digits ++ codes "i") × IsNumber (2 ^ 64 - 1) digits capacity
