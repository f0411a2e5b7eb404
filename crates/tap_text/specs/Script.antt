-- The file SCRIPT.
use Rattle.std.specs.Prelude.{◌≡◌, ◌≢◌, ℕ, ◌∷◌, ◌++◌, List, codes}
use Rattle.bpfvm.specs.Listing.{space, IsNumber}
use Rattle.tap_steps.specs.declared.step.Step.{Step}
use Rattle.tap_steps.specs.declared.step.Step.TheVariants.{Arrive, Flush, Read, Close}
use Rattle.line_text.specs.declared.fault.LineFault.{LineFault}
use Rattle.line_text.specs.declared.fault.LineFault.TheVariants.{Listeners, Script, NoMemory}
use Rattle.line_text.specs.Files.{IsFirstBad}

-- a word, a space and a decimal number up to 4,294,967,295
abbrev pub IsWordOf : List ℕ → List ℕ → ℕ → Type 0
IsWordOf line word l = (digits : List ℕ) × (line ≡ word ++ space ∷ digits) × IsNumber 4294967295 digits l

-- `arrive`, `flush L`, `read L` or `close L`
abbrev pub IsStepLine : List ℕ → Step → Type 0
IsStepLine line Arrive = line ≡ codes "arrive"
IsStepLine line (Flush l) = IsWordOf line (codes "flush") l
IsStepLine line (Read l) = IsWordOf line (codes "read") l
IsStepLine line (Close l) = IsWordOf line (codes "close") l

-- the word of a step that names a listener
abbrev pub IsNamed : List ℕ → ℕ → Step → Type 0
IsNamed word l Arrive = ⊥
IsNamed word l (Flush n) = (word ≡ codes "flush") × (n ≡ l)
IsNamed word l (Read n) = (word ≡ codes "read") × (n ≡ l)
IsNamed word l (Close n) = (word ≡ codes "close") × (n ≡ l)

-- no step that names a listener has this word
abbrev pub NamesNone : List ℕ → Type 0
NamesNone word = (word ≢ codes "flush") × (word ≢ codes "read") × (word ≢ codes "close")

-- why a script is not taken: the first bad line, or memory ran out
abbrev pub IsRefusedScript : List ℕ → LineFault → Type 0
IsRefusedScript text (Script n) = IsFirstBad IsStepLine text n
IsRefusedScript text (Listeners n) = ⊥
IsRefusedScript text NoMemory = Unit {0}
