-- What `join` writes of the parts of LINES, and why it writes nothing.
use Rattle.std.specs.Prelude.{◌≡◌, ℕ, Bool, true, List, length, Option, Some, All, ⊤}
use Rattle.savefile.specs.declared.fault.Fault.{Fault}
use Rattle.pcap_parts.specs.declared.part.PartCut.{PartCut}
use Rattle.pcap_parts.specs.declared.select.Selection.{Selection}
use Rattle.pcap_parts.specs.declared.writing.WriteFault.{WriteFault}
use Rattle.pcap_parts.specs.declared.writing.WriteFault.TheVariants.{OtherHeader, OtherSize, Unread}
use Rattle.pcap_parts.specs.Writing.{Texts, OneOf, HaveOneHeader, IsWriteFault, IsWritten}
use Rattle.cli_parts.specs.Selected.{IsLinesFault, IsSelection}
use Rattle.cli_parts.specs.declared.joining.JoinFault.{JoinFault}
use Rattle.cli_parts.specs.declared.joining.JoinFault.TheVariants.{Lines, Paths, Sizes, Writing}

-- the file of a part has as many bytes as its line says
abbrev pub HasSize : Texts → PartCut → Type 0
HasSize text part = (bytes : List ℕ) × (text part.file.now ≡ Some bytes) × (length bytes ≡ part.sent)

-- the file of a part has not as many, or none could be asked
abbrev pub IsSizeFault : {E : Type 0} → Texts → WriteFault E → PartCut → Type 0
IsSizeFault text (OtherSize path) part = (path.now ≡ part.file.now) × (HasSize text part → ⊥)
IsSizeFault text (Unread path failure) part = path.now ≡ part.file.now
IsSizeFault text other part = ⊥

-- a part is no file that is written
abbrev pub IsApart : (List ℕ → Bool) → PartCut → Type 0
IsApart apart part = apart part.file.now ≡ true

-- Of the parts of LINES those that make a whole capture were written as one: none of their files is OUT, each has as many bytes as its line says, and the
-- fault is the one that they have together.
pub record IsJoined (text : Texts) (apart : List ℕ → Bool) (old new : Option (List ℕ)) (lines : List ℕ) (fault : Option Fault) : Type 0 where
  pub selection : Selection
  pub selects : IsSelection lines selection
  pub others : All (IsApart apart) selection.parts.items
  pub sizes : All (HasSize text) selection.parts.items
  pub written : IsWritten text old new selection.parts.items
  pub ends : fault ≡ selection.whole.fault

-- of the parts of LINES that make a whole capture this is so
abbrev pub OfSelected : List ℕ → (List PartCut → Type 0) → Type 0
OfSelected lines Holds = (selection : Selection) × IsSelection lines selection × Holds selection.parts.items

-- why they were not
abbrev pub IsJoinFault : {E : Type 0} → Texts → List ℕ → JoinFault E → Type 0
IsJoinFault text lines (Lines fault) = IsLinesFault lines fault
IsJoinFault text lines (Paths fault) = ⊤
IsJoinFault text lines (Sizes fault) = OfSelected lines (OneOf (IsSizeFault text fault))
IsJoinFault text lines (Writing fault) = OfSelected lines (λ parts. IsWriteFault text parts fault)

-- nothing was written unless the files of all parts have one header
abbrev pub IsKept : {W : Type 0} → Texts → List ℕ → W → W → Type 0
IsKept text lines old new = OfSelected lines (λ parts. (HaveOneHeader text parts → ⊥) → new ≡ old)

-- if the parts were to be written this is so
abbrev pub IfWriting : {E : Type 0} → JoinFault E → Type 0 → Type 0
IfWriting (Writing fault) A = A
IfWriting other A = ⊤

-- nothing was written before this fault was found
abbrev pub IsBefore : {E : Type 0} → JoinFault E → Type 0
IsBefore (Writing (OtherHeader path)) = ⊤
IsBefore (Writing other) = ⊥
IsBefore other = ⊤
