-- What is written of the cuts of parts.
use Rattle.std.specs.Prelude.{◌≡◌, ◌≢◌, ℕ, List, [], ◌∷◌, ◌++◌, length, Option, Some, All, ⊤}
use Rattle.std.specs.List.{AllZip, Contains, concat}
use Rattle.std.specs.Io.KnownBytes.{Appends}
use Rattle.bpfvm.specs.declared.insn.Insn.{Insn}
use Rattle.savefile.specs.declared.header.Order.{Order}
use Rattle.savefile.specs.declared.header.Unit.{Unit as TimeUnit}
use Rattle.savefile.specs.declared.packet.Packet.{Packet}
use Rattle.pcap_cut.specs.Cut.{cut_text}
use Rattle.pcap_parts.specs.declared.part.PartCut.{PartCut}
use Rattle.pcap_parts.specs.declared.writing.WriteFault.{WriteFault}
use Rattle.pcap_parts.specs.declared.writing.WriteFault.TheVariants.{OtherHeader, OtherSize, Unread, Output, NoMemory}
use Rattle.pcap_parts.specs.Copying.{IsOtherSize}
use Rattle.pcap_parts.specs.Whole.{all_of}

-- what is at each path
abbrev pub Texts : Type 0
Texts = List ℕ → Option (List ℕ)

-- of one of these parts this is so
abbrev pub OneOf : (PartCut → Type 0) → List PartCut → Type 0
OneOf Holds parts = (part : PartCut) × Contains parts part × Holds part

-- the file of a part begins with this header
abbrev pub HasHeader : Texts → List ℕ → PartCut → Type 0
HasHeader text header part = (length header ≡ 24) × (body : List ℕ) × (text part.file.now ≡ Some (header ++ body))

-- the files of all parts begin with one header
abbrev pub HaveOneHeader : Texts → List PartCut → Type 0
HaveOneHeader text parts = (header : List ℕ) × All (HasHeader text header) parts

-- the file of a part is this header and this body, as many bytes as its line says
abbrev pub HasBody : Texts → List ℕ → PartCut → List ℕ → Type 0
HasBody text header part body = (text part.file.now ≡ Some (header ++ body)) × (part.sent ≡ length (header ++ body))

-- the same, whatever the header is
abbrev pub HasOwnBody : Texts → PartCut → List ℕ → Type 0
HasOwnBody text part body = (header : List ℕ) × (length header ≡ 24) × HasBody text header part body

-- a sink took the body of a part
abbrev pub TookBody : Texts → Option (List ℕ) → Option (List ℕ) → PartCut → Type 0
TookBody text old new part = (body : List ℕ) × HasOwnBody text part body × Appends old new body

-- a sink took the bodies of parts, one after the other
abbrev pub TookBodies : Texts → Option (List ℕ) → Option (List ℕ) → List PartCut → Type 0
TookBodies text old new parts = (bodies : List (List ℕ)) × AllZip (HasOwnBody text) parts bodies × Appends old new (concat bodies)

-- A sink took the header that the files of all parts have, and then the body of each part, in their order.
pub record IsWritten (text : Texts) (old new : Option (List ℕ)) (parts : List PartCut) : Type 0 where
  pub header : List ℕ
  pub header_size : length header ≡ 24
  pub bodies : List (List ℕ)
  pub have : AllZip (HasBody text header) parts bodies
  pub took : Appends old new (header ++ concat bodies)

-- a fault of the file of a part: it could not be read, or has another size than its line says; or it is one of the sink, or of memory
abbrev pub IsFileFault : {E : Type 0} → Texts → WriteFault E → PartCut → Type 0
IsFileFault text (OtherHeader path) part = ⊥
IsFileFault text (OtherSize path) part =
    (path.now ≡ part.file.now) × ((bytes : List ℕ) × (text part.file.now ≡ Some bytes) × IsOtherSize part.sent bytes)
IsFileFault text (Unread path failure) part = path.now ≡ part.file.now
IsFileFault text Output part = ⊤
IsFileFault text NoMemory part = ⊤

-- why the files of parts do not all begin with this header
abbrev pub IsHeaderFault : {E : Type 0} → Texts → List PartCut → List ℕ → WriteFault E → Type 0
IsHeaderFault text parts header (OtherHeader path) =
    OneOf (λ part. (path.now ≡ part.file.now) × ((found : List ℕ) × HasHeader text found part × (found ≢ header))) parts
IsHeaderFault text parts header other = OneOf (IsFileFault text other) parts

-- this header is another one than that of the first part
abbrev pub IsOtherHeader : Texts → List PartCut → List ℕ → Type 0
IsOtherHeader text [] found = ⊥
IsOtherHeader text (first ∷ others) found = (header : List ℕ) × HasHeader text header first × (found ≢ header)

-- a part's file has another header than that of the first one
abbrev pub IsOdd : Texts → List PartCut → PartCut → Type 0
IsOdd text parts part = (found : List ℕ) × HasHeader text found part × IsOtherHeader text parts found

-- why the cuts of parts are not written as one: not all have one header, the file of one is another one, the sink failed, or memory was refused
abbrev pub IsWriteFault : {E : Type 0} → Texts → List PartCut → WriteFault E → Type 0
IsWriteFault text parts (OtherHeader path) = OneOf (λ part. (path.now ≡ part.file.now) × IsOdd text parts part) parts × (HaveOneHeader text parts → ⊥)
IsWriteFault text parts Output = ⊤
IsWriteFault text parts NoMemory = ⊤
IsWriteFault text parts other = OneOf (IsFileFault text other) parts

-- If the file of each part is the cut of its packets, what is written of all parts is the cut of the packets of all.
abbrev pub JoinsTheCut : Type 0
JoinsTheCut =
    (text : Texts) (program : List Insn) (snap : ℕ) (order : Order) (unit : TimeUnit) (parts : List PartCut) (lists : List (List Packet)) (new : List ℕ)
    → parts ≢ [] → AllZip (λ part packets. text part.file.now ≡ Some (cut_text program snap order unit packets)) parts lists
    → IsWritten text (Some []) (Some new) parts → new ≡ cut_text program snap order unit (all_of lists)
