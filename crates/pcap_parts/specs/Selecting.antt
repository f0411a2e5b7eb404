-- Which parts are selected, of all that were cut.
use Rattle.std.specs.Prelude.{◌≡◌, ◌≢◌, ℕ, ◌<◌, List, [], ◌∷◌, ◌++◌, None, ◌⊎◌, ⊤}
use Rattle.pcap_parts.specs.declared.join.Joined.{Joined}
use Rattle.pcap_parts.specs.declared.join.Misfit.{Misfit}
use Rattle.pcap_parts.specs.declared.join.Misfit.TheVariants.{Missing}
use Rattle.pcap_parts.specs.declared.part.PartCut.{PartCut}
use Rattle.pcap_parts.specs.declared.select.SelectionFault.{SelectionFault}
use Rattle.pcap_parts.specs.declared.select.SelectionFault.TheVariants as fault
use Rattle.pcap_parts.specs.Joining.{begun, joined, Fits, IsMisfit, IsWhole}

-- a part is passed over: a fault ended those before, or it begins inside them
abbrev pub IsPassed : Joined → PartCut → Type 0
IsPassed j p = (j.fault ≢ None) ⊎ (p.first < j.next)

-- Of some parts, one after the other, each that follows is taken, and the others are passed over.
abbrev pub Takes : Joined → (parts taken : List PartCut) → Joined → Type 0
Takes j [] taken k = (taken ≡ []) × (k ≡ j)
Takes j (p ∷ ps) taken k =
    ((others : List PartCut) × (taken ≡ p ∷ others) × Fits j p × Takes (joined j p) ps others k) ⊎ (IsPassed j p × Takes j ps taken k)

-- Of these parts those are taken that follow each other from the header on: the whole capture, of `size` bytes. There is one at least.
abbrev pub Selects : ℕ → (parts taken : List PartCut) → Joined → Type 0
Selects size parts taken whole = Takes (begun size) parts taken whole × IsWhole whole × (taken ≢ [])

-- why the parts that are left do not go on where those that were taken end; none is left, and what was taken is not the whole, or nothing
abbrev pub Stops : List PartCut → Joined → List PartCut → Misfit → Type 0
Stops taken j (p ∷ ps) misfit = IsMisfit j p misfit
Stops taken j [] (Missing at) = (at ≡ j.next) × ((taken ≡ []) ⊎ (IsWhole j → ⊥))
Stops taken j [] other = ⊥

-- of the parts up to one some are taken, and that one does not follow
pub record StopsAt (size : ℕ) (parts : List PartCut) (misfit : Misfit) : Type 0 where
  pub before : List PartCut
  pub left : List PartCut
  pub are : parts ≡ before ++ left
  pub taken : List PartCut
  pub joined : Joined
  pub takes : Takes (begun size) before taken joined
  pub stops : Stops taken joined left misfit

-- why no parts are selected; or memory was refused
abbrev pub IsUnfit : ℕ → List PartCut → SelectionFault → Type 0
IsUnfit size parts (fault.Misfit misfit) = StopsAt size parts misfit
IsUnfit size parts fault.NoMemory = ⊤
