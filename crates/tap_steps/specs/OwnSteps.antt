-- Of the steps of a replay, those of one listener.
use Rattle.std.specs.Prelude.{◌≡◌, ℕ, ◌<◌, List, [], ◌∷◌, ◌++◌, Option, Some, ◌==◌, if◌then◌else◌, slice_get, take, All}
use Rattle.listener.specs.declared.message.Message.{Message}
use Rattle.listener.specs.Messages.{Arrival, arrival}
use Rattle.listener.specs.PlainList.{Request}
use Rattle.listener.specs.PlainList as P
use Rattle.tap_steps.specs.declared.playlist.PlacedPacket.{PlacedPacket}
use Rattle.tap_steps.specs.declared.step.Step.{Step}
use Rattle.tap_steps.specs.declared.step.Step.TheVariants.{Arrive, Flush, Read, Close}

-- a packet of the playlist as it arrives
abbrev pub arrival_of : PlacedPacket → Arrival
arrival_of p = arrival p.capture p.place p.packet

-- The steps of the listener of this number: all Arrives that take a packet, and its own Flush, Read and Close.
-- `keeps` says what its filter keeps of an arrival. An Arrive takes the next packet, and past the last one none.
abbrev pub own : (Arrival → Option Message) → ℕ → List Step → List PlacedPacket → List Request
own keeps l [] playlist = []
own keeps l (Arrive ∷ steps) [] = own keeps l steps []
own keeps l (Arrive ∷ steps) (p ∷ playlist) = P.Arrive (keeps (arrival_of p)) ∷ own keeps l steps playlist
own keeps l (Flush k ∷ steps) playlist = (if k == l then P.Flush ∷ [] else []) ++ own keeps l steps playlist
own keeps l (Read k ∷ steps) playlist = (if k == l then P.Read ∷ [] else []) ++ own keeps l steps playlist
own keeps l (Close k ∷ steps) playlist = (if k == l then P.Close ∷ [] else []) ++ own keeps l steps playlist

-- a step names one of n listeners, or none
abbrev pub Names : ℕ → Step → Type 0
Names n Arrive = Unit {0}
Names n (Flush l) = l < n
Names n (Read l) = l < n
Names n (Close l) = l < n

-- each step names a listener that there is, or none
abbrev pub AllName : ℕ → List Step → Type 0
AllName n steps = All (Names n) steps

-- the first step that names a listener that there is not
pub record FirstMissing (n : ℕ) (steps : List Step) (place : ℕ) : Type 0 where
  pub step : Step
  pub here : slice_get steps place ≡ Some step
  pub missing : Names n step → ⊥
  pub before : AllName n (take place steps)
