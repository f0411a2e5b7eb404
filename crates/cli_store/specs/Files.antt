-- What files have before and after a call.
use Rattle.std.specs.Prelude.{◌≡◌, ◌≢◌, ◌⊎◌, ℕ, ◌<◌, Bool, true, List, [], ◌∷◌, length, take, Option, Some, None, All, ⊤}
use Rattle.std.specs.List.{Any}
use Rattle.std.specs.Borrow.{Bor}
use Rattle.savefile.specs.Savefile.{RefusesHeader}
use Rattle.savefile.specs.Writer.{IsBeginning}
use Rattle.savefile.specs.declared.fault.Fault.{Fault}
use Rattle.cli_files.specs.Reading.{IsRefusedMemory}
use Rattle.cli_files.specs.declared.paths.Opening.{Opening}
use Rattle.cli_files.specs.declared.paths.Opening.TheVariants.{First, Late}
use Rattle.cli_files.specs.declared.paths.PathFault.{PathFault}
use Rattle.cli_files.specs.declared.paths.PathFault.TheVariants.{Same, Printed, Unknown, NoMemory}

-- what is at each place
abbrev pub Texts : Type 0
Texts = List ℕ → Option (List ℕ)

-- where each path leads
abbrev pub Places : Type 0
Places = List ℕ → List ℕ

-- no path leads elsewhere, no file changed, and none was made or closed
abbrev pub Keeps : Places → Places → Texts → Texts → ℕ → ℕ → Type 0
Keeps place-old place-new old new pending-old pending-new = (place-new ≡ place-old) × (new ≡ old) × (pending-new ≡ pending-old)

-- the bytes of a file; of none there are none
abbrev pub bytes_of : Option (List ℕ) → List ℕ
bytes_of None = []
bytes_of (Some bytes) = bytes

-- what is read of a capture: the 24 bytes of its file header if these are refused, and else all of it
abbrev pub IsCaptureRead : List ℕ → List ℕ → Type 0
IsCaptureRead whole bytes =
    (((fault : Fault) × RefusesHeader (take 24 whole) fault) × (bytes ≡ take 24 whole))
    ⊎ (((fault : Fault) → RefusesHeader (take 24 whole) fault → ⊥) × (bytes ≡ whole))

-- a path that is read leads to another file than OUT; where files are opened first, it may also lead to none
abbrev pub IsApart : Opening → Places → Texts → List ℕ → List ℕ → Type 0
IsApart First place text output path = (text (place path) ≡ None) ⊎ (place path ≢ place output)
IsApart Late place text output path = place path ≢ place output

-- standard output goes to another file than the one at a path that is read; where files are opened first, it may also lead to none
abbrev pub IsUnprinted : Opening → Places → Texts → Option (List ℕ) → List ℕ → Type 0
IsUnprinted First place text printed path = (text (place path) ≡ None) ⊎ (printed ≢ Some (place path))
IsUnprinted Late place text printed path = printed ≢ Some (place path)

-- no two of these paths lead to one file
abbrev pub HaveOwnPlaces : Places → List (Bor (List ℕ)) → Type 0
HaveOwnPlaces place [] = ⊤
HaveOwnPlaces place (p ∷ ps) = All (λ other. place other.now ≢ place p.now) ps × HaveOwnPlaces place ps

-- Why an OUT is refused: a path that is read leads to its file, another OUT does, or standard output goes there.
abbrev pub IsLost : Places → Option (List ℕ) → Bool → List (Bor (List ℕ)) → List (Bor (List ℕ)) → Type 0
IsLost place printed prints read outputs =
    Any (λ output. Any (λ path. place path.now ≡ place output.now) read) outputs
    ⊎ (HaveOwnPlaces place outputs → ⊥)
    ⊎ ((prints ≡ true) × Any (λ output. printed ≡ Some (place output.now)) outputs)

-- Why paths are refused: an OUT would be lost, or standard output goes to a file that is read; or a device failed, or memory was refused.
abbrev pub IsRefusal : Places → Option (List ℕ) → Bool → Bool → List (Bor (List ℕ)) → List (Bor (List ℕ)) → PathFault → Type 0
IsRefusal place printed failed prints read outputs (Same path taken_for) = IsLost place printed prints read outputs
IsRefusal place printed failed prints read outputs (Printed path) = (prints ≡ true) × Any (λ input. printed ≡ Some (place input.now)) read
IsRefusal place printed failed prints read outputs (Unknown path error) = IsRefusedMemory error ⊎ (failed ≡ true)
IsRefusal place printed failed prints read outputs NoMemory = ⊤

-- A path that could not be compared is the one that was denied; or memory was refused.
abbrev pub NamesDenied : Places → Option (List ℕ) → PathFault → Type 0
NamesDenied place denied (Unknown path error) = IsRefusedMemory error ⊎ (denied ≡ Some (place path.now))
NamesDenied place denied other = ⊤

-- what is read at a place where a file may be missing
abbrev pub text_at : Texts → List ℕ → List ℕ
text_at text at = bytes_of (text at)

-- the file at a place was made of these bytes; of none it is as it was
abbrev pub StoresAt : Texts → Texts → List ℕ → List ℕ → Type 0
StoresAt old new at bytes = (bytes ≡ [] → new at ≡ old at) × (0 < length bytes → new at ≡ Some bytes)

-- the file at a place is as it was, or was made of a beginning of these bytes; of none it is as it was
abbrev pub BeginsAt : Texts → Texts → List ℕ → List ℕ → Type 0
BeginsAt old new at bytes =
    (bytes ≡ [] → new at ≡ old at) × ((new at ≡ old at) ⊎ ((front : List ℕ) × (new at ≡ Some front) × IsBeginning front bytes))
