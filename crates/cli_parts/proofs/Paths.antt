-- The paths of the files that `join` reads.
use Rattle.std.proofs.Common.{◌≡◌, ℕ, ◌+◌, ◌<◌, ◌≤◌, List, [], ◌∷◌, ◌++◌, length, map, take, get_or, ap, sym, ◌∙◌}
use Rattle.std.proofs.lemmas.List.{map-append, take_all, take_more}
use Rattle.std.specs.Borrow.{Bor}
use Rattle.pcap_parts.specs.declared.part.PartCut.{PartCut}

abbrev pub text_of : Bor (List ℕ) → List ℕ
text_of path = path.now

-- the path of a part's file
abbrev pub path_of : PartCut → List ℕ
path_of part = part.file.now

pub next_path : (lines : List ℕ) (paths : List (Bor (List ℕ))) (parts : List PartCut) (i : ℕ) (d : PartCut) → i < length parts
    → map text_of paths ≡ lines ∷ map path_of (take i parts) → map text_of (paths ++ (get_or parts i d).file ∷ []) ≡ lines ∷ map path_of (take (i + 1) parts)
next_path lines paths parts i d lt same =
    map-append text_of paths ((get_or parts i d).file ∷ [])
    ∙ ap (λ (ps : List (List ℕ)). ps ++ path_of (get_or parts i d) ∷ []) same
    ∙ ap (λ (ps : List (List ℕ)). lines ∷ ps) (sym (map-append path_of (take i parts) (get_or parts i d ∷ [])) ∙ ap (map path_of) (sym (take_more parts i d lt)))

pub all_paths : (lines : List ℕ) (paths : List (Bor (List ℕ))) (parts : List PartCut) (i : ℕ) → length parts ≤ i
    → map text_of paths ≡ lines ∷ map path_of (take i parts) → map text_of paths ≡ lines ∷ map path_of parts
all_paths lines paths parts i end same = same ∙ ap (λ (ps : List PartCut). lines ∷ map path_of ps) (take_all i parts end)
