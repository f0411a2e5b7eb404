-- The sizes of the files of parts.
use Rattle.std.proofs.Common.{◌≡◌, ◌≢◌, ℕ, ◌+◌, ◌<◌, List, length, take, get_or, All, Option, Some, None, option_map, refl, sym, ap, subst, ◌∙◌}
use Rattle.std.proofs.lemmas.List.{take_more}
use Rattle.std.proofs.lemmas.List.Elements.{All-push}
use Rattle.pcap_parts.specs.declared.part.PartCut.{PartCut}
use Rattle.pcap_parts.specs.Writing.{Texts}
use Rattle.cli_parts.specs.Joined.{HasSize}

size_in : (o : Option (List ℕ)) (size : ℕ) → Some size ≡ option_map length o → (bytes : List ℕ) × (o ≡ Some bytes) × (length bytes ≡ size)
size_in None size is = absurd cc
size_in (Some bytes) size is = (bytes, refl, cc)

pub no_size : (text : Texts) (part : PartCut) (size : Option ℕ) → size ≡ option_map length (text part.file.now) → size ≢ Some part.sent → HasSize text part → ⊥
no_size text part size is other (bytes, has, long) = other (is ∙ ap (option_map length) has ∙ ap (λ n. Some n) long)

pub more_sizes : (text : Texts) (parts : List PartCut) (i : ℕ) (d : PartCut) (size : Option ℕ) → i < length parts → All (HasSize text) (take i parts)
    → size ≡ option_map length (text (get_or parts i d).file.now) → size ≡ Some (get_or parts i d).sent → All (HasSize text) (take (i + 1) parts)
more_sizes text parts i d size lt all is same =
    let part = get_or parts i d in
    subst (λ (ps : List PartCut). All (HasSize text) ps) (sym (take_more parts i d lt))
    (All-push (HasSize text) (take i parts) part all (size_in (text part.file.now) part.sent (sym same ∙ is)))
