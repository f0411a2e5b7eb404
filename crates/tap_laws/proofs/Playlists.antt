-- What threads read of captures is the playlist that steps replay.
use Rattle.std.proofs.Common.{◌≡◌, ◌⊎◌, inl, inr, ℕ, ◌+◌, List, [], ◌∷◌, ◌++◌, map, Option, Some, None, IfSome, refl, sym, ap, ◌∙◌, subst}
use Rattle.std.proofs.lemmas.List.{append-nil}
use Rattle.listener.specs.Messages.{Arrival, arrival}
use Rattle.savefile.specs.Reader.{WasRead}
use Rattle.savefile.specs.Savefile.{Holds, RefusesHeader, IsCapture}
use Rattle.savefile.specs.declared.fault.Fault.{Fault}
use Rattle.savefile.specs.declared.fault.Fault.TheVariants as fault
use Rattle.savefile.specs.declared.header.Header.{Header}
use Rattle.savefile.specs.declared.packet.Packet.{Packet}
use Rattle.replay.specs.Captures.{arrivals_from, IsStopped, GivesPlaylist}
use Rattle.replay_types.specs.declared.report.InterfaceEnd.{InterfaceEnd}
use Rattle.replay_types.specs.declared.report.InterfaceEnd.TheVariants.{Clean, Capture, CountFull}
use Rattle.tap_steps.specs.OwnSteps.{arrival_of}
use Rattle.tap_steps.specs.Playlist.{placed, IsPlaylist}
use Rattle.tap_steps.specs.declared.playlist.PlacedPacket.{PlacedPacket}
use Rattle.tap_laws.specs.Laws.{EndsAs}

-- the packets of a capture arrive as they are placed
arrive-placed : (n place : ℕ) (ps : List Packet) (more : List PlacedPacket) → arrivals_from n place ps ++ map arrival_of more ≡ map arrival_of (placed n place ps ++ more)
arrive-placed n place [] more = refl
arrive-placed n place (p ∷ ps) more = ap (λ (as' : List Arrival). arrival n place p ∷ as') (arrive-placed n (place + 1) ps more)

-- what was read of a source is what its text holds
reads-text : (left : Option (List ℕ)) (text : List ℕ) (header : Header) (ps : List Packet) (end : Option Fault) → left ≡ Some text → WasRead left header ps end → IsCapture text ps end
reads-text None text header ps end told w = cc
reads-text (Some bytes) text header ps end told w =
    let same : w.text ≡ text = sym w.told ∙ cc in record {
      order = header.order;
      unit = header.unit;
      snap = header.snap;
      holds = subst (λ (t : List ℕ). Holds t header.order header.unit header.snap ps end) same w.holds;
    }

-- why captures end for what stands in them
abbrev OfRecord : Fault → Type 0
OfRecord why = ((t : List ℕ) → RefusesHeader t why → ⊥) × (why ≡ fault.Device → ⊥) × (why ≡ fault.NoMemory → ⊥)

-- a capture stopped at a torn or bad record after these packets
stopped-reads : (left : Option (List ℕ)) (source_failed : Type 0) (text : List ℕ) (ps : List Packet) (why : Fault) → OfRecord why → left ≡ Some text → IsStopped left source_failed ps why → IsCapture text ps (Some why)
stopped-reads left source_failed text ps why (header, device, memory) told (inl (refused, none)) = absurd (header refused.text refused.refused)
stopped-reads left source_failed text ps why (header, device, memory) told (inr (inl (head, read))) = reads-text left text head ps (Some why) told read
stopped-reads left source_failed text ps why (header, device, memory) told (inr (inr (inl (is, broken, more)))) = absurd (device is)
stopped-reads left source_failed text ps why (header, device, memory) told (inr (inr (inr (is, none)))) = absurd (memory is)

-- such an end is reported with the capture's number
ends-at : (k : ℕ) (why : Fault) (record_fault : Option (ℕ × Fault)) → EndsAs (Capture k why) record_fault → OfRecord why × (record_fault ≡ Some (k, why))
ends-at k (fault.TornRecord place) record_fault e = (((λ t r. r), (λ is. cc), (λ is. cc)), e)
ends-at k (fault.BadFraction place) record_fault e = (((λ t r. r), (λ is. cc), (λ is. cc)), e)
ends-at k (fault.TooLong place) record_fault e = (((λ t r. r), (λ is. cc), (λ is. cc)), e)
ends-at k fault.ShortHeader record_fault e = absurd e
ends-at k fault.NotSavefile record_fault e = absurd e
ends-at k fault.Version record_fault e = absurd e
ends-at k fault.LinkType record_fault e = absurd e
ends-at k fault.NoMemory record_fault e = absurd e
ends-at k fault.Device record_fault e = absurd e
ends-at k fault.Failed record_fault e = absurd e
ends-at k fault.CountFull record_fault e = absurd e

pub gives_one_playlist : {S : Type 0} (left : S → Option (List ℕ)) (failures : S → ℕ) (texts : List (List ℕ)) (total n : ℕ) (before after : List S) (arrivals : List Arrival)
    (end : InterfaceEnd) (record_fault : Option (ℕ × Fault)) → map left before ≡ map Some texts → GivesPlaylist left failures total n before after arrivals end → EndsAs end record_fault
    → (playlist : List PlacedPacket) × IsPlaylist n texts playlist record_fault × (arrivals ≡ map arrival_of playlist)
gives_one_playlist left failures [] total n [] [] arrivals end record_fault told (none, clean) ends =
    ([], (refl, subst (λ (e : InterfaceEnd). EndsAs e record_fault) clean ends), none)
gives_one_playlist left failures [] total n [] (t ∷ ts) arrivals end record_fault told plays ends = absurd plays
gives_one_playlist left failures [] total n (s ∷ ss) after arrivals end record_fault told plays ends = cc
gives_one_playlist left failures (text ∷ texts) total n [] after arrivals end record_fault told plays ends = cc
gives_one_playlist left failures (text ∷ texts) total n (s ∷ ss) [] arrivals end record_fault told plays ends = absurd plays
gives_one_playlist left failures (text ∷ texts) total n (s ∷ ss) (t ∷ ts) arrivals end record_fault told (ps, more, is, inl (((header, read), back), rest)) ends =
    let first : left s ≡ Some text = cc in
    let others : map left ss ≡ map Some texts = cc in
    let (list, playlist, same) = gives_one_playlist left failures texts total (n + 1) ss ts more end record_fault others rest ends in (
      placed n 0 ps ++ list,
      inl (ps, list, reads-text (left s) text header ps None first read, refl, playlist),
      is ∙ ap (λ (as' : List Arrival). arrivals_from n 0 ps ++ as') same ∙ arrive-placed n 0 ps list,
    )
gives_one_playlist left failures (text ∷ texts) total n (s ∷ ss) (t ∷ ts) arrivals Clean record_fault told (ps, more, is, inr ((bad, back), none, kept)) ends = absurd bad
gives_one_playlist left failures (text ∷ texts) total n (s ∷ ss) (t ∷ ts) arrivals (Capture k why) record_fault told (ps, more, is, inr (((at, failed, full, stopped), back), none, kept)) ends =
    let first : left s ≡ Some text = cc in
    let (of_record, same) = ends-at k why record_fault ends in (
      placed n 0 ps,
      inr (ps, why, stopped-reads (left s) _ text ps why of_record first stopped, refl, same ∙ ap (λ (i : ℕ). Some (i, why)) at),
      is ∙ ap (λ (as' : List Arrival). arrivals_from n 0 ps ++ as') none ∙ arrive-placed n 0 ps [] ∙ ap (map arrival_of) (append-nil (placed n 0 ps)),
    )
gives_one_playlist left failures (text ∷ texts) total n (s ∷ ss) (t ∷ ts) arrivals CountFull record_fault told plays ends = absurd ends
