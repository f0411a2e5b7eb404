-- A playlist with one capture more.
use Rattle.std.proofs.Common.{◌≡◌, ℕ, ◌+◌, List, [], ◌∷◌, ◌++◌, Option, Some, None, ◌⊎◌, inl, inr, length, option_map, refl, ap, sym, ◌∙◌, subst, true, false, append_assoc, append-nil, arith, zero, suc, map, take, get_or, ◌<◌, length-take}
use Rattle.savefile.specs.declared.fault.Fault.{Fault}
use Rattle.savefile.specs.declared.packet.Packet.{Packet}
use Rattle.savefile.specs.Savefile.{RefusesHeader, IsCapture}
use Rattle.std.specs.Prelude.{is_some, Result, Ok, Err, OnOk}
use Rattle.std.specs.Borrow.{Bor}
use Rattle.std.specs.List.{slice_get, AllByRecursion}
use Rattle.std.proofs.lemmas.List.{take_more, map-append, length-map}
use Rattle.std.proofs.lemmas.Option.{slice_get-map, slice_get-get_or}
use Rattle.tap_steps.specs.Playlist.{RefusesCapture, placed, IsPlaylist, NoHeaderIsRefused}
use Rattle.tap_steps.specs.declared.fault.PlaylistFault.{PlaylistFault}
use Rattle.tap_steps.specs.declared.fault.PlaylistFault.TheVariants as faults
use Rattle.std.proofs.lemmas.Bool.{false≢true}
use Rattle.tap_steps.specs.Watching.{AllPackets}
use Rattle.tap_steps.specs.declared.playlist.PlacedPacket.{PlacedPacket}

pub placed-push : (n place : ℕ) (ps : List Packet) (p : Packet) → placed n place (ps ++ p ∷ []) ≡ placed n place ps ++ record { capture = n; place = place + length ps; packet = p } ∷ []
placed-push n place [] p = (λ i. record { capture = n; place = (let e : place ≡ place + 0 = omega arith in e) i; packet = p } ∷ [])
placed-push n place (q ∷ ps) p = ap (λ (l : List PlacedPacket). record { capture = n; place = place; packet = q } ∷ l)
    (placed-push n (place + 1) ps p ∙ ap (λ (k : ℕ). placed n (place + 1) ps ++ record { capture = n; place = k; packet = p } ∷ []) (let e : (place + 1) + length ps ≡ place + length (q ∷ ps) = omega arith in e))

-- what holds at each place holds of each byte
pub bytes_each : (bytes : List ℕ) → ((k : ℕ) → get_or bytes k 0 < 256) → AllByRecursion (λ b. b < 256) bytes
bytes_each [] h = tt
bytes_each (b ∷ bytes) h = (h zero, bytes_each bytes (λ k. h (suc k)))

-- none before has a record fault: its packets follow, and its fault ends the playlist
next_last : (n : ℕ) (text : List ℕ) (packets : List Packet) (fault : Option Fault) → IsCapture text packets fault →
    IsPlaylist n (text ∷ []) (placed n 0 packets) (option_map (λ f. (n, f)) fault)
next_last n text packets None r = inl (packets, [], r, sym (append-nil (placed n 0 packets)), (refl, refl))
next_last n text packets (Some fault) r = inr (packets, fault, r, refl, refl)

pub playlist-push : (n : ℕ) (texts : List (List ℕ)) (list : List PlacedPacket) (text : List ℕ) (packets : List Packet) (fault : Option Fault) (m : ℕ) → m ≡ n + length texts →
    IsPlaylist n texts list None → IsCapture text packets fault →
    IsPlaylist n (texts ++ text ∷ []) (list ++ placed m 0 packets) (option_map (λ f. (m, f)) fault)
playlist-push n [] list text packets fault m is p reading = rw (p.0, (let e : m ≡ n = omega arith in e)) (next_last n text packets fault reading)
playlist-push n (t ∷ texts) list text packets fault m is (inl (ps, more, reads, e, rest)) reading =
    inl (
      ps,
      more ++ placed m 0 packets,
      reads,
      ap (λ (l : List PlacedPacket). l ++ placed m 0 packets) e ∙ append_assoc (placed n 0 ps) more (placed m 0 packets),
      playlist-push (n + 1) texts more text packets fault m (omega arith) rest reading,
    )
playlist-push n (t ∷ texts) list text packets fault m is (inr (ps, f, reads, e, record_fault)) reading = absurd (cc)

-- one before has a record fault
pub playlist-ended : (n : ℕ) (texts : List (List ℕ)) (list : List PlacedPacket) (record_fault : Option (ℕ × Fault)) (t : ℕ × Fault) (text : List ℕ) → record_fault ≡ Some t →
    IsPlaylist n texts list record_fault → IsPlaylist n (texts ++ text ∷ []) list record_fault
playlist-ended n [] list record_fault t text is p = absurd (let e : Some t ≡ None = sym is ∙ p.1 in cc)
playlist-ended n (s ∷ texts) list record_fault t text is (inl (ps, more, reads, e, rest)) = inl (ps, more, reads, e, playlist-ended (n + 1) texts more record_fault t text is rest)
playlist-ended n (s ∷ texts) list record_fault t text is (inr last) = inr last

pub stand-push : (texts : List (List ℕ)) (text : List ℕ) → NoHeaderIsRefused texts → ((fault : Fault) → RefusesHeader text fault → ⊥) → NoHeaderIsRefused (texts ++ text ∷ [])
stand-push [] text h s = (s, tt)
stand-push (t ∷ texts) text h s = (h.0, stand-push texts text h.1 s)

pub packets-push : (ps : List PlacedPacket) (p : PlacedPacket) → AllPackets ps → AllByRecursion (λ byte. byte < 256) p.packet.bytes → AllPackets (ps ++ p ∷ [])
packets-push [] p h i = (i, tt)
packets-push (q ∷ ps) p h i = (h.0, packets-push ps p h.1 i)

pub playlist-ended-by : (n : ℕ) (texts : List (List ℕ)) (list : List PlacedPacket) (record_fault : Option (ℕ × Fault)) (text : List ℕ) → is_some record_fault ≡ true →
    IsPlaylist n texts list record_fault → IsPlaylist n (texts ++ text ∷ []) list record_fault
playlist-ended-by n texts list None text is p = absurd (false≢true is)
playlist-ended-by n texts list (Some t) text is p = playlist-ended n texts list (Some t) t text refl p

pub none_by : (record_fault : Option (ℕ × Fault)) → is_some record_fault ≡ false → record_fault ≡ None
none_by None is = refl
none_by (Some t) is = absurd (false≢true (sym is))

-- what holds anyway holds under an Ok
pub ok_anyway : {T E : Type 0} (r : Result T E) (P : Type 0) → P → OnOk r P
ok_anyway (Ok x) P p = p
ok_anyway (Err e) P p = tt

-- ---- Captures as they are handed in

module _ (captures : List (Bor (List ℕ))) (n : ℕ) (d : Bor (List ℕ)) (below : n < length captures) where
  pub one_more : map (λ c. c.now) (take (n + 1) captures) ≡ map (λ c. c.now) (take n captures) ++ (get_or captures n d).now ∷ []
  one_more = ap (map (λ c. c.now)) (take_more captures n d below) ∙ map-append (λ c. c.now) (take n captures) (get_or captures n d ∷ [])

  pub this_one : slice_get (map (λ c. c.now) captures) n ≡ Some (get_or captures n d).now
  this_one = slice_get-map (λ c. c.now) captures n ∙ ap (option_map (λ c. c.now)) (slice_get-get_or captures n d below)

  pub as_many : length (map (λ c. c.now) (take n captures)) ≡ n
  as_many = length-map (take n captures) (λ c. c.now) ∙ (let e : length (take n captures) ≡ n = omega (arith, length-take n captures) in e)

pub refuses_capture : (texts : List (List ℕ)) (n : ℕ) (text : List ℕ) (f : PlaylistFault) → slice_get texts n ≡ Some text → NoHeaderIsRefused (take n texts) →
    (f ≡ faults.NoMemory) ⊎ ((fault : Fault) × (f ≡ faults.Capture n fault) × RefusesHeader text fault) → (f ≡ faults.NoMemory) ⊎ RefusesCapture texts f
refuses_capture texts n text f here before (inl none) = inl none
refuses_capture texts n text f here before (inr (fault, is, why)) = inr (subst (RefusesCapture texts) (sym is) (text, here, why, before))
