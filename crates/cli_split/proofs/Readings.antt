-- Captures that are read one behind the other.
use Rattle.std.proofs.Common.{◌≡◌, ◌≢◌, ◌↔◌, ◌⊎◌, ◌+◌, ◌<◌, ℕ, List, [], ◌∷◌, ◌++◌, length, refl, ap, sym, ◌∙◌, arith, subst, unwrap_or, Option, Some, None, IfSome, Result, Ok, Err, OnOk, OnErr, true, false, inl, inr}
use Rattle.std.proofs.lemmas.List.{append-nil, append_assoc}
use Rattle.std.proofs.KnownBytes.{Consumes-trans}
use Rattle.std.specs.Io.KnownBytes.{Consumes}
use Rattle.savefile.specs.declared.fault.Fault.{Fault}
use Rattle.savefile.specs.declared.fault.Fault.TheVariants.{Device, NoMemory}
use Rattle.savefile.specs.declared.header.Header.{Header}
use Rattle.savefile.specs.declared.packet.Packet.{Packet}
use Rattle.savefile.specs.declared.reader.Reader.{Reader}
use Rattle.savefile.specs.Reader.{WasRefused}
use Rattle.pcap_cut.proofs.Outcomes.{is-read, stops-behind, told-text}
use Rattle.cli_split.specs.declared.split.Stop.{Stop}
use Rattle.cli_split.specs.declared.split.Stop.TheVariants.{AtHeader, AtRecord}
use Rattle.std.specs.Result.{is_err}
use Rattle.cli_split.specs.Splitting.{passes_header}
use Rattle.cli_split.specs.Reading.{EndsSo, GaveSo, HasOpened, ReadsOne, ReadsAll, ReadsSoFar, end_of}

-- more bytes were taken
pub takes-more : (a b c : Option (List ℕ)) → (bytes : List ℕ) × Consumes a b bytes → (bytes : List ℕ) × Consumes b c bytes → (bytes : List ℕ) × Consumes a c bytes
takes-more a b c p q = (p.0 ++ q.0, Consumes-trans a b c p.0 q.0 p.1 q.1)

-- what a capture came to whose header was read is no fault of its header
pub end-passes : (n : ℕ) (given : Result (Unit {0}) Fault) → passes_header (end_of n given) ≡ true
end-passes n (Ok done) = refl
end-passes n (Err fault) = refl

-- clauses on a result of the other kind
pub ok-not : {A E : Type 0} (r : Result A E) (P : Type 0) → is_err r ≡ true → OnOk r P
ok-not (Ok x) P is = let sound : false ≡ true = is in absurd cc
ok-not (Err e) P is = tt

pub err-not : {A E : Type 0} (r : Result A E) (P : Type 0) → is_err r ≡ false → OnErr r P
err-not (Ok x) P is = tt
err-not (Err e) P is = let failed : true ≡ false = is in absurd cc

pub ok-of : {A E : Type 0} (r : Result A E) (P : Type 0) → P → OnOk r P
ok-of (Ok x) P p = p
ok-of (Err e) P p = tt

pub err-of : {A E : Type 0} (r : Result A E) (P : Type 0) → P → OnErr r P
err-of (Ok x) P p = tt
err-of (Err e) P p = p

module _ {R : Type 0} (left : R → Option (List ℕ)) (failures : R → ℕ) where
  -- the text that a source had left, what it gave of that, and how that ended
  abbrev IsGone : R → R → ℕ → ℕ → List Packet → Result (Unit {0}) Stop → Type 0
  IsGone from to total n packets end =
      (text : List ℕ) × IfSome (left from) (λ bytes. bytes ≡ text) × (given : List ℕ) × Consumes (left from) (left to) given × EndsSo text given total n packets end

  -- a reader that gave packets
  gone-so : (from to : R) (header : Header) (total n : ℕ) (packets : List Packet) (given : Result (Unit {0}) Fault) (bytes : List ℕ) → Consumes (left from) (left to) bytes →
      GaveSo (left from) (left to) header total packets given → IsGone from to total n packets (end_of n given)
  gone-so from to header total n packets (Ok done) bytes took read = (read.text, read.told, bytes, took, is-read (left from) header packets None read)
  gone-so from to header total n packets (Err fault) bytes took (inl read) =
      (read.text, read.told, bytes, took, (refl, inl (is-read (left from) header packets (Some fault) read)))
  gone-so from to header total n packets (Err fault) bytes took (inr ((more, record_fault, read), inl (device, t))) = (
    read.text,
    read.told,
    t.text,
    t.taken,
    (refl, inr (more, record_fault, is-read (left from) header (packets ++ more) record_fault read, inl (device, stops-behind (left from) (left to) header packets t))),
  )
  gone-so from to header total n packets (Err fault) bytes took (inr ((more, record_fault, read), inr full)) =
      (read.text, read.told, bytes, took, (refl, inr (more, record_fault, is-read (left from) header (packets ++ more) record_fault read, inr full)))

  -- a fault of the device is told where the reader met it
  met-device : (n : ℕ) (given : Result (Unit {0}) Fault) → (end_of n given ≡ Err (AtHeader n Device)) ⊎ (end_of n given ≡ Err (AtRecord n Device)) → given ≡ Err Device
  met-device n (Ok done) (inl e) = absurd (cc)
  met-device n (Ok done) (inr e) = absurd (cc)
  met-device n (Err fault) (inl e) = absurd (cc)
  met-device n (Err fault) (inr e) = let same : fault ≡ Device = cc in ap Err same

  -- no fault of its header is told where the header was read
  no-header : (n : ℕ) (fault : Fault) (given : Result (Unit {0}) Fault) → end_of n given ≡ Err (AtHeader n fault) → ⊥
  no-header n fault (Ok done) e = cc
  no-header n fault (Err record_fault) e = cc

  -- a capture whose header was read
  pub reads-opened : (from to behind : R) (reader : Reader R) (total n : ℕ) (packets : List Packet) (given : Result (Unit {0}) Fault) → (o : HasOpened left failures from reader) →
      to ≡ behind → (bytes : List ℕ) × Consumes (left reader.source) (left behind) bytes → GaveSo (left from) (left behind) o.header total packets given →
      ((given ≡ Err Device) ↔ (failures behind ≢ failures reader.source)) → ReadsOne left failures from to total n packets (end_of n given)
  reads-opened from to behind reader total n packets given o is (bytes, took) gave broke =
      subst (λ t. ReadsOne left failures from t total n packets (end_of n given)) (sym is)
      (let (text, told, given', gone, ends) = gone-so from behind o.header total n packets given (o.bytes ++ bytes) (Consumes-trans _ _ _ o.bytes bytes o.took took) gave in record {
        text = text;
        told = told;
        given = given';
        gave = gone;
        ends = ends;
        broke = (
          λ e. let differs = broke.0 (met-device n given e) in (λ same. differs (same ∙ sym o.works)),
          λ differs. inr (ap (end_of n) (broke.1 (λ same. differs (same ∙ o.works)))),
        );
        unread = λ e. absurd (no-header n NoMemory given e);
      })

  -- a capture whose header was not read
  pub reads-unopened : (from back : R) (total n : ℕ) (fault : Fault) → WasRefused (left from) fault ⊎ (fault ≡ Device) ⊎ (fault ≡ NoMemory) →
      (given : List ℕ) × Consumes (left from) (left back) given × (fault ≡ Device → length given < 24) → ((fault ≡ Device) ↔ (failures back ≢ failures from)) →
      (fault ≡ NoMemory → back ≡ from) → ReadsOne left failures from back total n [] (Err (AtHeader n fault))
  reads-unopened from back total n fault why (given, gave, short) broke kept =
      let (text, told, ends) = unread why in record {
        text = text;
        told = told;
        given = given;
        gave = gave;
        ends = ends;
        broke = (λ e. broke.0 (at-header _ refl e), λ differs. inl (ap (λ (f : Fault). Err (AtHeader n f)) (broke.1 differs)));
        unread = λ e. let wanting : fault ≡ NoMemory = cc in kept wanting;
      }
    where
      unread : WasRefused (left from) fault ⊎ (fault ≡ Device) ⊎ (fault ≡ NoMemory) →
          (text : List ℕ) × IfSome (left from) (λ bytes. bytes ≡ text) × EndsSo text given total n [] (Err (AtHeader n fault))
      unread (inl refused) = (refused.text, refused.told, (refl, refl, inl refused.refused))
      unread (inr (inl device)) = (unwrap_or (left from) [], told-text (left from), (refl, refl, inr (inr (device, short device))))
      unread (inr (inr none)) = (unwrap_or (left from) [], told-text (left from), (refl, refl, inr (inl none)))

      at-header : (end : Result (Unit {0}) Stop) → end ≡ Err (AtHeader n fault) → (end ≡ Err (AtHeader n Device)) ⊎ (end ≡ Err (AtRecord n Device)) → fault ≡ Device
      at-header end is (inl e) = cc
      at-header end is (inr e) = absurd (cc)

  -- a capture that was read whole is one of any number in all
  any-total : (from to : R) (total other n : ℕ) (packets : List Packet) (done : Unit {0}) → ReadsOne left failures from to total n packets (Ok done) → ReadsOne left failures from to other n packets (Ok done)
  any-total from to total other n packets done r = record { text = r.text; told = r.told; given = r.given; gave = r.gave; ends = r.ends; broke = r.broke; unread = r.unread }

  -- the first capture was read
  pub first-read : (s t : R) (total : ℕ) (rest : List R) (packets : List Packet) (end : Result (Unit {0}) Stop) → ReadsOne left failures s t total 0 packets end → total ≡ length packets →
      ReadsSoFar left failures (s ∷ rest) (t ∷ []) 1 rest packets end
  first-read s t total rest packets (Ok done) r many = λ all others more end reads. (packets, more, refl, inl (any-total s t total all 0 packets done r, reads))
  first-read s t total rest packets (Err stop) r many =
      (packets, [], sym (append-nil packets), inr (stop, refl, subst (λ k. ReadsOne left failures s t k 0 packets (Err stop)) many r, refl, refl))

  -- one capture more was read whole
  one-whole : (all sources : List R) (n total : ℕ) (s t : R) (rest : List R) (packets these : List Packet) (done done' : Unit {0})
      → ReadsSoFar left failures all sources n (s ∷ rest) packets (Ok done) → ReadsOne left failures s t total n these (Ok done')
      → ReadsSoFar left failures all (sources ++ t ∷ []) (n + 1) rest (packets ++ these) (Ok done')
  one-whole all sources n total s t rest packets these done done' so r = λ whole others more end reads.
      subst (λ ts. ReadsAll left failures whole 0 all ts ((packets ++ these) ++ more) end) (sym (append_assoc sources (t ∷ []) others))
      (subst (λ ps. ReadsAll left failures whole 0 all (sources ++ t ∷ others) ps end) (sym (append_assoc packets these more))
      (so whole (t ∷ others) (these ++ more) end (these, more, refl, inl (any-total s t total whole n these done' r, reads))))

  -- one capture more was read, and ended the reading
  one-ending : (all sources : List R) (n total : ℕ) (s t : R) (rest : List R) (packets these : List Packet) (done : Unit {0}) (stop : Stop)
      → ReadsSoFar left failures all sources n (s ∷ rest) packets (Ok done) → ReadsOne left failures s t total n these (Err stop) → total ≡ length (packets ++ these)
      → ReadsSoFar left failures all (sources ++ t ∷ []) (n + 1) rest (packets ++ these) (Err stop)
  one-ending all sources n total s t rest packets these done stop so r many =
      subst (λ ts. ReadsAll left failures (length (packets ++ these)) 0 all ts (packets ++ these) (Err stop)) (sym (append_assoc sources (t ∷ []) rest))
      (so (length (packets ++ these)) (t ∷ rest) these (Err stop)
      (these, [], sym (append-nil these), inr (stop, refl, subst (λ k. ReadsOne left failures s t k n these (Err stop)) many r, refl, refl)))

  -- one capture more was read
  pub one-more : (all sources : List R) (n total : ℕ) (s t : R) (rest : List R) (packets these : List Packet) (done : Unit {0}) (end : Result (Unit {0}) Stop)
      → ReadsSoFar left failures all sources n (s ∷ rest) packets (Ok done) → ReadsOne left failures s t total n these end → total ≡ length (packets ++ these)
      → ReadsSoFar left failures all (sources ++ t ∷ []) (n + 1) rest (packets ++ these) end
  one-more all sources n total s t rest packets these done (Ok done') so r many = one-whole all sources n total s t rest packets these done done' so r
  one-more all sources n total s t rest packets these done (Err stop) so r many = one-ending all sources n total s t rest packets these done stop so r many

  -- a capture behind the end came back as it was
  pub one-unread : (all sources : List R) (n m : ℕ) (s : R) (rest : List R) (packets : List Packet) (stop : Stop)
      → ReadsSoFar left failures all sources n (s ∷ rest) packets (Err stop) → ReadsSoFar left failures all (sources ++ s ∷ []) m rest packets (Err stop)
  one-unread all sources n m s rest packets stop so =
      subst (λ ts. ReadsAll left failures (length packets) 0 all ts packets (Err stop)) (sym (append_assoc sources (s ∷ []) rest)) so

  -- all were read
  pub read-all : (all sources : List R) (n : ℕ) (rest : List R) (packets : List Packet) (end : Result (Unit {0}) Stop) → ReadsSoFar left failures all sources n rest packets end → length rest ≡ 0
      → ReadsAll left failures (length packets) 0 all sources packets end
  read-all all sources n [] packets (Ok done) so none =
      subst (λ ts. ReadsAll left failures (length packets) 0 all ts packets (Ok done)) (append-nil sources)
      (subst (λ ps. ReadsAll left failures (length packets) 0 all (sources ++ []) ps (Ok done)) (append-nil packets) (so (length packets) [] [] (Ok done) (refl, refl)))
  read-all all sources n [] packets (Err stop) so none = subst (λ ts. ReadsAll left failures (length packets) 0 all ts packets (Err stop)) (append-nil sources) so
  read-all all sources n (s ∷ rest) packets end so none = absurd (omega (arith, none))
