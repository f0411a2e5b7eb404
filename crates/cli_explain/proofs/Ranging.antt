-- The packets of a range of places, printed one after the other.
use Rattle.std.proofs.Common.{◌≡◌, ℕ, suc, ◌+◌, ◌-◌, ◌<◌, ◌≤◌, ◌⊎◌, inl, inr, Bool, true, false, List, [], ◌∷◌, ◌++◌, length, length-append, Option, None, Result, Ok, Err, refl, sym, ap, subst, ◌∙◌, append_assoc, arith}
use Rattle.std.proofs.KnownBytes.{Keeps-refl}
use Rattle.std.specs.Prelude.{is_err, IsOk}
use Rattle.savefile.specs.declared.fault.Fault.{Fault}
use Rattle.savefile.specs.declared.header.Header.{Header}
use Rattle.savefile.specs.declared.packet.Packet.{Packet}
use Rattle.savefile.specs.Reader.{HasGiven, IsCause, Reading, WasBegun, WasRead}
use Rattle.cli_answers.specs.declared.printing.Unprinted.{Unprinted}
use Rattle.cli_answers.specs.declared.filter.AskedFilter.{AskedFilter}
use Rattle.cli_answers.specs.declared.form.PacketForm.{PacketForm}
use Rattle.cli_explain.specs.Explained.{GoesTo, PrintsWhole}
use Rattle.cli_explain.specs.Range.{PrintsOne, PrintsEach, PrintsRange, ShowsRange}

-- one more of them
pub each-last : (form : PacketForm) (f : AskedFilter) (place here : ℕ) (ps : List Packet) (p : Packet) (old mid new : Option (List ℕ)) → here ≡ place + length ps →
    PrintsEach form f place ps old mid → PrintsOne form f here p mid new → PrintsEach form f place (ps ++ p ∷ []) old new
each-last form f place here [] p old mid new is same one =
    let at : here ≡ place = omega (arith, is) in
    (new, subst (λ n. PrintsOne form f n p old new) at (subst (λ (o : Option (List ℕ)). PrintsOne form f here p o new) same one), refl)
each-last form f place here (q ∷ ps) p old mid new is (between, first, others) one =
    let at : here ≡ (place + 1) + length ps = omega (arith, is) in
    (between, first, each-last form f (place + 1) here ps p between mid new at others one)

-- one that did not fail was printed
pub whole-one : (form : PacketForm) (f : AskedFilter) (place : ℕ) (p : Packet) (old new : Option (List ℕ)) (result : Result (Unit {0}) Unprinted) →
    is_err result ≡ false → PrintsWhole form f place p old new result → PrintsOne form f place p old new
whole-one form f place p old new (Ok x) went whole = whole
whole-one form f place p old new (Err u) failed whole = absurd (cc)

-- the printing of one broke off
pub range-broken : (from left : Option (List ℕ)) (header : Header) (form : PacketForm) (f : AskedFilter) (first last place : ℕ) (before shown : List Packet) (p : Packet) (old mid new : Option (List ℕ)) (read : Result Bool Fault) (told result : Result (Unit {0}) Unprinted) →
    read ≡ Ok true → told ≡ result → is_err result ≡ true → place ≡ first + length shown → PrintsEach form f first shown old mid → PrintsWhole form f place p mid new result →
    WasBegun from header ((before ++ shown) ++ p ∷ []) →
    PrintsRange from left header form f first last before old new read told
range-broken from left header form f first last place before shown p old mid new read told (Ok x) reads tells failed here each whole begun = absurd (cc)
range-broken from left header form f first last place before shown p old mid new read told (Err u) reads tells failed here each whole begun =
    rw tells (inr (shown, p, mid, each, subst (λ n. PrintsWhole {A = Unit {0}} form f n p mid new (Err u)) here whole, refl, begun, reads))

-- all were printed
pub range-whole : (from left : Option (List ℕ)) (header : Header) (form : PacketForm) (f : AskedFilter) (first last place : ℕ) (before shown : List Packet) (p : Packet) (old mid new : Option (List ℕ)) (read : Result Bool Fault) (told : Result (Unit {0}) Unprinted) (x : Unit {0}) →
    read ≡ Ok true → told ≡ Ok x → place ≡ first + length shown → last ≤ place → place ≤ first + (last - first) → PrintsEach form f first shown old mid → PrintsOne form f place p mid new →
    WasBegun from header ((before ++ shown) ++ p ∷ []) →
    PrintsRange from left header form f first last before old new read told
range-whole from left header form f first last place before shown p old mid new read told x reads tells here beyond within each one begun =
    let many = length-append shown (p ∷ []) in
    rw tells (inl (
      shown ++ p ∷ [],
      each-last form f first place shown p old mid new here each one,
      refl,
      inl (omega (arith, many, here, beyond, within), subst (WasBegun from header) (append_assoc before shown (p ∷ [])) begun, reads),
    ))

-- the capture ended
pub range-ended : (from left : Option (List ℕ)) (header : Header) (form : PacketForm) (f : AskedFilter) (first last place : ℕ) (before shown : List Packet) (p : Packet) (old mid new : Option (List ℕ)) (read : Result Bool Fault) (told : Result (Unit {0}) Unprinted) (x : Unit {0}) →
    read ≡ Ok true → told ≡ Ok x → place ≡ first + length shown → place < last → PrintsEach form f first shown old mid → PrintsOne form f place p mid new →
    WasRead from header ((before ++ shown) ++ p ∷ []) None →
    PrintsRange from left header form f first last before old new read told
range-ended from left header form f first last place before shown p old mid new read told x reads tells here below each one was =
    let many = length-append shown (p ∷ []) in
    rw tells (inl (
      shown ++ p ∷ [],
      each-last form f first place shown p old mid new here each one,
      refl,
      inr (inl (omega (arith, many), omega (arith, many, here, below), subst (λ (ps : List Packet). WasRead from header ps None) (append_assoc before shown (p ∷ [])) was, reads)),
    ))

-- or it could not be read further
pub range-stopped : (from left : Option (List ℕ)) (header : Header) (form : PacketForm) (f : AskedFilter) (first last place : ℕ) (before shown : List Packet) (p : Packet) (old mid new : Option (List ℕ)) (read : Result Bool Fault) (told : Result (Unit {0}) Unprinted) (fault : Fault) (x : Unit {0}) →
    read ≡ Err fault → told ≡ Ok x → place ≡ first + length shown → place < last → PrintsEach form f first shown old mid → PrintsOne form f place p mid new →
    IsCause from left header ((before ++ shown) ++ p ∷ []) fault →
    PrintsRange from left header form f first last before old new read told
range-stopped from left header form f first last place before shown p old mid new read told fault x reads tells here below each one cause =
    let many = length-append shown (p ∷ []) in
    rw tells (inl (
      shown ++ p ∷ [],
      each-last form f first place shown p old mid new here each one,
      refl,
      inr (inr (omega (arith, many), omega (arith, many, here, below), fault, subst (λ (ps : List Packet). IsCause from left header ps fault) (append_assoc before shown (p ∷ [])) cause, reads)),
    ))

-- ---- From the first place on

-- a reader that went on to a place found it
pub goes-found : {R : Type 0} (left : R → Option (List ℕ)) (from : Option (List ℕ)) (header : Header) (place : ℕ) (r : Reading R) (result : Result Bool Fault) →
    result ≡ Ok true → GoesTo left from header place r result →
    (before : List Packet) × (length before ≡ place) × HasGiven left from header (before ++ r.lent ∷ []) r
goes-found left from header place r (Ok true) is goes = goes
goes-found left from header place r (Ok false) is goes = absurd (cc)
goes-found left from header place r (Err fault) is goes = absurd (cc)

-- or there was none
pub shows-none : {R : Type 0} (left : R → Option (List ℕ)) (from : Option (List ℕ)) (header : Header) (form : PacketForm) (f : AskedFilter) (first last : ℕ) (r : Reading R) (result read : Result Bool Fault) (told : Result (Unit {0}) Unprinted) (x : Unit {0}) (out : Option (List ℕ)) →
    result ≡ Ok false → read ≡ Ok false → told ≡ Ok x → GoesTo left from header first r result → ShowsRange from (left r.source) header form f first last out out read told
shows-none left from header form f first last r (Ok true) read told x out is reads tells goes = absurd (cc)
shows-none left from header form f first last r (Ok false) read told x out is reads tells (packets, few, was) =
    rw tells (inr (packets, few, refl, Keeps-refl out, inl (was, reads)))
shows-none left from header form f first last r (Err fault) read told x out is reads tells goes = absurd (cc)

-- or it could not be read so far
pub shows-stopped : {R : Type 0} (left : R → Option (List ℕ)) (from : Option (List ℕ)) (header : Header) (form : PacketForm) (f : AskedFilter) (first last : ℕ) (r : Reading R) (result read : Result Bool Fault) (told : Result (Unit {0}) Unprinted) (fault : Fault) (x : Unit {0}) (out : Option (List ℕ)) →
    result ≡ Err fault → read ≡ Err fault → told ≡ Ok x → GoesTo left from header first r result → ShowsRange from (left r.source) header form f first last out out read told
shows-stopped left from header form f first last r (Ok true) read told fault x out is reads tells goes = absurd (cc)
shows-stopped left from header form f first last r (Ok false) read told fault x out is reads tells goes = absurd (cc)
shows-stopped left from header form f first last r (Err g) read told fault x out is reads tells (packets, few, cause) =
    let same : g ≡ fault = cc in
    rw tells (inr (packets, few, refl, Keeps-refl out, inr (fault, subst (IsCause from (left r.source) header packets) same cause, reads)))
