-- What a writer sends, call after call.
use Rattle.std.proofs.Common.{◌≡◌, ◌≢◌, ℕ, ◌-◌, ◌≤◌, true, false, List, [], ◌∷◌, ◌++◌, length, take, drop, Option, Result, Ok, Err, refl, sym, ap, subst, ◌∙◌, append_assoc, arith, length-append, length-drop, take-append-drop}
use Rattle.std.proofs.lemmas.List.{take_all}
use Rattle.std.proofs.KnownBytes.{Appends-kept, Appends-nil, Appends-trans}
use Rattle.std.specs.Io.KnownBytes.{Keeps}
use Rattle.std.specs.Prelude.{OnOk, OnErr}
use Rattle.savefile.specs.declared.header.Order.{Order}
use Rattle.savefile.specs.declared.header.Unit.{Unit as TimeUnit}
use Rattle.savefile.specs.declared.packet.Packet.{Packet}
use Rattle.savefile.specs.Savefile.{encoded, header_text, record_text}
use Rattle.savefile.specs.Sending.{Sends, SendsPart}
use Rattle.savefile.specs.Writer.{HasWrittenPart, HasWritten, IsBeginning, Sent, Writing}
use Rattle.savefile.proofs.Encoding.{encoded-nil, encoded-push, IsBeginning-front}

-- nothing was sent
pub Sends-nothing : {W : Type 0} (taken : W → Option (List ℕ)) (w : Writing W) → Sends taken w w []
Sends-nothing taken w = record { bytes = Appends-nil (taken w.sink); count = omega arith; in_order = refl; in_unit = refl }

-- one text, and then another
pub Sends-trans : {W : Type 0} (taken : W → Option (List ℕ)) (a b c : Writing W) (s t : List ℕ) → Sends taken a b s → Sends taken b c t → Sends taken a c (s ++ t)
Sends-trans taken a b c s t p q = record {
  bytes = Appends-trans (taken a.sink) (taken b.sink) (taken c.sink) s t p.bytes q.bytes;
  count = omega (arith, p.count, q.count, length-append s t);
  in_order = q.in_order ∙ p.in_order;
  in_unit = q.in_unit ∙ p.in_unit;
}

-- the sink took the first n bytes of the rest
pub sends_more : {W : Type 0} (taken : W → Option (List ℕ)) (old mid new : Writing W) (bytes front rest : List ℕ) (n : ℕ)
    → n ≤ length rest → bytes ≡ front ++ rest → Sends taken old mid front → Sends taken mid new (take n rest)
    → (x : List ℕ) × (bytes ≡ x ++ take (length rest - n) (drop n rest)) × Sends taken old new x
sends_more taken old mid new bytes front rest n lt e p q =
    let all : take (length rest - n) (drop n rest) ≡ drop n rest = take_all (length rest - n) (drop n rest) (omega (arith, length-drop n rest)) in (
      front ++ take n rest,
      e ∙ ap (λ (t : List ℕ). front ++ t) (sym (take-append-drop n rest)) ∙ sym (append_assoc front (take n rest) (drop n rest)) ∙ ap (λ (t : List ℕ). (front ++ take n rest) ++ t) (sym all),
      Sends-trans taken old mid new front (take n rest) p q,
    )

-- what a writer sent since it was opened grows by what it sends
pub Sent-Sends : {W : Type 0} (taken : W → Option (List ℕ)) (start : Option (List ℕ)) (text more : List ℕ) (old new : Writing W) → Sent taken start text old → Sends taken old new more → Sent taken start (text ++ more) new
Sent-Sends taken start text more old new p q = record {
  bytes = Appends-trans start (taken old.sink) (taken new.sink) text more p.bytes q.bytes;
  count = omega (arith, p.count, q.count, length-append text more);
}

-- the record of a packet in the form that a writer has
same_record : {W : Type 0} (w : Writing W) (order : Order) (unit : TimeUnit) (p : Packet) → w.order ≡ order → w.unit ≡ unit → record_text w.order w.unit p ≡ record_text order unit p
same_record w order unit p o u = ap (λ (x : Order). record_text x w.unit p) o ∙ ap (λ (x : TimeUnit). record_text order x p) u

-- a packet was written whole
pub writes_packet : {W : Type 0} (taken : W → Option (List ℕ)) (start : Option (List ℕ)) (order : Order) (unit : TimeUnit) (snap : ℕ) (ps : List Packet) (p : Packet) (old new : Writing W)
    → HasWritten taken start order unit snap ps old → Sends taken old new (record_text old.order old.unit p) → new.failed ≡ old.failed → HasWritten taken start order unit snap (ps ++ p ∷ []) new
writes_packet taken start order unit snap ps p old new h s f = record {
  sent = rw encoded-push (Sent-Sends taken start (encoded order unit snap ps) (record_text order unit p) old new h.sent (subst (λ (t : List ℕ). Sends taken old new t) (same_record old order unit p h.in_order h.in_unit) s));
  works = f ∙ h.works;
  in_order = s.in_order ∙ h.in_order;
  in_unit = s.in_unit ∙ h.in_unit;
}

-- a packet was written in part
pub breaks_off : {W : Type 0} (taken : W → Option (List ℕ)) (start : Option (List ℕ)) (order : Order) (unit : TimeUnit) (snap : ℕ) (ps : List Packet) (p : Packet) (old new : Writing W)
    → HasWritten taken start order unit snap ps old → SendsPart taken old new (record_text old.order old.unit p) → HasWrittenPart taken start order unit snap (ps ++ p ∷ []) new
breaks_off taken start order unit snap ps p old new h s =
    let whole = encoded order unit snap ps in
    let same = same_record old order unit p h.in_order h.in_unit in record {
      text = whole ++ s.part;
      begins = rw encoded-push (IsBeginning-front whole s.part (record_text order unit p) (subst (λ (t : List ℕ). IsBeginning s.part t) same s.begins));
      short = rw encoded-push (let n = ap length same in omega (arith, s.short, n, length-append whole s.part, length-append whole (record_text order unit p)));
      sent = Sent-Sends taken start whole s.part old new h.sent s.sends;
      failed = s.failed;
    }

-- the header was written whole, or in part
pub opened : {W : Type 0} (taken : W → Option (List ℕ)) (order : Order) (unit : TimeUnit) (snap : ℕ) (old new : Writing W)
    → old.sent ≡ 0 → old.failed ≡ false → old.order ≡ order → old.unit ≡ unit → Sends taken old new (header_text order unit snap) → new.failed ≡ old.failed
    → HasWritten taken (taken old.sink) order unit snap [] new
opened taken order unit snap old new z f o u s g = record {
  sent = rw encoded-nil (record { bytes = s.bytes; count = omega (arith, s.count) });
  works = g ∙ f;
  in_order = s.in_order ∙ o;
  in_unit = s.in_unit ∙ u;
}

-- the same, where a beginning of it went out
pub opens_in_part : {W : Type 0} (taken : W → Option (List ℕ)) (order : Order) (unit : TimeUnit) (snap : ℕ) (old new : Writing W)
    → old.sent ≡ 0 → SendsPart taken old new (header_text order unit snap)
    → HasWrittenPart taken (taken old.sink) order unit snap [] new
opens_in_part taken order unit snap old new z s = record {
  text = s.part;
  begins = rw encoded-nil s.begins;
  short = rw encoded-nil s.short;
  sent = record { bytes = s.sends.bytes; count = omega (arith, s.sends.count, z) };
  failed = s.failed;
}

-- a fact under an Ok, and under an Err, leads to another
pub on_ok : {T E : Type 0} (r : Result T E) (P Q : Type 0) → (P → Q) → OnOk r P → OnOk r Q
on_ok (Ok x) P Q f p = f p
on_ok (Err e) P Q f p = p

-- the same under an Err
pub on_err : {T E : Type 0} (r : Result T E) (P Q : Type 0) → (P → Q) → OnErr r P → OnErr r Q
on_err (Ok x) P Q f p = p
on_err (Err e) P Q f p = f p

-- a fact under an Err holds where it is one
pub at_err : {T E : Type 0} (r : Result T E) (e : E) (P : Type 0) → r ≡ Err e → OnErr r P → P
at_err (Ok x) e P is p = absurd cc
at_err (Err d) e P is p = p

-- a beginning of the first text begins both
pub SendsPart-first : {W : Type 0} (taken : W → Option (List ℕ)) (old new : Writing W) (s t : List ℕ) → SendsPart taken old new s → SendsPart taken old new (s ++ t)
SendsPart-first taken old new s t p = record {
  part = p.part;
  begins = (p.begins.0 ++ t, ap (λ (x : List ℕ). x ++ t) p.begins.1 ∙ append_assoc p.part p.begins.0 t);
  short = omega (arith, p.short, length-append s t);
  sends = p.sends;
  failed = p.failed;
}

-- the first text and a beginning of the second begin both
pub SendsPart-second : {W : Type 0} (taken : W → Option (List ℕ)) (old mid new : Writing W) (s t : List ℕ) → Sends taken old mid s → SendsPart taken mid new t → SendsPart taken old new (s ++ t)
SendsPart-second taken old mid new s t q p = record {
  part = s ++ p.part;
  begins = IsBeginning-front s p.part t p.begins;
  short = omega (arith, p.short, length-append s t, length-append s p.part);
  sends = Sends-trans taken old mid new s p.part q p.sends;
  failed = p.failed;
}

-- where the sink fails before the rest, the front is what was sent
pub sends_front : {W : Type 0} (taken : W → Option (List ℕ)) (old mid new : Writing W) (bytes front rest : List ℕ)
    → bytes ≡ front ++ rest → Sends taken old mid front → length rest ≢ 0 → Keeps (taken mid.sink) (taken new.sink)
    → new.sent ≡ mid.sent → new.order ≡ mid.order → new.unit ≡ mid.unit → new.failed ≡ true → SendsPart taken old new bytes
sends_front taken old mid new bytes front rest e p some keeps sent order unit failed = record {
  part = front;
  begins = (rest, e);
  short = (let all = ap length e in omega (arith, all, some, length-append front rest));
  sends = record {
    bytes = Appends-kept (taken old.sink) (taken mid.sink) (taken new.sink) front p.bytes keeps;
    count = sent ∙ p.count;
    in_order = order ∙ p.in_order;
    in_unit = unit ∙ p.in_unit;
  };
  failed = failed;
}

-- what was sent before stays
pub sent_grows : {W T E : Type 0} (taken : W → Option (List ℕ)) (old new : Writing W) (text : List ℕ) (r : Result T E) (Q : Type 0)
    → OnOk r (Sends taken old new text × Q) → OnErr r (SendsPart taken old new text) → old.sent ≤ new.sent
sent_grows taken old new text (Ok x) Q p q = omega (arith, p.0.count)
sent_grows taken old new text (Err e) Q p q = omega (arith, q.sends.count)
