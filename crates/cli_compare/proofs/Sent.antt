-- What was sent of a savefile that broke off.
use Rattle.std.proofs.Common.{◌≡◌, ℕ, ◌+◌, ◌^◌, ◌≤◌, ◌⊎◌, inl, inr, Bool, true, false, List, [], ◌∷◌, ◌++◌, length, Option, refl, ap, ◌∙◌, append_assoc, arith}
use Rattle.savefile.specs.declared.fault.Fault.{Fault}
use Rattle.savefile.specs.declared.fault.Fault.TheVariants.{CountFull, Device, Failed, TooLong}
use Rattle.savefile.specs.declared.header.Order.{Order}
use Rattle.savefile.specs.declared.header.Order.TheVariants.{Little}
use Rattle.savefile.specs.declared.header.Unit.{Unit as TimeUnit}
use Rattle.savefile.specs.declared.header.Unit.TheVariants.{Micro}
use Rattle.savefile.specs.declared.packet.Packet.{Packet}
use Rattle.savefile.specs.Savefile.{encoded, header_text}
use Rattle.savefile.specs.Writer.{HasWritten, HasWrittenPart, IsBeginning, Writing}
use Rattle.savefile.proofs.Encoding.{encoded-begins}
use Rattle.line_text.specs.Sending.{TakesPart}

pub begins_through : (a b c : List ℕ) → IsBeginning a b → IsBeginning b c → IsBeginning a c
begins_through a b c (s, one) (t, two) = (s ++ t, two ∙ ap (λ (x : List ℕ). x ++ t) one ∙ append_assoc a s t)

-- the header broke off
pub no_header : {W : Type 0} (taken : W → Option (List ℕ)) (start : Option (List ℕ)) (order : Order) (unit : TimeUnit) (snap : ℕ) (p : Packet) (w : Writing W) →
    HasWrittenPart taken start order unit snap [] w → TakesPart start (taken w.sink) (encoded order unit snap (p ∷ []))
no_header taken start order unit snap p w h = record {
  part = h.text;
  begins = begins_through h.text (encoded order unit snap []) (encoded order unit snap (p ∷ [])) h.begins (encoded-begins order unit snap [] (p ∷ []));
  appends = h.sent.bytes;
}

-- the packet broke off
pub no_packet : {W : Type 0} (taken : W → Option (List ℕ)) (start : Option (List ℕ)) (order : Order) (unit : TimeUnit) (snap : ℕ) (p : Packet) (w : Writing W) →
    HasWrittenPart taken start order unit snap (p ∷ []) w → TakesPart start (taken w.sink) (encoded order unit snap (p ∷ []))
no_packet taken start order unit snap p w h = record { part = h.text; begins = h.begins; appends = h.sent.bytes }

-- only the header was sent
pub only_header : {W : Type 0} (taken : W → Option (List ℕ)) (start : Option (List ℕ)) (order : Order) (unit : TimeUnit) (snap : ℕ) (p : Packet) (w : Writing W) →
    HasWritten taken start order unit snap [] w → TakesPart start (taken w.sink) (encoded order unit snap (p ∷ []))
only_header taken start order unit snap p w h = record {
  part = encoded order unit snap [];
  begins = encoded-begins order unit snap [] (p ∷ []);
  appends = h.sent.bytes;
}

-- the header has 24 bytes
pub header-size : length (encoded Little Micro (2 ^ 18) []) ≡ 24
unfolding encoded header_text
header-size = refl

contrary : (b : Bool) → b ≡ false → b ≡ true → ⊥
contrary true first second = absurd (cc)
contrary false first second = absurd (cc)

-- behind a header that was sent whole only the device can fail
pub only_device : {W : Type 0} (taken : W → Option (List ℕ)) (start : Option (List ℕ)) (w : Writing W) (fault : Fault) (size : ℕ) → HasWritten taken start Little Micro (2 ^ 18) [] w → size ≤ 2 ^ 18 → ((fault ≡ Device) ⊎ ((fault ≡ Failed) ⊎ (fault ≡ CountFull))) → (fault ≡ Failed → w.failed ≡ true) → (fault ≡ CountFull → (w.failed ≡ false) × (2 ^ 64 ≤ w.sent + 16 + size)) → (fault ≡ Device) ⊎ (fault ≡ TooLong 0)
only_device taken start w fault size written small (inl device) failed full = inl device
only_device taken start w fault size written small (inr (inl is)) failed full = absurd (contrary w.failed written.works (failed is))
only_device taken start w fault size written small (inr (inr is)) failed full = absurd (omega (arith, (full is).1, written.sent.count ∙ header-size, small))
