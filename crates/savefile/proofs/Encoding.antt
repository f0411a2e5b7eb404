-- The written text of a list of packets, as the list grows.
use Rattle.std.proofs.Common.{◌≡◌, ℕ, List, [], ◌∷◌, ◌++◌, sym, ap, ◌∙◌, append_assoc}
use Rattle.std.proofs.lemmas.List.{append-nil}
use Rattle.std.proofs.lemmas.List.Concat.{flat_map-cons}
use Rattle.std.proofs.lemmas.Grind.{flat_map-append}
use Rattle.std.specs.List.{flat_map}
use Rattle.savefile.specs.declared.header.Order.{Order}
use Rattle.savefile.specs.declared.header.Unit.{Unit as TimeUnit}
use Rattle.savefile.specs.declared.packet.Packet.{Packet}
use Rattle.savefile.specs.Savefile.{encoded, header_text, record_text}
use Rattle.savefile.specs.Writer.{IsBeginning}

-- the text of no packet is the header
pub encoded-nil : (order : Order) (unit : TimeUnit) (snap : ℕ) → encoded order unit snap [] ≡ header_text order unit snap
unfolding encoded
encoded-nil order unit snap = append-nil (header_text order unit snap)

-- the text of more packets goes on with their records
pub encoded-append : (order : Order) (unit : TimeUnit) (snap : ℕ) (ps qs : List Packet) → encoded order unit snap (ps ++ qs) ≡ encoded order unit snap ps ++ flat_map (record_text order unit) qs
unfolding encoded
encoded-append order unit snap ps qs =
    let f = record_text order unit in
    let h = header_text order unit snap in
    ap (λ (t : List ℕ). h ++ t) (flat_map-append f ps qs) ∙ sym (append_assoc h (flat_map f ps) (flat_map f qs))

-- one packet more
pub encoded-push : (order : Order) (unit : TimeUnit) (snap : ℕ) (ps : List Packet) (p : Packet) → encoded order unit snap (ps ++ p ∷ []) ≡ encoded order unit snap ps ++ record_text order unit p
encoded-push order unit snap ps p =
    let f = record_text order unit in
    encoded-append order unit snap ps (p ∷ []) ∙ ap (λ (t : List ℕ). encoded order unit snap ps ++ t) (flat_map-cons f p [] ∙ append-nil (f p))

-- the text of the first packets is the beginning of the text of all
pub encoded-begins : (order : Order) (unit : TimeUnit) (snap : ℕ) (ps qs : List Packet) → IsBeginning (encoded order unit snap ps) (encoded order unit snap (ps ++ qs))
encoded-begins order unit snap ps qs = (flat_map (record_text order unit) qs, encoded-append order unit snap ps qs)

-- the beginning of a beginning
pub IsBeginning-trans : (a b c : List ℕ) → IsBeginning a b → IsBeginning b c → IsBeginning a c
IsBeginning-trans a b c p q = (p.0 ++ q.0, q.1 ∙ ap (λ (t : List ℕ). t ++ q.0) p.1 ∙ append_assoc a p.0 q.0)

-- each text begins itself
pub IsBeginning-refl : (a : List ℕ) → IsBeginning a a
IsBeginning-refl a = ([], sym (append-nil a))

-- what begins a text begins the longer text with the same front
pub IsBeginning-front : (front a b : List ℕ) → IsBeginning a b → IsBeginning (front ++ a) (front ++ b)
IsBeginning-front front a b p = (p.0, ap (λ (t : List ℕ). front ++ t) p.1 ∙ sym (append_assoc front a p.0))
