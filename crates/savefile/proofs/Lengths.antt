-- How long the written text is.
use Rattle.std.proofs.Common.{◌≡◌, ℕ, ◌+◌, ◌*◌, ◌/◌, ◌≤◌, List, [], ◌∷◌, ◌++◌, length, drop, ap, ◌∙◌, arith, length-append, length-drop}
use Rattle.std.specs.List.{flat_map}
use Rattle.std.proofs.lemmas.List.Concat.{flat_map-cons}
use Rattle.byteorder.specs.Numbers.{length-bytes_low_first, length-bytes_high_first}
use Rattle.savefile.specs.declared.header.Order.{Order}
use Rattle.savefile.specs.declared.header.Order.TheVariants.{Little, Big}
use Rattle.savefile.specs.declared.header.Unit.{Unit as TimeUnit}
use Rattle.savefile.specs.declared.packet.Packet.{Packet}
use Rattle.savefile.specs.Savefile.{captured, encoded, header_text, magic_of, record_text, bytes_in, nanos_in, AreRecords, IsSavefile}
use Rattle.savefile.proofs.Encoding.{encoded-push}

-- a number of n bytes has n bytes
pub length-bytes_in : (order : Order) (n x : ℕ) → length (bytes_in order n x) ≡ n
length-bytes_in Little n x = length-bytes_low_first 0 n x
length-bytes_in Big n x = length-bytes_high_first n x

-- a record is a header of 16 bytes, and the packet's own bytes
length-record_text : (order : Order) (unit : TimeUnit) (p : Packet) → length (record_text order unit p) ≡ 16 + length p.bytes
unfolding record_text
length-record_text order unit p =
    let number : ℕ → List ℕ = λ x. bytes_in order 4 x in
    let fraction = p.nanos / nanos_in unit in
    let captured = length p.bytes in
    let two = number p.sec ++ number fraction in
    let three = two ++ number captured in
    omega (
      arith,
      length-bytes_in order 4 p.sec,
      length-bytes_in order 4 fraction,
      length-bytes_in order 4 captured,
      length-bytes_in order 4 p.len,
      length-append (number p.sec) (number fraction),
      length-append two (number captured),
      length-append three (number p.len),
      length-append (three ++ number p.len) p.bytes,
    )

-- one packet more adds its record
pub length-encoded-push : (order : Order) (unit : TimeUnit) (snap : ℕ) (ps : List Packet) (p : Packet) →
    length (encoded order unit snap (ps ++ p ∷ [])) ≡ length (encoded order unit snap ps) + 16 + length p.bytes
length-encoded-push order unit snap ps p =
    let whole = encoded order unit snap ps in
    let grown = ap length (encoded-push order unit snap ps p) ∙ length-append whole (record_text order unit p) in
    omega (arith, grown, length-record_text order unit p)

-- the header has 24 bytes
length-header_text : (order : Order) (unit : TimeUnit) (snap : ℕ) → length (header_text order unit snap) ≡ 24
unfolding header_text
length-header_text order unit snap =
    let n : ℕ → ℕ → List ℕ = bytes_in order in
    let a = n 4 (magic_of unit) in
    let b = a ++ n 2 2 in
    let c = b ++ n 2 4 in
    let d = c ++ n 4 0 in
    let e = d ++ n 4 0 in
    let f = e ++ n 4 snap in
    omega (
      arith,
      length-bytes_in order 4 (magic_of unit),
      length-bytes_in order 2 2,
      length-bytes_in order 2 4,
      length-bytes_in order 4 0,
      length-bytes_in order 4 snap,
      length-bytes_in order 4 1,
      length-append a (n 2 2),
      length-append b (n 2 4),
      length-append c (n 4 0),
      length-append d (n 4 0),
      length-append e (n 4 snap),
      length-append f (n 4 1),
    )

-- the records of packets take 16 bytes each at least
length-records : (order : Order) (unit : TimeUnit) (ps : List Packet) → 16 * length ps ≤ length (flat_map (record_text order unit) ps)
length-records order unit [] = omega arith
length-records order unit (p ∷ ps) =
    let f = record_text order unit in
    let more = length-records order unit ps in
    let all = ap length (flat_map-cons f p ps) ∙ length-append (f p) (flat_map f ps) in
    omega (arith, all, more, length-record_text order unit p)

-- so there are fewer packets than written bytes
pub length-encoded : (order : Order) (unit : TimeUnit) (snap : ℕ) (ps : List Packet) → 24 + 16 * length ps ≤ length (encoded order unit snap ps)
unfolding encoded
length-encoded order unit snap ps =
    omega (arith, length-append (header_text order unit snap) (flat_map (record_text order unit) ps), length-header_text order unit snap, length-records order unit ps)

-- the same of what is read
length-read_records : (order : Order) (unit : TimeUnit) (text : List ℕ) (ps : List Packet) (rest : List ℕ) → AreRecords order unit text ps rest → 16 * length ps + length rest ≤ length text
length-read_records order unit text [] rest e = omega (arith, ap length e)
length-read_records order unit text (p ∷ ps) rest e =
    let more = length-read_records order unit e.0 ps rest e.2 in
    let size : 16 + captured order text ≤ length text = e.1.whole in
    omega (arith, more, size, ap length e.1.follows, length-drop (16 + captured order text) text)

pub length-read : (text : List ℕ) (order : Order) (unit : TimeUnit) (snap : ℕ) (ps : List Packet) (rest : List ℕ) → IsSavefile text order unit snap ps rest → 24 + 16 * length ps + length rest ≤ length text
length-read text order unit snap ps rest s =
    let size : 24 ≤ length text = s.header.size in
    omega (arith, size, length-drop 24 text, length-read_records order unit (drop 24 text) ps rest s.records)
