-- What was written is read again.
use Rattle.std.proofs.Common.{◌≡◌, ℕ, ◌+◌, ◌*◌, ◌/◌, ◌^◌, ◌<◌, ◌≤◌, List, [], ◌∷◌, ◌++◌, length, drop, map, All, None, refl, sym, ap, subst, ◌∙◌, append_assoc, arith, length-append}
use Rattle.std.proofs.lemmas.List.{append-nil, drop_at, take_at}
use Rattle.std.proofs.lemmas.List.Concat.{flat_map-cons}
use Rattle.std.proofs.lemmas.List.Elements.{recursion_from_All}
use Rattle.std.specs.List.{flat_map, AllByRecursion}
use Rattle.byteorder.specs.Numbers.{big_number-reads_back, little_number-reads_back}
use Rattle.savefile.specs.declared.header.Order.{Order}
use Rattle.savefile.specs.declared.header.Order.TheVariants.{Little, Big}
use Rattle.savefile.specs.declared.header.Unit.{Unit as TimeUnit}
use Rattle.savefile.specs.declared.header.Unit.TheVariants.{Micro, Nano}
use Rattle.savefile.specs.declared.packet.Packet.{Packet}
use Rattle.savefile.specs.Savefile.{bytes_in, encoded, field, header_text, in_units, magic_of, nanos_in, number_in, packet, per_second, record_text, AreRecords, Holds, IsHeader, IsRecord, IsWritable}
use Rattle.savefile.proofs.Lengths.{length-bytes_in}
use Rattle.savefile.proofs.Records.{longest_records, NoRecord-nil}

-- a number reads back, whatever follows it
reads_back : (order : Order) (n x : ℕ) (rest : List ℕ) → x < 256 ^ n → number_in order n (bytes_in order n x ++ rest) ≡ x
reads_back Little n x rest h = little_number-reads_back n x rest h
reads_back Big n x rest h = big_number-reads_back n x rest h

-- a number that comes after a front
field_again : (order : Order) (n x k : ℕ) (front tail text : List ℕ) → text ≡ front ++ (bytes_in order n x ++ tail) → length front ≡ k → x < 256 ^ n → field order text k n ≡ x
field_again order n x k front tail text e len lt =
    let there : drop k text ≡ bytes_in order n x ++ tail = ap (drop k) e ∙ drop_at front (bytes_in order n x ++ tail) k len in
    ap (number_in order n) there ∙ reads_back order n x tail lt

-- nanoseconds below a second give a fraction below a second
fraction_below : (unit : TimeUnit) (n : ℕ) → n < 1000000000 → n / nanos_in unit < per_second unit
fraction_below Micro n h = omega arith
fraction_below Nano n h = omega arith

-- four bytes hold each fraction
per_second_fits : (unit : TimeUnit) → per_second unit ≤ 256 ^ 4
per_second_fits Micro = omega arith
per_second_fits Nano = omega arith

-- and each magic number
magic_fits : (unit : TimeUnit) → magic_of unit < 256 ^ 4
magic_fits Micro = omega arith
magic_fits Nano = omega arith

-- whole units of time
in_units-packet : (unit : TimeUnit) (p : Packet) → packet p.sec (p.nanos / nanos_in unit * nanos_in unit) p.len p.bytes ≡ in_units unit p
in_units-packet Micro p = refl
in_units-packet Nano p =
    let e : p.nanos / 1 * 1 ≡ p.nanos = omega arith in
    ap (λ (n : ℕ). packet p.sec n p.len p.bytes) e

-- a record is read again, whatever follows it
record_again : (order : Order) (unit : TimeUnit) (p : Packet) (rest : List ℕ) → IsWritable p → IsRecord order unit (record_text order unit p ++ rest) (in_units unit p) rest
unfolding record_text
record_again order unit p rest w =
    let x1 = p.nanos / nanos_in unit in
    let b0 = bytes_in order 4 p.sec in
    let b1 = bytes_in order 4 x1 in
    let b2 = bytes_in order 4 (length p.bytes) in
    let b3 = bytes_in order 4 p.len in
    let text = (b0 ++ b1 ++ b2 ++ b3 ++ p.bytes) ++ rest in
    let l0 : length b0 ≡ 4 = length-bytes_in order 4 p.sec in
    let l1 : length b1 ≡ 4 = length-bytes_in order 4 x1 in
    let l2 : length b2 ≡ 4 = length-bytes_in order 4 (length p.bytes) in
    let l3 : length b3 ≡ 4 = length-bytes_in order 4 p.len in
    let s1 : length (b0 ++ b1) ≡ 8 = omega (arith, length-append b0 b1) in
    let s2 : length (b0 ++ b1 ++ b2) ≡ 12 = omega (arith, length-append (b0 ++ b1) b2) in
    let s3 : length (b0 ++ b1 ++ b2 ++ b3) ≡ 16 = omega (arith, length-append (b0 ++ b1 ++ b2) b3) in
    let e0 : text ≡ b0 ++ (b1 ++ (b2 ++ (b3 ++ (p.bytes ++ rest)))) = simp append_assoc in
    let e1 : text ≡ b0 ++ (b1 ++ (b2 ++ (b3 ++ (p.bytes ++ rest)))) = simp append_assoc in
    let e2 : text ≡ (b0 ++ b1) ++ (b2 ++ (b3 ++ (p.bytes ++ rest))) = simp append_assoc in
    let e3 : text ≡ (b0 ++ b1 ++ b2) ++ (b3 ++ (p.bytes ++ rest)) = simp append_assoc in
    let e4 : text ≡ (b0 ++ b1 ++ b2 ++ b3) ++ (p.bytes ++ rest) = simp append_assoc in
    let below : x1 < per_second unit = fraction_below unit p.nanos w.nanos in
    let f0 : field order text 0 4 ≡ p.sec = field_again order 4 p.sec 0 [] _ text e0 refl w.seconds in
    let f1 : field order text 4 4 ≡ x1 = field_again order 4 x1 4 b0 _ text e1 l0 (omega (arith, below, per_second_fits unit)) in
    let f2 : field order text 8 4 ≡ length p.bytes = field_again order 4 (length p.bytes) 8 (b0 ++ b1) _ text e2 s1 (omega (arith, w.bytes)) in
    let f3 : field order text 12 4 ≡ p.len = field_again order 4 p.len 12 (b0 ++ b1 ++ b2) _ text e3 s2 w.on_the_wire in
    let d : drop 16 text ≡ p.bytes ++ rest = ap (drop 16) e4 ∙ drop_at (b0 ++ b1 ++ b2 ++ b3) (p.bytes ++ rest) 16 s3 in
    let size : length text ≡ 16 + (length p.bytes + length rest) = omega (arith, ap length e4, length-append (b0 ++ b1 ++ b2 ++ b3) (p.bytes ++ rest), length-append p.bytes rest) in
    let whole : length (b0 ++ b1 ++ b2 ++ b3 ++ p.bytes) ≡ 16 + length p.bytes = omega (arith, length-append (b0 ++ b1 ++ b2 ++ b3) p.bytes) in
    let r : IsRecord order unit text (packet p.sec (x1 * nanos_in unit) p.len p.bytes) rest = record {
      size = omega (arith, size);
      seconds = f0;
      below_a_second = rw f1 below;
      nanos = rw f1 refl;
      short = rw f2 w.bytes;
      on_the_wire = f3;
      whole = rw f2 (omega (arith, size));
      bytes = rw (f2, d) (take_at p.bytes rest (length p.bytes) refl);
      follows = rw f2 (drop_at (b0 ++ b1 ++ b2 ++ b3 ++ p.bytes) rest (16 + length p.bytes) whole);
    } in
    subst (λ (q : Packet). IsRecord order unit text q rest) (in_units-packet unit p) r

-- records are read again, one after the other
records_again : (order : Order) (unit : TimeUnit) (ps : List Packet) (rest : List ℕ) → AllByRecursion IsWritable ps
    → AreRecords order unit (flat_map (record_text order unit) ps ++ rest) (map (in_units unit) ps) rest
records_again order unit [] rest w = refl
records_again order unit (p ∷ ps) rest w =
    let f = record_text order unit in
    let e : flat_map f (p ∷ ps) ++ rest ≡ f p ++ (flat_map f ps ++ rest) = ap (λ (t : List ℕ). t ++ rest) (flat_map-cons f p ps) ∙ append_assoc (f p) (flat_map f ps) rest in
    let after = flat_map f ps ++ rest in
    (after, subst (λ (t : List ℕ). IsRecord order unit t (in_units unit p) after) (sym e) (record_again order unit p after w.0), records_again order unit ps rest w.1)

-- the header is read again
header_again : (order : Order) (unit : TimeUnit) (snap : ℕ) (rest : List ℕ) → snap < 2 ^ 32
    → IsHeader order (header_text order unit snap ++ rest) unit snap × (drop 24 (header_text order unit snap ++ rest) ≡ rest)
unfolding header_text
header_again order unit snap rest h =
    let b0 = bytes_in order 4 (magic_of unit) in
    let b1 = bytes_in order 2 2 in
    let b2 = bytes_in order 2 4 in
    let b3 = bytes_in order 4 0 in
    let b5 = bytes_in order 4 snap in
    let b6 = bytes_in order 4 1 in
    let whole = b0 ++ b1 ++ b2 ++ b3 ++ b3 ++ b5 ++ b6 in
    let text = whole ++ rest in
    let l0 : length b0 ≡ 4 = length-bytes_in order 4 (magic_of unit) in
    let l1 : length b1 ≡ 2 = length-bytes_in order 2 2 in
    let l2 : length b2 ≡ 2 = length-bytes_in order 2 4 in
    let l3 : length b3 ≡ 4 = length-bytes_in order 4 0 in
    let l5 : length b5 ≡ 4 = length-bytes_in order 4 snap in
    let l6 : length b6 ≡ 4 = length-bytes_in order 4 1 in
    let s1 : length (b0 ++ b1) ≡ 6 = omega (arith, length-append b0 b1) in
    let s2 : length (b0 ++ b1 ++ b2) ≡ 8 = omega (arith, length-append (b0 ++ b1) b2) in
    let s3 : length (b0 ++ b1 ++ b2 ++ b3) ≡ 12 = omega (arith, length-append (b0 ++ b1 ++ b2) b3) in
    let s4 : length (b0 ++ b1 ++ b2 ++ b3 ++ b3) ≡ 16 = omega (arith, length-append (b0 ++ b1 ++ b2 ++ b3) b3) in
    let s5 : length (b0 ++ b1 ++ b2 ++ b3 ++ b3 ++ b5) ≡ 20 = omega (arith, length-append (b0 ++ b1 ++ b2 ++ b3 ++ b3) b5) in
    let s6 : length whole ≡ 24 = omega (arith, length-append (b0 ++ b1 ++ b2 ++ b3 ++ b3 ++ b5) b6) in
    let e0 : text ≡ b0 ++ (b1 ++ (b2 ++ (b3 ++ (b3 ++ (b5 ++ (b6 ++ rest)))))) = simp append_assoc in
    let e1 : text ≡ b0 ++ (b1 ++ (b2 ++ (b3 ++ (b3 ++ (b5 ++ (b6 ++ rest)))))) = simp append_assoc in
    let e2 : text ≡ (b0 ++ b1) ++ (b2 ++ (b3 ++ (b3 ++ (b5 ++ (b6 ++ rest))))) = simp append_assoc in
    let e5 : text ≡ (b0 ++ b1 ++ b2 ++ b3 ++ b3) ++ (b5 ++ (b6 ++ rest)) = simp append_assoc in
    let e6 : text ≡ (b0 ++ b1 ++ b2 ++ b3 ++ b3 ++ b5) ++ (b6 ++ rest) = simp append_assoc in (
      record {
        size = omega (arith, length-append whole rest);
        magic = field_again order 4 (magic_of unit) 0 [] _ text e0 refl (magic_fits unit);
        major = field_again order 2 2 4 b0 _ text e1 l0 (omega arith);
        minor = field_again order 2 4 6 (b0 ++ b1) _ text e2 s1 (omega arith);
        snapshot = field_again order 4 snap 16 (b0 ++ b1 ++ b2 ++ b3 ++ b3) _ text e5 s4 h;
        link_type = field_again order 4 1 20 (b0 ++ b1 ++ b2 ++ b3 ++ b3 ++ b5) _ text e6 s5 (omega arith);
      },
      drop_at whole rest 24 s6,
    )

-- what the written text of a list holds is that list
pub held_again : (order : Order) (unit : TimeUnit) (snap : ℕ) (ps : List Packet) → snap < 2 ^ 32 → All IsWritable ps
    → Holds (encoded order unit snap ps) order unit snap (map (in_units unit) ps) None
unfolding encoded
held_again order unit snap ps h w =
    let body = flat_map (record_text order unit) ps in
    let header = header_again order unit snap body h in
    let again = rw append-nil at (records_again order unit ps [] (recursion_from_All IsWritable ps w)) in
    let records : AreRecords order unit (drop 24 (header_text order unit snap ++ body)) (map (in_units unit) ps) [] =
    subst (λ (t : List ℕ). AreRecords order unit t (map (in_units unit) ps) []) (sym header.1) again in
    record {
      rest = [];
      reads = record { header = header.0; records = records };
      longest = λ others after s. longest_records order unit _ (map (in_units unit) ps) others [] after records (NoRecord-nil order unit [] refl) s.records;
      ends = refl;
    }
