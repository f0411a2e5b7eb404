-- What is read piece by piece.
use Rattle.std.proofs.Common.{◌≡◌, ℕ, ◌-◌, ◌+◌, ◌*◌, ◌<◌, ◌≤◌, ◌⊎◌, inl, inr, List, [], ◌∷◌, ◌++◌, length, take, drop, slice_range, Option, Some, None, IfSome, refl, sym, ap, subst, ◌∙◌, arith, length-take, length-take-le, length-drop, length-append, drop-drop, take-append-drop}
use Rattle.std.proofs.lemmas.List.{append-nil, drop-take, drop-append-le, take-append-le, take-take, nil_from_length}
use Rattle.std.specs.Io.KnownBytes.{IsAtEnd}
use Rattle.byteorder.specs.Numbers.{little_from-append, big_from-append}
use Rattle.savefile.specs.declared.fault.Fault.{Fault}
use Rattle.savefile.specs.declared.fault.Fault.TheVariants.{ShortHeader, NotSavefile, Version, LinkType, TornRecord, BadFraction, TooLong, NoMemory, Device, Failed, CountFull}
use Rattle.savefile.specs.declared.header.Order.{Order}
use Rattle.savefile.specs.declared.header.Order.TheVariants.{Little, Big}
use Rattle.savefile.specs.declared.header.Unit.{Unit as TimeUnit}
use Rattle.savefile.specs.declared.packet.Packet.{Packet}
use Rattle.savefile.specs.Savefile.{captured, field, nanos_in, number_in, per_second, AreRecords, IsHeader, IsRecord, IsSavefile, RefusesHeader}
use Rattle.savefile.proofs.Records.{AreRecords-push}

-- nothing is taken away
pub minus_nothing : (n : ℕ) → n - 0 ≡ n
minus_nothing n = omega arith

-- a part of a list without its first m items
pub slice_range-further : (xs : List ℕ) (a e m : ℕ) → a + m ≤ e → slice_range xs (a + m) e ≡ drop m (slice_range xs a e)
slice_range-further xs a e m h =
    let whole : m + (e - (a + m)) ≡ e - a = omega arith in
    ap (take (e - (a + m))) (sym (drop-drop m a xs))
    ∙ sym (drop-take m (e - (a + m)) (drop a xs))
    ∙ ap (λ k. drop m (take k (drop a xs))) whole

-- how many items a part of a list has
pub length-slice_range : (xs : List ℕ) (a e : ℕ) → a ≤ e → e ≤ length xs → length (slice_range xs a e) ≡ e - a
length-slice_range xs a e h k = omega (arith, length-take (e - a) (drop a xs), length-drop a xs)

-- what a source has left: enough was read, or it is nothing
pub known_rest : (left : Option (List ℕ)) (P : Type 0) → P ⊎ IsAtEnd left → (rest : List ℕ) × IfSome left (λ bytes. bytes ≡ rest) × (P ⊎ (rest ≡ []))
known_rest None P h = ([], tt, inr refl)
known_rest (Some xs) P (inl p) = (xs, refl, inl p)
known_rest (Some xs) P (inr e) = ([], e, inr refl)

-- ---- A text and what follows it

-- the number in the first bytes of a text is the same whatever follows it
number_in-first : (order : Order) (n : ℕ) (xs ys : List ℕ) → n ≤ length xs → number_in order n (xs ++ ys) ≡ number_in order n xs
number_in-first Little n xs ys h = little_from-append n xs ys h
number_in-first Big n xs ys h = big_from-append n xs ys h

-- a field inside a text is the same whatever follows it
pub field-front : (order : Order) → (xs ys : List ℕ) (offset n : ℕ) → offset + n ≤ length xs → field order (xs ++ ys) offset n ≡ field order xs offset n
field-front order xs ys offset n h =
    ap (number_in order n) (drop-append-le offset xs ys (omega arith)) ∙ number_in-first order n (drop offset xs) ys (omega (arith, length-drop offset xs))

-- a record stands in a text whatever follows it
pub IsRecord-front : (order : Order) → (unit : TimeUnit) (xs ys : List ℕ) (p : Packet) (after : List ℕ)
    → IsRecord order unit xs p after → IsRecord order unit (xs ++ ys) p (after ++ ys)
IsRecord-front order unit xs ys p after r =
    let size : 16 ≤ length xs = r.size in
    let whole : 16 + captured order xs ≤ length xs = r.whole in
    let all : length (xs ++ ys) ≡ length xs + length ys = length-append xs ys in
    let sec : field order (xs ++ ys) 0 4 ≡ field order xs 0 4 = field-front order xs ys 0 4 (omega arith) in
    let part : field order (xs ++ ys) 4 4 ≡ field order xs 4 4 = field-front order xs ys 4 4 (omega arith) in
    let many : field order (xs ++ ys) 8 4 ≡ field order xs 8 4 = field-front order xs ys 8 4 (omega arith) in
    let wire : field order (xs ++ ys) 12 4 ≡ field order xs 12 4 = field-front order xs ys 12 4 (omega arith) in
    let c = captured order xs in
    let inside : c ≤ length (drop 16 xs) = omega (arith, length-drop 16 xs) in
    record {
      size = omega arith;
      seconds = sec ∙ r.seconds;
      below_a_second = subst (λ (n : ℕ). n < per_second unit) (sym part) r.below_a_second;
      nanos = ap (λ (n : ℕ). n * nanos_in unit) part ∙ r.nanos;
      short = subst (λ (n : ℕ). n ≤ 262144) (sym many) r.short;
      on_the_wire = wire ∙ r.on_the_wire;
      whole = subst (λ (n : ℕ). 16 + n ≤ length (xs ++ ys)) (sym many) (omega arith);
      bytes = ap (λ (n : ℕ). take n (drop 16 (xs ++ ys))) many ∙ ap (take c) (drop-append-le 16 xs ys size) ∙ take-append-le c (drop 16 xs) ys inside ∙ r.bytes;
      follows = ap (λ (n : ℕ). drop (16 + n) (xs ++ ys)) many ∙ drop-append-le (16 + c) xs ys whole ∙ ap (λ (t : List ℕ). t ++ ys) r.follows;
    }

-- and without what follows it
pub IsRecord-alone : (order : Order) → (unit : TimeUnit) (text : List ℕ) (p : Packet) (after : List ℕ)
    → IsRecord order unit text p after → (alone : List ℕ) × (text ≡ alone ++ after) × IsRecord order unit alone p []
IsRecord-alone order unit text p after r =
    let size : 16 ≤ length text = r.size in
    let whole : 16 + captured order text ≤ length text = r.whole in
    let c = captured order text in
    let xs = take (16 + c) text in
    let ys = drop (16 + c) text in
    let is : xs ++ ys ≡ text = take-append-drop (16 + c) text in
    let len : length xs ≡ 16 + c = length-take-le (16 + c) text whole in
    let same : (offset : ℕ) → offset + 4 ≤ 16 → field order xs offset 4 ≡ field order text offset 4 =
    λ offset h. sym (field-front order xs ys offset 4 (omega (arith, len, h))) ∙ ap (λ (t : List ℕ). field order t offset 4) is in
    let many : captured order xs ≡ c = same 8 (omega arith) in
    let inside : drop 16 xs ≡ take c (drop 16 text) = drop-take 16 c text in (
      xs,
      sym is ∙ ap (λ (t : List ℕ). xs ++ t) r.follows,
      record {
        size = omega (arith, len);
        seconds = same 0 (omega arith) ∙ r.seconds;
        below_a_second = subst (λ (n : ℕ). n < per_second unit) (sym (same 4 (omega arith))) r.below_a_second;
        nanos = ap (λ (n : ℕ). n * nanos_in unit) (same 4 (omega arith)) ∙ r.nanos;
        short = subst (λ (n : ℕ). n ≤ 262144) (sym many) r.short;
        on_the_wire = same 12 (omega arith) ∙ r.on_the_wire;
        whole = omega (arith, len, many);
        bytes = ap (λ (n : ℕ). take n (drop 16 xs)) many ∙ ap (take c) inside ∙ take-take c c (drop 16 text) (omega arith) ∙ r.bytes;
        follows = nil_from_length (drop (16 + captured order xs) xs) (omega (arith, length-drop (16 + captured order xs) xs, len, many));
      },
    )

-- records stand in a text whatever follows it
pub AreRecords-front : (order : Order) → (unit : TimeUnit) (xs ys : List ℕ) (ps : List Packet) (rest : List ℕ)
    → AreRecords order unit xs ps rest → AreRecords order unit (xs ++ ys) ps (rest ++ ys)
AreRecords-front order unit xs ys [] rest e = ap (λ (t : List ℕ). t ++ ys) e
AreRecords-front order unit xs ys (p ∷ ps) rest e =
    (e.0 ++ ys, IsRecord-front order unit xs ys p e.0 e.1, AreRecords-front order unit e.0 ys ps rest e.2)

-- a file header stands in a text whatever follows it
pub IsHeader-front : (order : Order) → (xs ys : List ℕ) (unit : TimeUnit) (snap : ℕ) → IsHeader order xs unit snap → IsHeader order (xs ++ ys) unit snap
IsHeader-front order xs ys unit snap h =
    let size : 24 ≤ length xs = h.size in
    let same : (offset n : ℕ) → offset + n ≤ 24 → field order (xs ++ ys) offset n ≡ field order xs offset n = λ offset n k. field-front order xs ys offset n (omega (arith, size, k)) in
    record {
      size = omega (arith, length-append xs ys);
      magic = same 0 4 (omega arith) ∙ h.magic;
      major = same 4 2 (omega arith) ∙ h.major;
      minor = same 6 2 (omega arith) ∙ h.minor;
      snapshot = same 16 4 (omega arith) ∙ h.snapshot;
      link_type = same 20 4 (omega arith) ∙ h.link_type;
    }

-- a savefile is one whatever follows it, which its rest then has
pub IsSavefile-front : (xs ys : List ℕ) (order : Order) (unit : TimeUnit) (snap : ℕ) (ps : List Packet) (rest : List ℕ)
    → IsSavefile xs order unit snap ps rest → IsSavefile (xs ++ ys) order unit snap ps (rest ++ ys)
IsSavefile-front xs ys order unit snap ps rest s = record {
  header = IsHeader-front order xs ys unit snap s.header;
  records = subst (λ (t : List ℕ). AreRecords order unit t ps (rest ++ ys)) (sym (drop-append-le 24 xs ys s.header.size))
      (AreRecords-front order unit (drop 24 xs) ys ps rest s.records);
}

-- one record more
pub IsSavefile-push : (text more after : List ℕ) (order : Order) (unit : TimeUnit) (snap : ℕ) (ps : List Packet) (p : Packet)
    → IsSavefile text order unit snap ps [] → IsRecord order unit more p after → IsSavefile (text ++ more) order unit snap (ps ++ p ∷ []) after
IsSavefile-push text more after order unit snap ps p s r =
    let before = IsSavefile-front text more order unit snap ps [] s in
    record { header = before.header; records = AreRecords-push order unit (drop 24 (text ++ more)) ps p more after before.records r }

-- a file header stands in its 24 bytes alone
pub IsHeader-alone : (order : Order) → (text : List ℕ) (unit : TimeUnit) (snap : ℕ) → IsHeader order text unit snap → IsHeader order (take 24 text) unit snap
IsHeader-alone order text unit snap h =
    let size : 24 ≤ length text = h.size in
    let len : length (take 24 text) ≡ 24 = length-take-le 24 text size in
    let is : take 24 text ++ drop 24 text ≡ text = take-append-drop 24 text in
    let same : (offset n : ℕ) → offset + n ≤ 24 → field order (take 24 text) offset n ≡ field order text offset n =
    λ offset n k. sym (field-front order (take 24 text) (drop 24 text) offset n (omega (arith, len, k))) ∙ ap (λ (t : List ℕ). field order t offset n) is in
    record {
      size = omega (arith, len);
      magic = same 0 4 (omega arith) ∙ h.magic;
      major = same 4 2 (omega arith) ∙ h.major;
      minor = same 6 2 (omega arith) ∙ h.minor;
      snapshot = same 16 4 (omega arith) ∙ h.snapshot;
      link_type = same 20 4 (omega arith) ∙ h.link_type;
    }

-- and is a savefile without packets
pub IsSavefile-header : (text : List ℕ) (order : Order) (unit : TimeUnit) (snap : ℕ) → IsHeader order text unit snap → IsSavefile (take 24 text) order unit snap [] []
IsSavefile-header text order unit snap h = record {
  header = IsHeader-alone order text unit snap h;
  records = nil_from_length (drop 24 (take 24 text)) (omega (arith, length-drop 24 (take 24 text), length-take 24 text));
}

-- a header that is refused is refused whatever follows its 24 bytes
refused_front : (text rest : List ℕ) (fault : Fault) → 24 ≤ length text → RefusesHeader text fault → RefusesHeader (text ++ rest) fault
refused_front text rest ShortHeader size r = absurd (omega (arith, r, size))
refused_front text rest NotSavefile size r = (
  omega (arith, size, length-append text rest),
  λ order unit magic. r.1 order unit (sym (field-front order text rest 0 4 (omega (arith, size))) ∙ magic),
)
refused_front text rest Version size (long, order, unit, magic, wrong) =
    let same : (offset n : ℕ) → offset + n ≤ 24 → field order (text ++ rest) offset n ≡ field order text offset n = λ offset n k. field-front order text rest offset n (omega (arith, size, k)) in
    (omega (arith, size, length-append text rest), order, unit, same 0 4 (omega arith) ∙ magic, λ v. wrong (sym (same 4 2 (omega arith)) ∙ v.0, sym (same 6 2 (omega arith)) ∙ v.1))
refused_front text rest LinkType size (long, order, unit, magic, version, wrong) =
    let same : (offset n : ℕ) → offset + n ≤ 24 → field order (text ++ rest) offset n ≡ field order text offset n = λ offset n k. field-front order text rest offset n (omega (arith, size, k)) in
    (omega (arith, size, length-append text rest), order, unit, same 0 4 (omega arith) ∙ magic, (same 4 2 (omega arith) ∙ version.0, same 6 2 (omega arith) ∙ version.1), λ e. wrong (sym (same 20 4 (omega arith)) ∙ e))
refused_front text rest (TornRecord place) size r = absurd r
refused_front text rest (BadFraction place) size r = absurd r
refused_front text rest (TooLong place) size r = absurd r
refused_front text rest NoMemory size r = absurd r
refused_front text rest Device size r = absurd r
refused_front text rest Failed size r = absurd r
refused_front text rest CountFull size r = absurd r

-- where the source was read far enough, or to its end, its whole text is refused
pub refused_whole : (text waiting : List ℕ) (left : Option (List ℕ)) (fault : Fault) → text ≡ waiting → (24 ≤ length waiting) ⊎ IsAtEnd left → RefusesHeader text fault
    → (rest : List ℕ) × IfSome left (λ bytes. bytes ≡ rest) × RefusesHeader (waiting ++ rest) fault
refused_whole text waiting left fault is enough r =
    let known = known_rest left (24 ≤ length waiting) enough in
    let refused : RefusesHeader waiting fault = subst (λ (t : List ℕ). RefusesHeader t fault) is r in (
      known.0,
      known.1,
      elim known.2 [
        | inl size ↦ refused_front waiting known.0 fault size refused
        | inr nothing ↦ subst (λ (t : List ℕ). RefusesHeader t fault) (sym (ap (λ (t : List ℕ). waiting ++ t) nothing ∙ append-nil waiting)) refused
      ],
    )
