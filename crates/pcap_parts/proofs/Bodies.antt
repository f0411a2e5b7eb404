-- The headers and the bodies of the files of parts.
use Rattle.std.proofs.Common.{◌≡◌, ◌≢◌, ℕ, suc, ◌+◌, ◌<◌, List, [], ◌∷◌, ◌++◌, length, take, drop, get_or, All, Option, Some, None, IfSome, refl, sym, ap, subst, ◌∙◌, inl, inr, append_assoc, append-nil, arith}
use Rattle.std.specs.Prelude.{IfErr, IsSome, OnOk, Result, Ok, Err}
use Rattle.std.specs.List.{AllZip, Contains, concat}
use Rattle.std.proofs.lemmas.Bool.{cases_lt}
use Rattle.std.proofs.lemmas.List.{take_all, take_more, take-append-le}
use Rattle.std.proofs.lemmas.List.Elements.{All-push, Contains-get_or}
use Rattle.std.proofs.KnownBytes.{Appends-nil, Appends-trans}
use Rattle.std.specs.Io.KnownBytes.{Appends, Consumes, IsAtEnd}
use Rattle.bpfvm.specs.declared.insn.Insn.{Insn}
use Rattle.savefile.specs.declared.header.Order.{Order}
use Rattle.savefile.specs.declared.header.Unit.{Unit as TimeUnit}
use Rattle.savefile.specs.declared.packet.Packet.{Packet}
use Rattle.pcap_cut.specs.Cut.{cut_text}
use Rattle.pcap_parts.specs.declared.part.PartCut.{PartCut}
use Rattle.pcap_parts.specs.Whole.{all_of, without_headers}
use Rattle.pcap_parts.proofs.Joining.{behind, cuts_of_parts}
use Rattle.pcap_parts.specs.Copying.{Copies, IsOtherSize}
use Rattle.pcap_parts.specs.declared.writing.WriteFault.{WriteFault}
use Rattle.pcap_parts.specs.declared.writing.WriteFault.TheVariants.{OtherHeader, OtherSize, Unread, Output, NoMemory}
use Rattle.pcap_parts.specs.Writing.{HasBody, HasHeader, HasOwnBody, HaveOneHeader, IsFileFault, IsHeaderFault, IsOtherHeader, IsWriteFault, IsWritten, OneOf, Texts, TookBodies, TookBody}

-- ---- One file

some_bytes : (o : Option (List ℕ)) → IsSome o → (bytes : List ℕ) × (o ≡ Some bytes)
some_bytes None some = absurd cc
some_bytes (Some bytes) some = (bytes, refl)

header_of_left : (a b : Option (List ℕ)) (found : List ℕ) → IsSome a → Consumes a b found → (body : List ℕ) × (a ≡ Some (found ++ body))
header_of_left None b found some gave = absurd cc
header_of_left (Some xs) None found some gave = absurd gave
header_of_left (Some xs) (Some ys) found some gave = (ys, ap (λ (t : List ℕ). Some t) gave)

pub has_header : (text : Texts) (part : PartCut) (a b : Option (List ℕ)) (found : List ℕ) → a ≡ text part.file.now → IsSome (text part.file.now)
    → Consumes a b found → length found ≡ 24 → HasHeader text found part
has_header text part a b found is some gave long =
    let (body, whole) = header_of_left a b found (subst IsSome (sym is) some) gave in (long, body, sym is ∙ whole)

-- a file that is shorter than a header has another size than is said, or less is said
pub small_file : (text : Texts) (part : PartCut) (a : Option (List ℕ)) → a ≡ text part.file.now → IsSome (text part.file.now) → IfSome a (λ xs. length xs < 24)
    → (bytes : List ℕ) × (text part.file.now ≡ Some bytes) × IsOtherSize part.sent bytes
small_file text part a is some small =
    let (bytes, has) = some_bytes (text part.file.now) some in
    let short : length bytes < 24 = subst (λ (o : Option (List ℕ)). IfSome o (λ xs. length xs < 24)) (is ∙ has) small in (
      bytes,
      has,
      elim (cases_lt part.sent 24) [
        | inl few ↦ inl few
        | inr many ↦ inr (λ same. absurd (omega (arith, same, many, short)))
      ],
    )

pub other_file : (text : Texts) (part : PartCut) (a : Option (List ℕ)) → a ≡ text part.file.now → IsSome (text part.file.now) → IfSome a (IsOtherSize part.sent)
    → (bytes : List ℕ) × (text part.file.now ≡ Some bytes) × IsOtherSize part.sent bytes
other_file text part a is some other =
    let (bytes, has) = some_bytes (text part.file.now) some in
    (bytes, has, subst (λ (o : Option (List ℕ)). IfSome o (IsOtherSize part.sent)) (is ∙ has) other)

all_given : (a b : Option (List ℕ)) (bytes : List ℕ) → IsSome a → Consumes a b bytes → IsAtEnd b → a ≡ Some bytes
all_given None b bytes some gave ended = absurd cc
all_given (Some xs) None bytes some gave ended = absurd gave
all_given (Some xs) (Some ys) bytes some gave ended =
    ap (λ (t : List ℕ). Some t) (gave ∙ ap (λ (t : List ℕ). bytes ++ t) ended ∙ append-nil bytes)

pub took_body : (text : Texts) (part : PartCut) (a b t u : Option (List ℕ)) → a ≡ text part.file.now → IsSome (text part.file.now)
    → Copies a b t u part.sent → TookBody text t u part
took_body text part a b t u is some copies =
    let whole = all_given a b (copies.header ++ copies.body) (subst IsSome (sym is) some) copies.given copies.ended in
    (copies.body, (copies.header, copies.header_size, (sym is ∙ whole, sym copies.size)), copies.taken)

-- ---- Several

concat_push : (xs : List (List ℕ)) (x : List ℕ) → concat (xs ++ x ∷ []) ≡ concat xs ++ x
concat_push [] x = append-nil x
concat_push (y ∷ ys) x = ap (λ (t : List ℕ). y ++ t) (concat_push ys x) ∙ sym (append_assoc y (concat ys) x)

zip_push : (text : Texts) (ps : List PartCut) (bodies : List (List ℕ)) (p : PartCut) (body : List ℕ) → AllZip (HasOwnBody text) ps bodies → HasOwnBody text p body
    → AllZip (HasOwnBody text) (ps ++ p ∷ []) (bodies ++ body ∷ [])
zip_push text [] [] p body zip has = (has, tt)
zip_push text [] (b ∷ bs) p body zip has = absurd zip
zip_push text (q ∷ ps) [] p body zip has = absurd zip
zip_push text (q ∷ ps) (b ∷ bs) p body zip has = (zip.0, zip_push text ps bs p body zip.1 has)

pub no_bodies : (text : Texts) (a : Option (List ℕ)) → TookBodies text a a []
no_bodies text a = ([], tt, Appends-nil a)

pub more_bodies : (text : Texts) (parts : List PartCut) (a b c : Option (List ℕ)) (i : ℕ) (d : PartCut) → i < length parts → TookBodies text a b (take i parts)
    → TookBody text b c (get_or parts i d) → TookBodies text a c (take (i + 1) parts)
more_bodies text parts a b c i d lt (bodies, zip, took) (body, has, takes) =
    subst (TookBodies text a c) (sym (take_more parts i d lt)) (
      bodies ++ body ∷ [],
      zip_push text (take i parts) bodies (get_or parts i d) body zip has,
      subst (Appends a c) (sym (concat_push bodies body)) (Appends-trans a b c (concat bodies) body took takes),
    )

pub more_headers : (text : Texts) (parts : List PartCut) (header found : List ℕ) (i : ℕ) (d : PartCut) → i < length parts → All (HasHeader text header) (take i parts)
    → found ≡ header → HasHeader text found (get_or parts i d) → All (HasHeader text header) (take (i + 1) parts)
more_headers text parts header found i d lt all same one =
    subst (λ (ps : List PartCut). All (HasHeader text header) ps) (sym (take_more parts i d lt))
    (All-push (HasHeader text header) (take i parts) (get_or parts i d) all (subst (λ (h : List ℕ). HasHeader text h (get_or parts i d)) same one))

-- a fault of the next one
pub one_of : (Holds : PartCut → Type 0) (parts : List PartCut) (i : ℕ) (d : PartCut) → i < length parts → Holds (get_or parts i d) → OneOf Holds parts
one_of Holds parts i d lt is = (get_or parts i d, Contains-get_or parts i d lt, is)

-- ---- One header

some_same : (xs ys : List ℕ) → Some xs ≡ Some ys → xs ≡ ys
some_same xs ys is = ap (λ (o : Option (List ℕ)). elim o [ None ↦ [] | Some t ↦ t ]) is

pub front_of : (header body : List ℕ) → length header ≡ 24 → take 24 (header ++ body) ≡ header
front_of header body long = take-append-le 24 header body (omega (arith, long)) ∙ take_all 24 header (omega (arith, long))

pub same_header : (text : Texts) (part : PartCut) (one other : List ℕ) → HasHeader text one part → HasHeader text other part → one ≡ other
same_header text part one other (long, body, is) (as_long, rest, has) =
    sym (front_of one body long) ∙ ap (take 24) (some_same (one ++ body) (other ++ rest) (sym is ∙ has)) ∙ front_of other rest as_long

under_header : (text : Texts) (part : PartCut) (header body : List ℕ) → HasHeader text header part → HasOwnBody text part body → HasBody text header part body
under_header text part header body has (own, long, (is, size)) =
    let same : own ≡ header = same_header text part own header (long, body, is) has in
    subst (λ (h : List ℕ). HasBody text h part body) same (is, size)

pub all_later : (P : PartCut → Type 0) (p : PartCut) (ps : List PartCut) → All P (p ∷ ps) → All P ps
all_later P p ps all = λ k d lt. all (suc k) d (omega (arith, lt))

pub under_one : (text : Texts) (header : List ℕ) (parts : List PartCut) (bodies : List (List ℕ)) → All (HasHeader text header) parts
    → AllZip (HasOwnBody text) parts bodies → AllZip (HasBody text header) parts bodies
under_one text header [] [] all zip = tt
under_one text header [] (b ∷ bs) all zip = absurd zip
under_one text header (p ∷ ps) [] all zip = absurd zip
under_one text header (p ∷ ps) (b ∷ bs) all zip =
    (under_header text p header b (all 0 p (omega arith)) zip.0, under_one text header ps bs (all_later (HasHeader text header) p ps all) zip.1)

pub written_of : (text : Texts) (parts : List PartCut) (header : List ℕ) (a b c : Option (List ℕ)) → length header ≡ 24
    → All (HasHeader text header) parts → Appends a b header → TookBodies text b c parts → IsWritten text a c parts
written_of text parts header a b c size all took (bodies, zip, takes) = record {
  header = header;
  header_size = size;
  bodies = bodies;
  have = under_one text header parts bodies all zip;
  took = Appends-trans a b c header (concat bodies) took takes;
}

-- one of them has another header than the first one
pub unlike : (text : Texts) (parts : List PartCut) (header : List ℕ) (first odd : PartCut) (found : List ℕ) → Contains parts first → HasHeader text header first
    → Contains parts odd → HasHeader text found odd → found ≢ header → HaveOneHeader text parts → ⊥
unlike text parts header first odd found one has other finds differ (common, all) =
    let at : (p : PartCut) → Contains parts p → HasHeader text common p = λ p (k, lt, is). subst (HasHeader text common) is (all k p lt) in
    differ (same_header text odd found common finds (at odd other) ∙ same_header text first common header (at first one) has)

-- ---- Faults

pub on_ok : {T E A B : Type 0} (r : Result T E) → (A → B) → OnOk r A → OnOk r B
on_ok (Ok x) go a = go a
on_ok (Err e) go a = tt

pub if_err : {T E : Type 0} (P Q : E → Type 0) (r : Result T E) → ((e : E) → P e → Q e) → IfErr r P → IfErr r Q
if_err P Q (Ok x) go p = tt
if_err P Q (Err e) go p = go e p

pub fault_of_one : {E : Type 0} (text : Texts) (parts : List PartCut) (fault : WriteFault E) → OneOf (IsFileFault text fault) parts → IsWriteFault text parts fault
fault_of_one text parts (OtherHeader path) (p, given, bad) = absurd bad
fault_of_one text parts (OtherSize path) one = one
fault_of_one text parts (Unread path failure) one = one
fault_of_one text parts Output one = tt
fault_of_one text parts NoMemory one = tt

-- the first part's header is another one
other_header : (text : Texts) (parts : List PartCut) (header found : List ℕ) (d : PartCut) → 0 < length parts → HasHeader text header (get_or parts 0 d) → found ≢ header
    → IsOtherHeader text parts found
other_header text [] header found d some has differ = omega (arith, some)
other_header text (p ∷ ps) header found d some has differ = (header, has, differ)

pub fault_of_headers : {E : Type 0} (text : Texts) (parts : List PartCut) (header like : List ℕ) (d : PartCut) (fault : WriteFault E) → like ≡ header
    → 0 < length parts → HasHeader text header (get_or parts 0 d) → IsHeaderFault text parts like fault → IsWriteFault text parts fault
fault_of_headers text parts header like d (OtherHeader path) same some has (odd, given, (is, (found, finds, differ))) =
    let first = get_or parts 0 d in
    let has_like = subst (λ (h : List ℕ). HasHeader text h first) (sym same) has in (
      (odd, given, (is, (found, finds, other_header text parts like found d some has_like differ))),
      unlike text parts like first odd found (Contains-get_or parts 0 d some) has_like given finds differ,
    )
fault_of_headers text parts header like d (OtherSize path) same some has fault = fault
fault_of_headers text parts header like d (Unread path failure) same some has fault = fault
fault_of_headers text parts header like d Output same some has fault = tt
fault_of_headers text parts header like d NoMemory same some has fault = tt

-- ---- The cut of the whole

bodies_of : (text : Texts) (cut : List Packet → List ℕ) (header : List ℕ) → length header ≡ 24 → (ps : List PartCut) (bs : List (List ℕ)) (qs : List (List Packet))
    → AllZip (HasBody text header) ps bs → AllZip (λ p q. text p.file.now ≡ Some (cut q)) ps qs → concat bs ≡ without_headers cut qs
bodies_of text cut header long [] [] [] have cuts = refl
bodies_of text cut header long [] [] (q ∷ qs) have cuts = absurd cuts
bodies_of text cut header long [] (b ∷ bs) qs have cuts = absurd have
bodies_of text cut header long (p ∷ ps) [] qs have cuts = absurd have
bodies_of text cut header long (p ∷ ps) (b ∷ bs) [] have cuts = absurd cuts
bodies_of text cut header long (p ∷ ps) (b ∷ bs) (q ∷ qs) (has, have) (is, cuts) =
    let whole : header ++ b ≡ cut q = some_same (header ++ b) (cut q) (sym has.0 ∙ is) in
    let body : b ≡ drop 24 (cut q) = sym (behind header b long) ∙ ap (drop 24) whole in
    ap (λ (t : List ℕ). t ++ concat bs) body ∙ ap (λ (t : List ℕ). drop 24 (cut q) ++ t) (bodies_of text cut header long ps bs qs have cuts)

joined_cut : (text : Texts) (program : List Insn) (snap : ℕ) (order : Order) (unit : TimeUnit) (parts : List PartCut) (lists : List (List Packet)) (bodies : List (List ℕ))
    (header new : List ℕ) → parts ≢ [] → AllZip (λ part packets. text part.file.now ≡ Some (cut_text program snap order unit packets)) parts lists
    → length header ≡ 24 → AllZip (HasBody text header) parts bodies → new ≡ header ++ concat bodies → new ≡ cut_text program snap order unit (all_of lists)
joined_cut text program snap order unit [] lists bodies header new some cuts long have took = absurd (some refl)
joined_cut text program snap order unit (p ∷ ps) [] bodies header new some cuts long have took = absurd cuts
joined_cut text program snap order unit (p ∷ ps) (q ∷ qs) [] header new some cuts long have took = absurd have
joined_cut text program snap order unit (p ∷ ps) (q ∷ qs) (b ∷ bs) header new some (is, cuts) long (has, have) took =
    let cut = cut_text program snap order unit in
    let whole : header ++ b ≡ cut q = some_same (header ++ b) (cut q) (sym has.0 ∙ is) in
    took
    ∙ sym (append_assoc header b (concat bs))
    ∙ ap (λ (t : List ℕ). t ++ concat bs) whole
    ∙ ap (λ (t : List ℕ). cut q ++ t) (bodies_of text cut header long ps bs qs have cuts)
    ∙ sym (cuts_of_parts program snap order unit q qs)

pub joins_the_cut : (text : Texts) (program : List Insn) (snap : ℕ) (order : Order) (unit : TimeUnit) (parts : List PartCut) (lists : List (List Packet)) (new : List ℕ)
    → parts ≢ [] → AllZip (λ part packets. text part.file.now ≡ Some (cut_text program snap order unit packets)) parts lists
    → IsWritten text (Some []) (Some new) parts → new ≡ cut_text program snap order unit (all_of lists)
joins_the_cut text program snap order unit parts lists new some cuts written =
    joined_cut text program snap order unit parts lists written.bodies written.header new some cuts written.header_size written.have written.took
