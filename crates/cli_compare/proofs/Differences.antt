-- Packets that are compared one by one.
use Rattle.std.proofs.Common.{◌≡◌, ℕ, suc, ◌+◌, ◌≤◌, ◌⊎◌, inl, inr, Bool, true, false, List, [], ◌∷◌, ◌++◌, length, length-append, map, filter, Option, refl, ap, sym, subst, ◌∙◌, append_assoc, arith}
use Rattle.std.specs.Prelude.{codes}
use Rattle.std.specs.List.{AllByRecursion, flat_map}
use Rattle.std.proofs.lemmas.Grind.{flat_map-append}
use Rattle.std.proofs.lemmas.List.{append-nil, map-append}
use Rattle.std.proofs.lemmas.List.Elements.{filter-append}
use Rattle.std.proofs.KnownBytes.{Appends-trans, Appends-kept}
use Rattle.std.specs.Io.KnownBytes.{Appends}
use Rattle.savefile.specs.declared.packet.Packet.{Packet}
use Rattle.filter_explain.specs.Deciding.{verdict_text}
use Rattle.filter_meaning.specs.declared.verdict.Verdict.{Verdict}
use Rattle.line_text.specs.Sending.{TakesPart}
use Rattle.line_text.specs.Texts.{end_of_line}
use Rattle.cli_answers.specs.declared.form.PacketForm.{PacketForm}
use Rattle.cli_answers.specs.declared.form.PacketForm.TheVariants.{Text, Json}
use Rattle.cli_answers.specs.Answers.{answer, IsAnswer, PutsAnswer}
use Rattle.cli_answers.specs.Objects.{packet_json, verdict_json, IsJsonAnswer, PutsInJson}
use Rattle.cli_answers.specs.Printed.{packet_text}
use Rattle.line_text.proofs.Taking.{TakesPart-then}
use Rattle.cli_answers.specs.declared.printing.Unprinted.{Unprinted}
use Rattle.cli_answers.specs.declared.printing.Unprinted.TheVariants.{NoMemory, Output}
use Rattle.cli_watch.specs.Frames.{is_unseen}
use Rattle.cli_answers.specs.Counts.{more_if}
use Rattle.cli_answers.proofs.Counting.{more-if, one-more}
use Rattle.cli_answers.proofs.Reading.{all-more}
use Rattle.cli_compare.specs.declared.each.DifferenceCounts.{DifferenceCounts}
use Rattle.cli_compare.specs.declared.pair.Agreement.{Agreement}
use Rattle.cli_compare.specs.declared.pair.Agreement.TheVariants.{Same, FirstOnly, SecondOnly}
use Rattle.cli_compare.specs.declared.pair.FilterPair.{FilterPair}
use Rattle.cli_compare.specs.Compared.{difference, IsBegun, IsOf, IsOneBroken, IsPrinted, PrintsOne, PutsBoth}
use Rattle.cli_compare.specs.Pairs.{agreement, AreCounts, Fit, AreDifferences, at_place, counted, Difference, differing, differs, IsDifference, is_first, is_second, Placed, placed}
use Rattle.cli_compare.specs.Printed.{difference_json, difference_line, difference_lines, difference_text, with_both}

-- ---- One packet more

placed-last : (n : ℕ) (ps : List Packet) (p : Packet) → placed n (ps ++ p ∷ []) ≡ placed n ps ++ at_place (n + length ps) p ∷ []
placed-last n [] p =
    let same : n + 0 ≡ n = omega arith in
    ap (λ k. at_place k p ∷ []) (sym same)
placed-last n (q ∷ ps) p =
    let same : suc n + length ps ≡ n + suc (length ps) = omega arith in
    ap (λ (xs : List Placed). at_place n q ∷ xs) (placed-last (suc n) ps p ∙ ap (λ k. placed (suc n) ps ++ at_place k p ∷ []) same)

one-passes : {X : Type 0} (f : X → Bool) (x : X) → f x ≡ true → filter f (x ∷ []) ≡ x ∷ []
one-passes f x is = rw is refl

none-passes : {X : Type 0} (f : X → Bool) (x : X) → f x ≡ false → filter f (x ∷ []) ≡ []
none-passes f x is = rw is refl

differing-last : (pair : FilterPair) (ps : List Packet) (p : Packet) →
    differing pair (ps ++ p ∷ []) ≡ differing pair ps ++ filter (λ (x : Placed). differs pair x.packet) (at_place (length ps) p ∷ [])
differing-last pair ps p =
    let same : 0 + length ps ≡ length ps = omega arith in
    ap (filter (λ (x : Placed). differs pair x.packet)) (placed-last 0 ps p ∙ ap (λ k. placed 0 ps ++ at_place k p ∷ []) same)
    ∙ filter-append (λ (x : Placed). differs pair x.packet) (placed 0 ps) (at_place (length ps) p ∷ [])

-- both filters treat it alike
alike-more : (form : PacketForm) (pair : FilterPair) (ps : List Packet) (p : Packet) (ds : List Difference) → differs pair p ≡ false →
    AreDifferences form pair ps ds → AreDifferences form pair (ps ++ p ∷ []) ds
alike-more form pair ps p ds alike are = record {
  those = are.those ∙ sym (differing-last pair ps p
      ∙ ap (λ (xs : List Placed). differing pair ps ++ xs) (none-passes (λ (x : Placed). differs pair x.packet) (at_place (length ps) p) alike)
      ∙ append-nil (differing pair ps));
  answered = are.answered;
}

-- or not
different-more : (form : PacketForm) (pair : FilterPair) (ps : List Packet) (p : Packet) (ds : List Difference) (d : Difference) → differs pair p ≡ true →
    IsOf form pair (length ps) p d → AreDifferences form pair ps ds → AreDifferences form pair (ps ++ p ∷ []) (ds ++ d ∷ [])
different-more form pair ps p ds d different (place, first, second, one, other) are = record {
  those = map-append (λ (e : Difference). at_place e.place e.first.packet) ds (d ∷ [])
      ∙ ap (λ (xs : List Placed). xs ++ at_place d.place d.first.packet ∷ []) are.those
      ∙ ap (λ (x : Placed). differing pair ps ++ x ∷ []) (ap (λ k. at_place k d.first.packet) place ∙ ap (λ (q : Packet). at_place (length ps) q) first)
      ∙ sym (differing-last pair ps p
      ∙ ap (λ (xs : List Placed). differing pair ps ++ xs) (one-passes (λ (x : Placed). differs pair x.packet) (at_place (length ps) p) different));
  answered = all-more (IsDifference form pair) ds d are.answered (one, other, second ∙ sym first);
}

lines-last : (form : PacketForm) (ds : List Difference) (d : Difference) → difference_lines form (ds ++ d ∷ []) ≡ difference_lines form ds ++ difference_line form d
lines-last form ds d = flat_map-append (difference_line form) ds (d ∷ []) ∙ ap (λ (t : List ℕ). difference_lines form ds ++ t) (append-nil (difference_line form d))

-- ---- The counts

count-more : (f : Packet → Bool) (ps : List Packet) (p : Packet) → f p ≡ true → length (filter f (ps ++ p ∷ [])) ≡ length (filter f ps) + 1
count-more f ps p is =
    ap length (filter-append f ps (p ∷ []) ∙ ap (λ (xs : List Packet). filter f ps ++ xs) (one-passes f p is)) ∙ length-append (filter f ps) (p ∷ [])

count-same : (f : Packet → Bool) (ps : List Packet) (p : Packet) → f p ≡ false → length (filter f (ps ++ p ∷ [])) ≡ length (filter f ps)
count-same f ps p is =
    ap length (filter-append f ps (p ∷ []) ∙ ap (λ (xs : List Packet). filter f ps ++ xs) (none-passes f p is) ∙ append-nil (filter f ps))

unseen-by : (ps : List Packet) (p : Packet) (n : ℕ) → n ≡ length (filter (λ (q : Packet). is_unseen q.bytes) ps) →
    more_if (is_unseen p.bytes) n ≡ length (filter (λ (q : Packet). is_unseen q.bytes) (ps ++ p ∷ []))
unseen-by ps p n is =
    ap (more_if (is_unseen p.bytes)) is ∙ sym (one-more (λ (q : Packet). is_unseen q.bytes) ps p (is_unseen p.bytes) refl)

counts-by : (pair : FilterPair) (ps : List Packet) (p : Packet) (c : DifferenceCounts) (a : Agreement) → agreement pair p ≡ a →
    AreCounts pair c ps → AreCounts pair (counted a (is_unseen p.bytes) c) (ps ++ p ∷ [])
counts-by pair ps p c FirstOnly is are = record {
  packets = ap (λ n. n + 1) are.packets ∙ sym (length-append ps (p ∷ []));
  first = ap (λ n. n + 1) are.first ∙ sym (count-more (λ (q : Packet). is_first (agreement pair q)) ps p (ap is_first is));
  second = are.second ∙ sym (count-same (λ (q : Packet). is_second (agreement pair q)) ps p (ap is_second is));
  unseen = unseen-by ps p c.unseen are.unseen;
}
counts-by pair ps p c SecondOnly is are = record {
  packets = ap (λ n. n + 1) are.packets ∙ sym (length-append ps (p ∷ []));
  first = are.first ∙ sym (count-same (λ (q : Packet). is_first (agreement pair q)) ps p (ap is_first is));
  second = ap (λ n. n + 1) are.second ∙ sym (count-more (λ (q : Packet). is_second (agreement pair q)) ps p (ap is_second is));
  unseen = unseen-by ps p c.unseen are.unseen;
}
counts-by pair ps p c Same is are = record {
  packets = ap (λ n. n + 1) are.packets ∙ sym (length-append ps (p ∷ []));
  first = are.first ∙ sym (count-same (λ (q : Packet). is_first (agreement pair q)) ps p (ap is_first is));
  second = are.second ∙ sym (count-same (λ (q : Packet). is_second (agreement pair q)) ps p (ap is_second is));
  unseen = unseen-by ps p c.unseen are.unseen;
}

-- no count is above that of the packets
pub fit-more : (a : Agreement) (u : Bool) (c : DifferenceCounts) (n : ℕ) → Fit c n → Fit (counted a u c) (n + 1)
fit-more Same u c n fit = record { packets = omega (arith, fit.packets); first = omega (arith, fit.first); second = omega (arith, fit.second); unseen = more-if u c.unseen c.packets fit.unseen }
fit-more FirstOnly u c n fit = record { packets = omega (arith, fit.packets); first = omega (arith, fit.first); second = omega (arith, fit.second); unseen = more-if u c.unseen c.packets fit.unseen }
fit-more SecondOnly u c n fit = record { packets = omega (arith, fit.packets); first = omega (arith, fit.first); second = omega (arith, fit.second); unseen = more-if u c.unseen c.packets fit.unseen }

-- ---- What is printed

-- one packet more was compared, and counted
pub goes-on : (form : PacketForm) (pair : FilterPair) (old mid new : Option (List ℕ)) (ps : List Packet) (ds : List Difference) (c after : DifferenceCounts) (p : Packet) (a : Agreement) →
    AreDifferences form pair ps ds → Appends old mid (difference_lines form ds) → AreCounts pair c ps →
    a ≡ agreement pair p → PrintsOne form pair c.packets p mid new → after ≡ counted a (is_unseen p.bytes) c →
    IsPrinted form pair (ps ++ p ∷ []) old new after
goes-on form pair old mid new ps ds c after p a are lines counts is (inl (alike, kept)) now = (
  ds,
  alike-more form pair ps p ds alike are,
  Appends-kept old mid new (difference_lines form ds) lines kept,
  subst (λ (k : DifferenceCounts). AreCounts pair k (ps ++ p ∷ [])) (sym now) (counts-by pair ps p c a (sym is) counts),
)
goes-on form pair old mid new ps ds c after p a are lines counts is (inr (different, d, of, line)) now = (
  ds ++ d ∷ [],
  different-more form pair ps p ds d different (subst (λ k. IsOf form pair k p d) counts.packets of) are,
  subst (Appends old new) (sym (lines-last form ds d)) (Appends-trans old mid new (difference_lines form ds) (difference_line form d) lines line),
  subst (λ (k : DifferenceCounts). AreCounts pair k (ps ++ p ∷ [])) (sym now) (counts-by pair ps p c a (sym is) counts),
)

-- or its line is not printed, or a beginning of it alone
pub breaks-off : (form : PacketForm) (pair : FilterPair) (old mid new : Option (List ℕ)) (ps : List Packet) (ds : List Difference) (c : DifferenceCounts) (p : Packet) (unprinted : Unprinted) →
    AreDifferences form pair ps ds → Appends old mid (difference_lines form ds) → AreCounts pair c ps → IsOneBroken form pair c.packets p mid new unprinted →
    IsBegun form pair ps old new ⊎ IsBegun form pair (ps ++ p ∷ []) old new
breaks-off form pair old mid new ps ds c p NoMemory are lines counts kept =
    let taken = Appends-kept old mid new (difference_lines form ds) lines kept in
    inl (ds, are, record { part = difference_lines form ds; begins = ([], sym (append-nil (difference_lines form ds))); appends = taken })
breaks-off form pair old mid new ps ds c p (Output error) are lines counts (different, d, of, part) = inr (
  ds ++ d ∷ [],
  different-more form pair ps p ds d different (subst (λ k. IsOf form pair k p d) counts.packets of) are,
  subst (TakesPart old new) (sym (lines-last form ds d)) (TakesPart-then old mid new (difference_lines form ds) (difference_line form d) lines part),
)

-- ---- A line

-- both answers were put into a line
pub line-of : (pair : FilterPair) (place : ℕ) (p : Packet) (zero start one mid two line : List ℕ) (v w : Verdict) →
    zero ≡ packet_text place p → start ≡ zero ++ codes "first " → PutsAnswer start one (IsAnswer pair.first) p v → mid ≡ one ++ codes " second " →
    PutsAnswer mid two (IsAnswer pair.second) p w → line ≡ two ++ end_of_line →
    (d : Difference) × IsOf Text pair place p d × (line ≡ difference_text d)
line-of pair place p zero start one mid two line v w head begun (r, is, first) second (s, other, further) last = (
  difference place (answer p v r) (answer p w s),
  (refl, refl, refl, is, other),
  last ∙ ap (λ (t : List ℕ). t ++ end_of_line) (further ∙ ap (λ (t : List ℕ). t ++ (verdict_text w ++ codes " ") ++ s)
      (second ∙ ap (λ (t : List ℕ). t ++ codes " second ") (first ∙ ap (λ (t : List ℕ). t ++ (verdict_text v ++ codes " ") ++ r)
      (begun ∙ ap (λ (t : List ℕ). t ++ codes "first ") head)))),
)

-- both answers were put into an object
pub both-of : (pair : FilterPair) (p : Packet) (old start one mid two line : List ℕ) (v w : Verdict) →
    start ≡ old ++ codes "\"first\":{" → PutsInJson start one (IsJsonAnswer pair.first) p v → mid ≡ one ++ codes "},\"second\":{" →
    PutsInJson mid two (IsJsonAnswer pair.second) p w → line ≡ two ++ codes "}}\n" → PutsBoth pair p old line
both-of pair p old start one mid two line v w begun (r, is, first) second (s, other, further) last = (
  answer p v r,
  answer p w s,
  refl,
  refl,
  is,
  other,
  last ∙ ap (λ (t : List ℕ). t ++ codes "}}\n") (further ∙ ap (λ (t : List ℕ). t ++ verdict_json w ++ s)
      (second ∙ ap (λ (t : List ℕ). t ++ codes "},\"second\":{") (first ∙ ap (λ (t : List ℕ). t ++ verdict_json v ++ r) begun))),
)

-- the object of a packet, after its head
pub object-of : (pair : FilterPair) (capture place : ℕ) (p : Packet) (head line : List ℕ) → head ≡ packet_json capture place p → PutsBoth pair p head line →
    (d : Difference) × IsOf (Json capture) pair place p d × (line ≡ difference_json capture d)
object-of pair capture place p head line begun (first, second, one, other, is, also, text) = (
  difference place first second,
  (refl, one, other, is, also),
  text ∙ ap (λ (t : List ℕ). with_both t first second) (begun ∙ ap (packet_json capture place) (sym one)),
)
