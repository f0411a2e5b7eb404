-- What was cut of the parts of a capture, and joined.
use Rattle.std.proofs.Common.{◌≡◌, ◌≢◌, ℕ, ◌-◌, ◌^◌, ◌<◌, ◌≤◌, ◌⊎◌, inl, inr, List, [], ◌∷◌, ◌++◌, length, length-take-le, take, take-append-drop, drop, All, Option, Some, None, IfSome, refl, sym, ap, subst, ◌∙◌, arith}
use Rattle.std.specs.List.{AllZip}
use Rattle.std.specs.Io.KnownBytes.{Appends}
use Rattle.bpfvm.specs.declared.insn.Insn.{Insn}
use Rattle.savefile.specs.declared.fault.Fault.{Fault}
use Rattle.savefile.specs.declared.fault.Fault.TheVariants.{ShortHeader, NotSavefile, Version, LinkType, TornRecord, BadFraction, TooLong, Device, Failed, CountFull, NoMemory}
use Rattle.savefile.specs.declared.header.Order.{Order}
use Rattle.savefile.specs.declared.header.Unit.{Unit as TimeUnit}
use Rattle.savefile.specs.declared.packet.Packet.{Packet}
use Rattle.savefile.specs.Savefile.{field, Holds, IsCapture, IsHeader, IsText, RefusesHeader}
use Rattle.savefile.proofs.Contents.{AreBytes-text}
use Rattle.savefile.proofs.Headers.{one_order, one_unit}
use Rattle.savefile.proofs.Pieces.{IsHeader-alone, IsHeader-front}
use Rattle.pcap_cut.specs.declared.cut.End.{End}
use Rattle.pcap_cut.specs.declared.cut.End.TheVariants.{Clean, Input, Output}
use Rattle.pcap_cut.specs.declared.cut.Tally.{Tally}
use Rattle.pcap_cut.specs.Cut.{cut_text}
use Rattle.pcap_cut.specs.Outcome.{AllSent, BrokeOff, StopsBehind, end_behind}
use Rattle.pcap_parts.specs.declared.join.Joined.{Joined}
use Rattle.pcap_parts.specs.declared.part.PartCut.{PartCut}
use Rattle.pcap_parts.specs.Cutting.{WasCut}
use Rattle.pcap_parts.specs.Joining.{begun, IsWhole, Joins}
use Rattle.pcap_parts.specs.Parts.{IsCounted}
use Rattle.pcap_parts.specs.Selecting.{Selects}
use Rattle.pcap_parts.specs.Whole.{all_of, between, IsPartOf}
use Rattle.pcap_parts.specs.Writing.{IsWritten, Texts}
use Rattle.pcap_parts.proofs.Bodies.{all_later, front_of, joins_the_cut}
use Rattle.pcap_parts.proofs.Selecting.{Takes-joins}
use Rattle.pcap_parts.proofs.Whole.{holds_its_parts}

-- ---- A cut that is counted was not broken off

module _ {R W : Type 0} (from back : R) (to sink : W) (text given : List ℕ) (program : List Insn) (snap : ℕ) (order : Order) (unit : TimeUnit) (sent : List ℕ) where
  before_header : (fault : Fault) → (RefusesHeader text fault → ⊥) → (fault ≡ NoMemory → ⊥) → (fault ≡ Device → ⊥)
      → RefusesHeader text fault ⊎ ((fault ≡ NoMemory) × (back ≡ from)) ⊎ ((fault ≡ Device) × (length given < 24)) → ⊥
  before_header fault h m d (inl r) = h r
  before_header fault h m d (inr (inl r)) = m r.0
  before_header fault h m d (inr (inr r)) = d r.0

  after_header : (fault : Fault) → (fault ≡ Device → ⊥) → (fault ≡ CountFull → ⊥) → (before : List Packet)
      → ((fault ≡ Device) × StopsBehind given before) ⊎ ((fault ≡ CountFull) × (length before ≡ 2 ^ 64 - 1)) → ⊥
  after_header fault d c before (inl r) = d r.0
  after_header fault d c before (inr r) = c r.0

  not_at : (fault : Fault) → (RefusesHeader text fault → ⊥) → (fault ≡ NoMemory → ⊥) → (fault ≡ Device → ⊥) → (fault ≡ CountFull → ⊥)
      → BrokeOff from back to sink text given program snap order unit (Input fault) sent → ⊥
  not_at fault h m d c (inl s) = before_header fault h m d s.why
  not_at fault h m d c (inr s) = after_header fault d c s.before s.why

  not_broken : (end : End) → IsCounted end → BrokeOff from back to sink text given program snap order unit end sent → ⊥
  not_broken Clean is b = b
  not_broken (Input (TornRecord place)) is b = not_at (TornRecord place) (λ r. r) (λ e. cc) (λ e. cc) (λ e. cc) b
  not_broken (Input (BadFraction place)) is b = not_at (BadFraction place) (λ r. r) (λ e. cc) (λ e. cc) (λ e. cc) b
  not_broken (Input (TooLong place)) is b = not_at (TooLong place) (λ r. r) (λ e. cc) (λ e. cc) (λ e. cc) b
  not_broken (Input ShortHeader) is b = is
  not_broken (Input NotSavefile) is b = is
  not_broken (Input Version) is b = is
  not_broken (Input LinkType) is b = is
  not_broken (Input Device) is b = is
  not_broken (Input Failed) is b = is
  not_broken (Input NoMemory) is b = is
  not_broken (Input CountFull) is b = is
  not_broken (Output fault) is b = is

  all_sent : (end : End) (tally : Tally) → IsCounted end
      → AllSent text program snap order unit tally end sent ⊎ BrokeOff from back to sink text given program snap order unit end sent
      → AllSent text program snap order unit tally end sent
  all_sent end tally is (inl all) = all
  all_sent end tally is (inr broke) = absurd (not_broken end is broke)

-- ---- One fault, one header

one_end : (f g : Option Fault) → end_behind f ≡ end_behind g → f ≡ g
one_end None None e = refl
one_end None (Some g) e = let clash : Clean ≡ Input g = e in absurd cc
one_end (Some f) None e = let clash : Input f ≡ Clean = e in absurd cc
one_end (Some f) (Some g) e = let is : Input f ≡ Input g = e in let same : f ≡ g = cc in ap (λ (x : Fault). Some x) same

-- an empty sink took these bytes
all_taken : (o : Option (List ℕ)) (bytes : List ℕ) → Appends (Some []) o bytes → o ≡ Some bytes
all_taken None bytes took = absurd took
all_taken (Some xs) bytes took = ap (λ (t : List ℕ). Some t) took

-- the header of a text is the one of its first 24 bytes, whatever follows these
header_again : (order : Order) (text others : List ℕ) (unit : TimeUnit) (snap : ℕ) → 24 ≤ length text → IsHeader order (take 24 text ++ others) unit snap
    → IsHeader order text unit snap
header_again order text others unit snap long is =
    let front = take 24 text in
    let size : length front ≡ 24 = length-take-le 24 text long in
    let only : IsHeader order front unit snap =
    subst (λ (t : List ℕ). IsHeader order t unit snap) (front_of front others size) (IsHeader-alone order (front ++ others) unit snap is) in
    subst (λ (t : List ℕ). IsHeader order t unit snap) (take-append-drop 24 text) (IsHeader-front order front (drop 24 text) unit snap only)

-- what is held under a header of a text is held under any other header of it, as it has one
under_header_of : (text bytes : List ℕ) (o p : Order) (u v : TimeUnit) (m n : ℕ) (packets : List Packet) (fault : Option Fault) → IsText text
    → IsHeader o text u m → IsHeader p text v n → Holds bytes p v n packets fault → Holds bytes o u m packets fault
under_header_of text bytes o p u v m n packets fault is one other holds =
    let are = AreBytes-text text is in
    let order : p ≡ o = one_order text p o v u are other.magic one.magic in
    let unit : v ≡ u = one_unit text p o v u are other.magic one.magic in
    let snap : n ≡ m = sym other.snapshot ∙ ap (λ (x : Order). field x text 16 4) order ∙ one.snapshot in
    subst (λ (x : Order). Holds bytes x u m packets fault) order
    (subst (λ (x : TimeUnit). Holds bytes p x m packets fault) unit
    (subst (λ (x : ℕ). Holds bytes p v x packets fault) snap holds))

-- ---- Parts

module _ {R W : Type 0} (left : R → Option (List ℕ)) (taken : W → Option (List ℕ)) (files : Texts) (text : List ℕ) (program : List Insn) (snap : ℕ) (order : Order) (unit : TimeUnit) where
  sent_of : (part : PartCut) → (c : WasCut left taken files text program snap order unit part)
      → AllSent c.cuts.text program snap order unit c.end.tally c.end.end c.cuts.sent
  sent_of part c =
      all_sent c.from c.end.source c.to c.end.sink c.cuts.text c.cuts.given program snap order unit c.cuts.sent c.end.end c.end.tally c.counted c.cuts.outcome

  -- the packets of a part, behind whatever header they have
  held_by : (part : PartCut) → (c : WasCut left taken files text program snap order unit part) → Holds (take 24 text ++ between part.first part.end text)
      (sent_of part c).reads.order (sent_of part c).reads.unit (sent_of part c).reads.snap (sent_of part c).packets part.fault
  held_by part c =
      let a = sent_of part c in
      let bytes = take 24 text ++ between part.first part.end text in
      let is : bytes ≡ c.cuts.text = subst (λ (o : Option (List ℕ)). IfSome o (λ (t : List ℕ). t ≡ c.cuts.text)) c.had c.cuts.told in
      let fault : a.fault ≡ part.fault = one_end a.fault part.fault (sym a.ends ∙ c.ends) in
      subst (λ (t : List ℕ). Holds t a.reads.order a.reads.unit a.reads.snap a.packets part.fault) (sym is)
      (subst (λ (f : Option Fault). Holds c.cuts.text a.reads.order a.reads.unit a.reads.snap a.packets f) fault a.reads.holds)

  -- that header is one of the text
  header_of : (part : PartCut) → (c : WasCut left taken files text program snap order unit part) → 24 ≤ length text
      → IsHeader (sent_of part c).reads.order text (sent_of part c).reads.unit (sent_of part c).reads.snap
  header_of part c long =
      let a = sent_of part c in
      header_again a.reads.order text (between part.first part.end text) a.reads.unit a.reads.snap long (held_by part c).reads.header

  -- so what the part says is so
  says : (part : PartCut) → (c : WasCut left taken files text program snap order unit part) → (o : Order) (u : TimeUnit) (m : ℕ) → IsText text
      → IsHeader o text u m → IsPartOf text o u m part (sent_of part c).packets
  says part c o u m are is =
      let a = sent_of part c in
      record {
        ordered = c.ordered;
        inside = c.inside;
        holds = under_header_of text (take 24 text ++ between part.first part.end text) o a.reads.order u a.reads.unit m a.reads.snap a.packets part.fault are is
            (header_of part c is.size) (held_by part c);
        counted = ap (λ (t : Tally). t.read) c.tally ∙ a.counted.read;
      }

  -- and its file is the cut of its packets
  file_of : (part : PartCut) → (c : WasCut left taken files text program snap order unit part)
      → files part.file.now ≡ Some (cut_text program snap order unit (sent_of part c).packets)
  file_of part c =
      let took = subst (λ (o : Option (List ℕ)). Appends o (taken c.end.sink) c.cuts.sent) c.empty c.cuts.took.appends in
      c.file ∙ all_taken (taken c.end.sink) c.cuts.sent took ∙ ap (λ (t : List ℕ). Some t) (sent_of part c).whole

  lists_of : (parts : List PartCut) → All (WasCut left taken files text program snap order unit) parts → (o : Order) (u : TimeUnit) (m : ℕ) → IsText text
      → IsHeader o text u m → (lists : List (List Packet)) × AllZip (IsPartOf text o u m) parts lists
      × AllZip (λ part packets. files part.file.now ≡ Some (cut_text program snap order unit packets)) parts lists
  lists_of [] all o u m are is = ([], tt, tt)
  lists_of (p ∷ ps) all o u m are is =
      let c = all 0 p (omega arith) in
      let (lists, parts, cuts) = lists_of ps (all_later (WasCut left taken files text program snap order unit) p ps all) o u m are is in
      ((sent_of p c).packets ∷ lists, (says p c o u m are is, parts), (file_of p c, cuts))

  joined : (size : ℕ) (parts : List PartCut) (whole : Joined) (new : List ℕ) → IsText text → parts ≢ []
      → All (WasCut left taken files text program snap order unit) parts → Joins (begun size) parts whole → IsWhole whole → IsWritten files (Some []) (Some new) parts
      → (packets : List Packet) × IsCapture text packets whole.fault × (new ≡ cut_text program snap order unit packets)
  joined size [] whole new are some all joins ended written = absurd (some refl)
  joined size (p ∷ ps) whole new are some all joins ended written =
      let c = all 0 p (omega arith) in
      let r = (sent_of p c).reads in
      let long : 24 ≤ length text = omega (arith, joins.0.first, c.ordered, c.inside) in
      let is = header_of p c long in
      let same : size ≡ length text = sym joins.0.size ∙ c.size in
      let follow = subst (λ n. Joins (begun n) (p ∷ ps) whole) same joins in
      let (lists, parts, cuts) = lists_of (p ∷ ps) all r.order r.unit r.snap are is in (
        all_of lists,
        record { order = r.order; unit = r.unit; snap = r.snap; holds = holds_its_parts text r.order r.unit r.snap (p ∷ ps) lists whole is parts follow ended },
        joins_the_cut files program snap order unit (p ∷ ps) lists new some cuts written,
      )

pub joins_what_was_cut : {R W : Type 0} (left : R → Option (List ℕ)) (taken : W → Option (List ℕ)) (files : Texts) (text : List ℕ) (program : List Insn) (snap : ℕ)
    (order : Order) (unit : TimeUnit) (size : ℕ) (given parts : List PartCut) (whole : Joined) (new : List ℕ) → IsText text → Selects size given parts whole
    → All (WasCut left taken files text program snap order unit) parts → IsWritten files (Some []) (Some new) parts
    → (packets : List Packet) × IsCapture text packets whole.fault × (new ≡ cut_text program snap order unit packets)
joins_what_was_cut left taken files text program snap order unit size given parts whole new are (takes, ended, some) all written =
    joined left taken files text program snap order unit size parts whole new are some all (Takes-joins (begun size) given parts whole takes) ended written
