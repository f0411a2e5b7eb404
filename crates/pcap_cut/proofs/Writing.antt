-- How a writer goes on with one packet more.
use Rattle.std.proofs.Common.{◌≡◌, ◌≢◌, ℕ, ◌+◌, ◌<◌, ◌≤◌, ◌^◌, ◌⊎◌, inl, inr, List, [], ◌∷◌, ◌++◌, length, min, take, ap, sym, ◌∙◌, arith, subst, Option, Result, Ok, Err, OnOk, OnErr, IfErr, length-append, true, false}
use Rattle.std.proofs.lemmas.List.{append-nil}
use Rattle.std.specs.Io.KnownBytes.{Keeps}
use Rattle.std.proofs.KnownBytes.{Appends-kept}
use Rattle.savefile.specs.declared.fault.Fault.{Fault}
use Rattle.savefile.specs.declared.fault.Fault.TheVariants.{Device, CountFull, Failed}
use Rattle.savefile.specs.declared.header.Order.{Order}
use Rattle.savefile.specs.declared.header.Unit.{Unit as TimeUnit}
use Rattle.savefile.specs.declared.packet.Packet.{Packet}
use Rattle.savefile.specs.declared.writing.Writer.{Writer}
use Rattle.savefile.specs.Savefile.{encoded, packet}
use Rattle.savefile.specs.Writer.{IsBeginning, HasWritten, HasWrittenPart, Sent}
use Rattle.bpfvm.specs.declared.insn.Insn.{Insn}
use Rattle.pcap_cut.specs.Cut.{answer, accepted}
use Rattle.pcap_cut.specs.Copying.{Wrote}
use Rattle.pcap_cut.proofs.Accepted.{accepted-rejected, accepted-kept}

-- a text begins itself
begins-itself : (text : List ℕ) → IsBeginning text text
begins-itself text = ([], sym (append-nil text))

-- what the law of the growing text says of some packets and more
abbrev pub Begins : Order → TimeUnit → ℕ → List Packet → List Packet → Type 0
Begins order unit snap ps qs = (text : List ℕ) → IsBeginning text (encoded order unit snap ps) → IsBeginning text (encoded order unit snap (ps ++ qs))

-- and of one packet more
abbrev pub Adds : Order → TimeUnit → ℕ → List Packet → Packet → Type 0
Adds order unit snap ps p = length (encoded order unit snap (ps ++ p ∷ [])) ≡ length (encoded order unit snap ps) + 16 + length p.bytes

-- the end of a put that failed, by the fault
fault-goes-on : {W : Type 0} (taken : W → Option (List ℕ)) (start : Option (List ℕ)) (order : Order) (unit : TimeUnit) (snap : ℕ) (ps : List Packet) (p : Packet) (old new : Writer W) (fault : Fault) →
    Begins order unit snap ps (p ∷ []) → Adds order unit snap ps p → HasWritten taken start order unit snap ps old →
    (fault ≡ Device → HasWrittenPart taken start order unit snap (ps ++ p ∷ []) new) →
    (fault ≡ Failed → old.failed ≡ true) →
    (fault ≡ CountFull → 2 ^ 64 ≤ old.sent + 16 + length p.bytes) →
    (fault ≡ CountFull → new ≡ old) →
    (fault ≡ Device) ⊎ (fault ≡ Failed) ⊎ (fault ≡ CountFull) →
    Wrote taken start order unit snap (ps ++ p ∷ []) (Err fault) new
fault-goes-on taken start order unit snap ps p old new fault begins adds written broke failed full same (inl device) =
    let b = broke device in (b.text, b.sent, b.begins, inl device)
-- a writer that works has not failed before
fault-goes-on taken start order unit snap ps p old new fault begins adds written broke failed full same (inr (inl again)) =
    let works : false ≡ true = sym written.works ∙ failed again in cc
-- the count is full: nothing was written of this packet
fault-goes-on taken start order unit snap ps p old new fault begins adds written broke failed full same (inr (inr many)) = (
  encoded order unit snap ps,
  subst (Sent taken start (encoded order unit snap ps)) (sym (same many)) written.sent,
  begins _ (begins-itself _),
  inr (many, omega (arith, full many, written.sent.count, adds)),
)

-- the clauses of `put`, as one step
pub put-goes-on : {W : Type 0} (taken : W → Option (List ℕ)) (start : Option (List ℕ)) (order : Order) (unit : TimeUnit) (snap : ℕ) (ps : List Packet) (p : Packet) (old new : Writer W) (result : Result (Unit {0}) Fault) →
    Begins order unit snap ps (p ∷ []) → Adds order unit snap ps p → HasWritten taken start order unit snap ps old →
    OnOk result (HasWritten taken start order unit snap (ps ++ p ∷ []) new) →
    (result ≡ Err Device → HasWrittenPart taken start order unit snap (ps ++ p ∷ []) new) →
    (result ≡ Err Failed → old.failed ≡ true) →
    (result ≡ Err CountFull → 2 ^ 64 ≤ old.sent + 16 + length p.bytes) →
    ((result ≡ Err Failed) ⊎ (result ≡ Err CountFull) → new ≡ old) →
    IfErr result (λ fault. (fault ≡ Device) ⊎ (fault ≡ Failed) ⊎ (fault ≡ CountFull)) →
    Wrote taken start order unit snap (ps ++ p ∷ []) result new
put-goes-on taken start order unit snap ps p old new (Ok x) begins adds written ok broke failed full same only = ok
put-goes-on taken start order unit snap ps p old new (Err fault) begins adds written ok broke failed full same only =
    fault-goes-on taken start order unit snap ps p old new fault begins adds written
    (λ e. broke (ap Err e)) (λ e. failed (ap Err e)) (λ e. full (ap Err e)) (λ e. same (inr (ap Err e))) only

-- a beginning is no longer than the whole
length-begins : (text whole : List ℕ) → IsBeginning text whole → length text ≤ length whole
length-begins text whole (more, e) = omega (arith, ap length e, length-append text more)

-- what a text's beginning was, is a beginning of the text with more packets
pub goes-further : {W : Type 0} (taken : W → Option (List ℕ)) (start : Option (List ℕ)) (order : Order) (unit : TimeUnit) (snap : ℕ) (ps qs : List Packet) (fault : Fault) (w : Writer W) →
    Begins order unit snap ps qs → Wrote taken start order unit snap ps (Err fault) w → Wrote taken start order unit snap (ps ++ qs) (Err fault) w
goes-further taken start order unit snap ps qs fault w further (sent, is, begins, why) =
    let longer : length (encoded order unit snap ps) ≤ length (encoded order unit snap (ps ++ qs)) = length-begins _ _ (further _ (begins-itself _)) in (
      sent,
      is,
      further sent begins,
      elim why [ inl device ↦ inl device | inr (many, long) ↦ inr (many, omega (arith, long, longer)) ],
    )

-- a rejected packet: the text stays
pub rejected-goes-on : {W : Type 0} (taken : W → Option (List ℕ)) (start : Option (List ℕ)) (order : Order) (unit : TimeUnit) (head : ℕ) (program : List Insn) (snap : ℕ) (before : List Packet) (p : Packet) (w : Writer W) →
    answer program p ≡ 0 → HasWritten taken start order unit head before w →
    HasWritten taken start order unit head (before ++ accepted program snap (p ∷ [])) w
rejected-goes-on taken start order unit head program snap before p w rejects written =
    let same : before ++ accepted program snap (p ∷ []) ≡ before =
    ap (λ (ps : List Packet). before ++ ps) (accepted-rejected program snap p rejects) ∙ append-nil before in
    subst (λ (ps : List Packet). HasWritten taken start order unit head ps w) (sym same) written

-- an accepted packet: its own put
pub accepted-goes-on : {W : Type 0} (taken : W → Option (List ℕ)) (start : Option (List ℕ)) (order : Order) (unit : TimeUnit) (head : ℕ) (program : List Insn) (snap : ℕ) (before : List Packet) (p : Packet) (kept : List ℕ) (result : Result (Unit {0}) Fault) (w : Writer W) →
    0 < answer program p → kept ≡ take (min (min (answer program p) snap) (length p.bytes)) p.bytes →
    Wrote taken start order unit head (before ++ packet p.sec p.nanos p.len kept ∷ []) result w →
    Wrote taken start order unit head (before ++ accepted program snap (p ∷ [])) result w
accepted-goes-on taken start order unit head program snap before p kept result w accepts-it is gone =
    subst (λ (ps : List Packet). Wrote taken start order unit head (before ++ ps) result w)
    (sym (accepted-kept program snap p kept accepts-it is)) gone

-- a writer that was opened
pub opened : (result : Result (Unit {0}) Fault) (x : Unit {0}) (P : Type 0) → result ≡ Ok x → OnOk result P → P
opened (Ok y) x P is p = p
opened (Err fault) x P is p = absurd (cc)

-- a writer that could not be opened
pub not-opened : {W : Type 0} (taken : W → Option (List ℕ)) (start : Option (List ℕ)) (order : Order) (unit : TimeUnit) (snap : ℕ) (result : Result (Unit {0}) Fault) (fault : Fault) (w : Writer W) →
    result ≡ Err fault → OnErr result (HasWrittenPart taken start order unit snap [] w) → IfErr result (λ why. why ≡ Device) → Wrote taken start order unit snap [] (Err fault) w
not-opened taken start order unit snap (Ok x) fault w is broke only = absurd (cc)
not-opened taken start order unit snap (Err why) fault w is broke only = (broke.text, broke.sent, broke.begins, inl (cc))

-- numbers that do not differ are the same
pub same-unless-different : (a b : ℕ) → (a ≢ b → ⊥) → a ≡ b
same-unless-different a b h = grind (arith, h)

-- the sink handed on what it had gathered
pub flushed-goes-on : {W : Type 0} (taken : W → Option (List ℕ)) (start : Option (List ℕ)) (order : Order) (unit : TimeUnit) (snap : ℕ) (ps : List Packet) (old new : Writer W) →
    (new.order ≡ old.order) × (new.unit ≡ old.unit) × (new.sent ≡ old.sent) × (new.failed ≡ old.failed) → Keeps (taken old.sink) (taken new.sink) →
    HasWritten taken start order unit snap ps old → HasWritten taken start order unit snap ps new
flushed-goes-on taken start order unit snap ps old new (order-stays, unit-stays, sent-stays, failed-stays) kept written = record {
  sent = record { bytes = Appends-kept start (taken old.sink) (taken new.sink) _ written.sent.bytes kept; count = sent-stays ∙ written.sent.count };
  works = failed-stays ∙ written.works;
  in_order = order-stays ∙ written.in_order;
  in_unit = unit-stays ∙ written.in_unit;
}
