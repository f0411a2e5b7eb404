-- How a part goes from packet to packet.
use Rattle.std.proofs.Common.{◌≡◌, ◌≢◌, ◌↔◌, ℕ, ◌+◌, ◌≤◌, Bool, true, false, List, [], ◌∷◌, ◌++◌, length-append, refl, sym, ap, ◌∙◌, subst, arith, Option, Result, Ok, Err, OnOk, OnErr, IfErr, inl}
use Rattle.std.specs.Result.{is_err}
use Rattle.savefile.specs.declared.fault.Fault.{Fault}
use Rattle.savefile.specs.declared.fault.Fault.TheVariants.{Device}
use Rattle.savefile.specs.declared.header.Order.{Order}
use Rattle.savefile.specs.declared.header.Unit.{Unit as TimeUnit}
use Rattle.savefile.specs.declared.packet.Packet.{Packet}
use Rattle.savefile.specs.declared.writing.Writer.{Writer}
use Rattle.savefile.specs.Savefile.{encoded}
use Rattle.savefile.specs.Writer.{HasWritten, HasWrittenPart, IsBeginning}
use Rattle.bpfvm.specs.declared.insn.Insn.{Insn}
use Rattle.pcap_cut.specs.declared.cut.Tally.{Tally}
use Rattle.pcap_cut.specs.Copying.{Wrote}
use Rattle.pcap_cut.specs.Cut.{accepts, accepted, cut_text}
use Rattle.pcap_cut.specs.Outcome.{tallied, IsTally}
use Rattle.pcap_cut.proofs.Accepted.{accepted-append, accepted-nil, tally-more}
use Rattle.pcap_cut.proofs.Outcomes.{took}
use Rattle.std.proofs.KnownBytes.{Appends-kept}
use Rattle.std.specs.Io.KnownBytes.{Keeps}
use Rattle.pcap_cut.proofs.Writing.{flushed-goes-on, goes-further, same-unless-different}
use Rattle.savefile.specs.Snapshot.{effective_snaplen}
use Rattle.cli_split.specs.declared.part.Outlet.{Outlet}
use Rattle.cli_split.specs.declared.part.Part.{Part}
use Rattle.cli_split.specs.declared.part.PartEnd.{PartEnd}
use Rattle.cli_split.specs.Standing.{HasTaken}
use Rattle.cli_split.specs.Writing.{IsSent, IsWritten}

-- what the law of the growing text says
abbrev pub Growing : Type 0
Growing = (order : Order) (unit : TimeUnit) (snap : ℕ) (packets more : List Packet) (text : List ℕ) → IsBeginning text (encoded order unit snap packets) → IsBeginning text (encoded order unit snap (packets ++ more))

-- a writer that was opened wrote the text of no packet, or failed at that
begun-wrote : {W : Type 0} (taken : W → Option (List ℕ)) (start : Option (List ℕ)) (order : Order) (unit : TimeUnit) (snap : ℕ) (result : Result (Unit {0}) Fault) (w : Writer W) →
    OnOk result (HasWritten taken start order unit snap [] w) → OnErr result (HasWrittenPart taken start order unit snap [] w) → IfErr result (λ why. why ≡ Device) →
    Wrote taken start order unit snap [] result w
begun-wrote taken start order unit snap (Ok done) w ok err only = ok
begun-wrote taken start order unit snap (Err fault) w ok err only = (err.text, err.sent, err.begins, inl only)

-- no packet was counted
none-counted : (program : List Insn) (result : Result (Unit {0}) Fault) (tally : Tally) → tally.read ≡ 0 → tally.written ≡ 0 → OnOk result (IsTally program [] tally)
none-counted program (Ok done) tally read written = record { read = read; written = written }
none-counted program (Err fault) tally read written = tt

-- a part that was begun
pub stands-begun : {W : Type 0} (taken : W → Option (List ℕ)) (name : W → List ℕ) (failures : W → ℕ) (order : Order) (unit : TimeUnit) (part : Part W) (outlet : Outlet W) (n : ℕ) →
    outlet.program ≡ part.program → outlet.snap ≡ n → n ≡ effective_snaplen part.snap → outlet.tally.read ≡ 0 → outlet.tally.written ≡ 0 →
    OnOk outlet.written (HasWritten taken (taken part.sink) order unit n [] outlet.writer) →
    OnErr outlet.written (HasWrittenPart taken (taken part.sink) order unit n [] outlet.writer) → IfErr outlet.written (λ why. why ≡ Device) →
    ((outlet.written ≡ Err Device) ↔ (failures outlet.writer.sink ≢ failures part.sink)) → name outlet.writer.sink ≡ name part.sink → HasTaken taken name failures order unit [] part outlet
stands-begun taken name failures order unit part outlet n program snap means read written ok err only broke named = record {
  program = program;
  snap = snap ∙ means;
  wrote = subst (λ (k : ℕ). Wrote taken (taken part.sink) order unit k (accepted part.program k []) outlet.written outlet.writer) means
      (subst (λ (ps : List Packet). Wrote taken (taken part.sink) order unit n ps outlet.written outlet.writer) (sym (accepted-nil part.program n))
      (begun-wrote taken (taken part.sink) order unit n outlet.written outlet.writer ok err only));
  counted = none-counted part.program outlet.written outlet.tally read written;
  read = omega (arith, read);
  written = omega (arith, written);
  broke = broke;
  named = named;
}

-- a part that has failed stands behind one packet more as it did
pub stands-failed : {W : Type 0} (taken : W → Option (List ℕ)) (name : W → List ℕ) (failures : W → ℕ) (order : Order) (unit : TimeUnit) (packets : List Packet) (part : Part W) (outlet : Outlet W) (p : Packet) →
    Growing → is_err outlet.written ≡ true → HasTaken taken name failures order unit packets part outlet → HasTaken taken name failures order unit (packets ++ p ∷ []) part outlet
stands-failed taken name failures order unit packets part outlet p growing failed stands = by_result outlet.written refl
  where
    snap : ℕ
    snap = effective_snaplen part.snap

    by_result : (result : Result (Unit {0}) Fault) → outlet.written ≡ result → HasTaken taken name failures order unit (packets ++ p ∷ []) part outlet
    by_result (Ok done) is = let sound : is_err outlet.written ≡ false = ap is_err is in let wrong : true ≡ false = sym failed ∙ sound in absurd cc
    by_result (Err fault) is = record {
      program = stands.program;
      snap = stands.snap;
      wrote = subst (λ (r : Result (Unit {0}) Fault). Wrote taken (taken part.sink) order unit snap (accepted part.program snap (packets ++ p ∷ [])) r outlet.writer) (sym is)
          (subst (λ (ps : List Packet). Wrote taken (taken part.sink) order unit snap ps (Err fault) outlet.writer) (sym (accepted-append part.program snap packets (p ∷ [])))
          (goes-further taken (taken part.sink) order unit snap (accepted part.program snap packets) (accepted part.program snap (p ∷ [])) fault outlet.writer
          (growing order unit snap (accepted part.program snap packets) (accepted part.program snap (p ∷ [])))
          (subst (λ (r : Result (Unit {0}) Fault). Wrote taken (taken part.sink) order unit snap (accepted part.program snap packets) r outlet.writer) is stands.wrote)));
      counted = subst (λ (r : Result (Unit {0}) Fault). OnOk r (IsTally part.program (packets ++ p ∷ []) outlet.tally)) (sym is) tt;
      read = omega (arith, stands.read, length-append packets (p ∷ []));
      written = stands.written;
      broke = stands.broke;
      named = stands.named;
    }

-- where all went well, this holds
on-ok : (result : Result (Unit {0}) Fault) (P : Type 0) → P → OnOk result P
on-ok (Ok done) P p = p
on-ok (Err fault) P p = tt

-- a count with one packet more
tallied-read : (b : Bool) (old : Tally) → (tallied b old).read ≡ old.read + 1
tallied-read true old = refl
tallied-read false old = refl

tallied-written : (b : Bool) (old : Tally) → old.written ≤ old.read → (tallied b old).written ≤ (tallied b old).read
tallied-written true old few = omega (arith, few)
tallied-written false old few = omega (arith, few)

-- a part that wrote one packet more, or failed at that
pub stands-more : {W : Type 0} (taken : W → Option (List ℕ)) (name : W → List ℕ) (failures : W → ℕ) (order : Order) (unit : TimeUnit) (packets : List Packet) (part : Part W) (old new : Outlet W) (p : Packet) →
    is_err old.written ≡ false → new.program ≡ old.program → new.snap ≡ old.snap → new.tally ≡ tallied (accepts old.program p) old.tally →
    ((start : Option (List ℕ)) (order : Order) (unit : TimeUnit) (head : ℕ) (before : List Packet) → HasWritten taken start order unit head before old.writer →
    Wrote taken start order unit head (before ++ accepted old.program old.snap (p ∷ [])) new.written new.writer) →
    ((new.written ≡ Err Device) ↔ (failures new.writer.sink ≢ failures old.writer.sink)) → name new.writer.sink ≡ name old.writer.sink →
    HasTaken taken name failures order unit packets part old → HasTaken taken name failures order unit (packets ++ p ∷ []) part new
stands-more taken name failures order unit packets part old new p works program snap tally writes broke named stands = by_result old.written refl
  where
    by_result : (result : Result (Unit {0}) Fault) → old.written ≡ result → HasTaken taken name failures order unit (packets ++ p ∷ []) part new
    by_result (Err fault) is = let failed : is_err old.written ≡ true = ap is_err is in let wrong : true ≡ false = sym failed ∙ works in absurd cc
    by_result (Ok done) is =
        let n = effective_snaplen part.snap in
        let written : HasWritten taken (taken part.sink) order unit n (accepted part.program n packets) old.writer =
        subst (λ (r : Result (Unit {0}) Fault). Wrote taken (taken part.sink) order unit n (accepted part.program n packets) r old.writer) is stands.wrote in
        let counted : IsTally part.program packets old.tally = subst (λ (r : Result (Unit {0}) Fault). OnOk r (IsTally part.program packets old.tally)) is stands.counted in
        let sound : failures old.writer.sink ≡ failures part.sink = same-unless-different _ _ (λ differs. let bad : Ok done ≡ Err Device = sym is ∙ stands.broke.1 differs in cc) in
        let wrote : Wrote taken (taken part.sink) order unit n (accepted part.program n packets ++ accepted part.program n (p ∷ [])) new.written new.writer =
        subst (λ (k : ℕ). Wrote taken (taken part.sink) order unit n (accepted part.program n packets ++ accepted part.program k (p ∷ [])) new.written new.writer) stands.snap
        (subst (λ (f : List Insn). Wrote taken (taken part.sink) order unit n (accepted part.program n packets ++ accepted f old.snap (p ∷ [])) new.written new.writer) stands.program
        (writes (taken part.sink) order unit n (accepted part.program n packets) written)) in
        let told : new.tally ≡ tallied (accepts part.program p) old.tally = tally ∙ ap (λ (f : List Insn). tallied (accepts f p) old.tally) stands.program in record {
          program = program ∙ stands.program;
          snap = snap ∙ stands.snap;
          wrote = subst (λ (ps : List Packet). Wrote taken (taken part.sink) order unit n ps new.written new.writer) (sym (accepted-append part.program n packets (p ∷ []))) wrote;
          counted = on-ok new.written _ (tally-more part.program packets p old.tally new.tally told counted);
          read = omega (arith, ap (λ (t : Tally). t.read) told, tallied-read (accepts part.program p) old.tally, stands.read, length-append packets (p ∷ []));
          written = subst (λ (t : Tally). t.written ≤ t.read) (sym told) (tallied-written (accepts part.program p) old.tally stands.written);
          broke = (λ e. let differs = broke.0 e in (λ same. differs (same ∙ sym sound)), λ differs. broke.1 (λ same. differs (same ∙ sound)));
          named = named ∙ stands.named;
        }

-- a part that was ended
pub written-of : {W : Type 0} (taken : W → Option (List ℕ)) (name : W → List ℕ) (failures : W → ℕ) (order : Order) (unit : TimeUnit) (packets : List Packet) (part : Part W) (outlet : Outlet W) (end : PartEnd W) →
    end.sink ≡ outlet.writer.sink → end.sent ≡ outlet.writer.sent → end.tally ≡ outlet.tally → end.written ≡ outlet.written →
    HasTaken taken name failures order unit packets part outlet → IsWritten taken name failures order unit packets part end
unfolding cut_text
written-of taken name failures order unit packets part outlet end sink sent tally written stands = by_result end.written refl
  where
    n : ℕ
    n = effective_snaplen part.snap

    counted : OnOk end.written (IsTally part.program packets end.tally)
    counted = subst (λ (r : Result (Unit {0}) Fault). OnOk r (IsTally part.program packets end.tally)) (sym written)
        (subst (λ (t : Tally). OnOk outlet.written (IsTally part.program packets t)) (sym tally) stands.counted)

    broke : (end.written ≡ Err Device) ↔ (failures end.sink ≢ failures part.sink)
    broke = (
      λ e. let differs = stands.broke.0 (sym written ∙ e) in (λ same. differs (sym (ap failures sink) ∙ same)),
      λ differs. written ∙ stands.broke.1 (λ same. differs (ap failures sink ∙ same)),
    )

    wrote : (result : Result (Unit {0}) Fault) → end.written ≡ result → Wrote taken (taken part.sink) order unit n (accepted part.program n packets) result outlet.writer
    wrote result is = subst (λ (r : Result (Unit {0}) Fault). Wrote taken (taken part.sink) order unit n (accepted part.program n packets) r outlet.writer) (sym written ∙ is) stands.wrote

    by_result : (result : Result (Unit {0}) Fault) → end.written ≡ result → IsWritten taken name failures order unit packets part end
    by_result (Ok done) is = record {
      sent = encoded order unit n (accepted part.program n packets);
      took = took taken part.sink end.sink end.sent _ outlet.writer sink sent (wrote (Ok done) is).sent;
      text = subst (λ (r : Result (Unit {0}) Fault). IsSent (encoded order unit n (accepted part.program n packets)) (cut_text part.program part.snap order unit packets) r) (sym is) refl;
      counted = counted;
      broke = broke;
      named = ap name sink ∙ stands.named;
    }
    by_result (Err fault) is =
        let (text, is_sent, begins, why) = wrote (Err fault) is in record {
          sent = text;
          took = took taken part.sink end.sink end.sent _ outlet.writer sink sent is_sent;
          text = subst (λ (r : Result (Unit {0}) Fault). IsSent text (cut_text part.program part.snap order unit packets) r) (sym is) (begins, why);
          counted = counted;
          broke = broke;
          named = ap name sink ∙ stands.named;
        }

-- ---- A sink that hands on what it has gathered

flushed-wrote : {W : Type 0} (taken : W → Option (List ℕ)) (start : Option (List ℕ)) (order : Order) (unit : TimeUnit) (snap : ℕ) (ps : List Packet) (written : Result (Unit {0}) Fault) (old new : Writer W) →
    (new.order ≡ old.order) × (new.unit ≡ old.unit) × (new.sent ≡ old.sent) × (new.failed ≡ old.failed) → Keeps (taken old.sink) (taken new.sink) →
    Wrote taken start order unit snap ps written old → Wrote taken start order unit snap ps written new
flushed-wrote taken start order unit snap ps (Ok done) old new same kept wrote = flushed-goes-on taken start order unit snap ps old new same kept wrote
flushed-wrote taken start order unit snap ps (Err fault) old new (order-stays, unit-stays, sent-stays, failed-stays) kept (sent, took, begins, why) = (
  sent,
  record { bytes = Appends-kept start (taken old.sink) (taken new.sink) _ took.bytes kept; count = sent-stays ∙ took.count },
  begins,
  why,
)

pub stands-flushed : {W : Type 0} (taken : W → Option (List ℕ)) (name : W → List ℕ) (failures : W → ℕ) (order : Order) (unit : TimeUnit) (packets : List Packet) (part : Part W) (o : Outlet W) (w : Writer W) →
    (w.order ≡ o.writer.order) × (w.unit ≡ o.writer.unit) × (w.sent ≡ o.writer.sent) × (w.failed ≡ o.writer.failed) → Keeps (taken o.writer.sink) (taken w.sink) →
    failures w.sink ≡ failures o.writer.sink → name w.sink ≡ name o.writer.sink → HasTaken taken name failures order unit packets part o →
    HasTaken taken name failures order unit packets part (record { program = o.program; snap = o.snap; writer = w; tally = o.tally; written = o.written })
stands-flushed taken name failures order unit packets part o w same kept fails named stands = record {
  program = stands.program;
  snap = stands.snap;
  wrote = flushed-wrote taken (taken part.sink) order unit _ _ o.written o.writer w same kept stands.wrote;
  counted = stands.counted;
  read = stands.read;
  written = stands.written;
  broke = subst (λ n. (o.written ≡ Err Device) ↔ (n ≢ failures part.sink)) (sym fails) stands.broke;
  named = named ∙ stands.named;
}
