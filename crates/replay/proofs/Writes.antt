-- How a savefile goes on that is written.
use Rattle.std.proofs.Common.{◌≡◌, ◌≢◌, ℕ, ◌+◌, ◌*◌, ◌<◌, ◌≤◌, ◌^◌, ◌⊎◌, inl, inr, true, false, List, [], ◌∷◌, ◌++◌, length, map, take, drop, ap, sym, ◌∙◌, arith, subst, Option, length-append}
use Rattle.std.proofs.Math.Seq.{drop-append_seam, take-append-add, take-append_seam}
use Rattle.std.proofs.lemmas.List.{append-nil, drop-append-le, length-map, map-append, take-append-le, take_all}
use Rattle.std.proofs.lemmas.Bool.{cases_eq, cases_lt}
use Rattle.std.proofs.KnownBytes.{Appends-kept}
use Rattle.std.specs.Io.KnownBytes.{Keeps}
use Rattle.listener.specs.declared.message.Message.{Message}
use Rattle.savefile.specs.declared.fault.Fault.{Fault}
use Rattle.savefile.specs.declared.fault.Fault.TheVariants.{Device, CountFull, Failed}
use Rattle.savefile.specs.declared.packet.Packet.{Packet}
use Rattle.savefile.specs.declared.writing.Writer.{Writer}
use Rattle.savefile.specs.Savefile.{encoded}
use Rattle.savefile.specs.Writer.{IsBeginning, HasWritten, HasWrittenPart, Sent}
use Rattle.replay.specs.declared.capture_output.OutputFile.{OutputFile}
use Rattle.replay.specs.declared.capture_output.Written.{Written}
use Rattle.replay.specs.Reports.{BreaksBehind, IsFull}
use Rattle.replay.specs.Writing.{as_written, Writes}

-- two numbers that do not differ are one
pub same-unless-different : (a b : ℕ) → (a ≢ b → ⊥) → a ≡ b
same-unless-different a b not = elim (cases_eq a b) [ inl is ↦ is | inr differs ↦ absurd (not differs) ]

-- a record that takes no room does so before more messages
full-grows : (sent : ℕ) (ms more : List Message) → IsFull sent ms → IsFull sent (ms ++ more)
full-grows sent [] more full = absurd full
full-grows sent (m ∷ ms) more full = full

module _ {W : Type 0} (taken : W → Option (List ℕ)) (failures : W → ℕ) (o : OutputFile W) where
  -- what the law of the growing text says
  abbrev Grows : Type 0
  Grows = (packets more : List Packet) (text : List ℕ) → IsBeginning text (encoded o.order o.unit o.snap packets) → IsBeginning text (encoded o.order o.unit o.snap (packets ++ more))

  -- and how much one packet more adds
  abbrev Adds : Type 0
  Adds = (packets : List Packet) (p : Packet) → length (encoded o.order o.unit o.snap (packets ++ p ∷ [])) ≡ length (encoded o.order o.unit o.snap packets) + 16 + length p.bytes

  -- the text of more packets is as long at least
  longer : Grows → (ps qs : List Packet) → length (encoded o.order o.unit o.snap ps) ≤ length (encoded o.order o.unit o.snap (ps ++ qs))
  longer grows ps qs =
      let t = encoded o.order o.unit o.snap ps in
      let b = grows ps qs t ([], sym (append-nil t)) in
      let l = ap length b.1 in omega (arith, l, length-append t b.0)

  -- the packet after the first n, among more packets
  still-short : Grows → (ps qs : List Packet) (n : ℕ) (text : List ℕ) → n ≤ length ps
      → length text < length (encoded o.order o.unit o.snap (take (n + 1) ps)) → length text < length (encoded o.order o.unit o.snap (take (n + 1) (ps ++ qs)))
  still-short grows ps qs n text some short = elim (cases_lt n (length ps)) [
    | inl below ↦ subst (λ (xs : List Packet). length text < length (encoded o.order o.unit o.snap xs)) (sym (take-append-le (n + 1) ps qs (omega (arith, below)))) short
    | inr all ↦ (
        let is : n ≡ length ps = omega (arith, some, all) in
        let more : take (n + 1) (ps ++ qs) ≡ ps ++ take 1 qs = ap (λ (k : ℕ). take (k + 1) (ps ++ qs)) is ∙ take-append-add ps qs 1 in
        let same = ap (λ (xs : List Packet). length (encoded o.order o.unit o.snap xs)) (take_all (n + 1) ps (omega (arith, all))) in
        let l = longer grows ps (take 1 qs) in
        subst (λ (xs : List Packet). length text < length (encoded o.order o.unit o.snap xs)) (sym more) (omega (arith, short, same, l)))
  ]

  -- a text that breaks off does so among more packets
  breaks-grows : Grows → (ps qs : List Packet) (n : ℕ) (text : List ℕ)
      → BreaksBehind o.order o.unit o.snap ps n text → BreaksBehind o.order o.unit o.snap (ps ++ qs) n text
  breaks-grows grows ps qs n text b = record {
    begins = grows ps qs text b.begins;
    some = omega (arith, b.some, length-append ps qs);
    whole = elim b.whole [
      | inl none ↦ inl none
      | inr all ↦ inr (subst (λ (xs : List Packet). length (encoded o.order o.unit o.snap xs) ≤ length text) (sym (take-append-le n ps qs b.some)) all)
    ];
    short = still-short grows ps qs n text b.some b.short;
  }

  -- after all packets but the last
  breaks-at-last : (ps : List Packet) (p : Packet) (text : List ℕ) → IsBeginning text (encoded o.order o.unit o.snap (ps ++ p ∷ []))
      → length (encoded o.order o.unit o.snap ps) ≤ length text → length text < length (encoded o.order o.unit o.snap (ps ++ p ∷ []))
      → BreaksBehind o.order o.unit o.snap (ps ++ p ∷ []) (length ps) text
  breaks-at-last ps p text begins least short = record {
    begins = begins;
    some = omega (arith, length-append ps (p ∷ []));
    whole = inr (subst (λ (xs : List Packet). length (encoded o.order o.unit o.snap xs) ≤ length text) (sym (take-append_seam ps (p ∷ []))) least);
    short = subst (λ (xs : List Packet). length text < length (encoded o.order o.unit o.snap xs)) (sym (take-append-add ps (p ∷ []) 1)) short;
  }

  -- the header was written
  pub opens : (w : Written W) → w.count ≡ 0 → w.works ≡ true
      → HasWritten taken (taken o.sink) o.order o.unit o.snap [] w.writer → failures w.writer.sink ≡ failures o.sink
      → Writes taken failures o [] w
  opens w none works written same = record {
    whole = λ _. (none, written, same);
    broke = λ e. let bad : true ≡ false = sym works ∙ e in absurd cc;
  }

  -- the sink failed under the header
  pub fails-to-open : (w : Written W) → w.count ≡ 0 → w.works ≡ false
      → HasWrittenPart taken (taken o.sink) o.order o.unit o.snap [] w.writer → failures w.writer.sink ≢ failures o.sink
      → Writes taken failures o [] w
  fails-to-open w none works broke differs = record {
    whole = λ e. let bad : false ≡ true = sym works ∙ e in absurd cc;
    broke = λ _. (
      broke.text,
      record { begins = broke.begins; some = omega (arith, none); whole = inl none; short = subst (λ (k : ℕ). length broke.text < length (encoded o.order o.unit o.snap (take (k + 1) []))) (sym none) broke.short },
      broke.sent,
      inl differs,
    );
  }

  -- after a fault nothing more is written
  pub stays-broken : (messages more : List Message) (w : Written W) → Grows → w.works ≡ false
      → Writes taken failures o messages w → Writes taken failures o (messages ++ more) w
  stays-broken messages more w grows broken t =
      let b = t.broke broken in
      let some : w.count ≤ length messages = (let l = length-map messages as_written in omega (arith, b.1.some, l)) in record {
        whole = λ e. let bad : false ≡ true = sym broken ∙ e in absurd cc;
        broke = λ _. (
          b.0,
          subst (λ (ps : List Packet). BreaksBehind o.order o.unit o.snap ps w.count b.0) (sym (map-append as_written messages more))
              (breaks-grows grows (map as_written messages) (map as_written more) w.count b.0 b.1),
          b.2,
          elim b.3 [
            | inl differs ↦ inl differs
            | inr full ↦ inr (subst (λ (ms : List Message). IsFull w.writer.sent ms) (sym (drop-append-le w.count messages more some)) (full-grows w.writer.sent (drop w.count messages) more full))
          ],
        );
      }

  -- one message more was written
  pub writes-more : (messages : List Message) (m : Message) (old new : Written W) → old.works ≡ true → Writes taken failures o messages old
      → new.works ≡ true → new.count ≡ old.count + 1
      → HasWritten taken (taken o.sink) o.order o.unit o.snap (map as_written messages ++ as_written m ∷ []) new.writer
      → failures new.writer.sink ≡ failures old.writer.sink
      → Writes taken failures o (messages ++ m ∷ []) new
  writes-more messages m old new worked t works count written same =
      let was = t.whole worked in record {
        whole = λ _. (
          omega (arith, count, was.0, length-append messages (m ∷ [])),
          subst (λ (ps : List Packet). HasWritten taken (taken o.sink) o.order o.unit o.snap ps new.writer) (sym (map-append as_written messages (m ∷ []))) written,
          same ∙ was.2,
        );
        broke = λ e. let bad : true ≡ false = sym works ∙ e in absurd cc;
      }

  -- the sink handed on what it had gathered
  pub still-written : (messages : List Message) (old new : Written W) → old.works ≡ true → Writes taken failures o messages old
      → new.works ≡ true → new.count ≡ old.count → new.writer.order ≡ old.writer.order → new.writer.unit ≡ old.writer.unit
      → new.writer.sent ≡ old.writer.sent → new.writer.failed ≡ old.writer.failed
      → Keeps (taken old.writer.sink) (taken new.writer.sink) → failures new.writer.sink ≡ failures old.writer.sink
      → Writes taken failures o messages new
  still-written messages old new worked t works count order unit sent failed keeps same =
      let was = t.whole worked in record {
        whole = λ _. (
          count ∙ was.0,
          record {
            sent = record { bytes = Appends-kept (taken o.sink) (taken old.writer.sink) (taken new.writer.sink) _ was.1.sent.bytes keeps; count = sent ∙ was.1.sent.count };
            works = failed ∙ was.1.works;
            in_order = order ∙ was.1.in_order;
            in_unit = unit ∙ was.1.in_unit;
          },
          same ∙ was.2,
        );
        broke = λ e. let bad : true ≡ false = sym works ∙ e in absurd cc;
      }

  -- this many packets take more bytes than can be counted
  pub count-below : (messages : List Message) (w : Written W) (new : Writer W) (m : Message) → w.works ≡ true → Writes taken failures o messages w
      → ((packets : List Packet) → 24 + 16 * length packets ≤ length (encoded o.order o.unit o.snap packets))
      → HasWritten taken (taken o.sink) o.order o.unit o.snap (map as_written messages ++ as_written m ∷ []) new
      → new.sent < 2 ^ 64 → w.count + 1 < 2 ^ 64
  count-below messages w new m works t room written below =
      let was = t.whole works in
      let n = was.0 in
      let r = room (map as_written messages ++ as_written m ∷ []) in
      let s = written.sent.count in
      omega (arith, n, r, s, below, length-append (map as_written messages) (as_written m ∷ []), length-map messages as_written)

  -- the end of a put that failed, by the fault
  pub put-fails : (messages : List Message) (m : Message) (old new : Written W) (fault : Fault) → Grows → Adds → old.works ≡ true → Writes taken failures o messages old
      → new.works ≡ false → new.count ≡ old.count → old.writer.sent ≤ new.writer.sent
      → (fault ≡ Device → HasWrittenPart taken (taken o.sink) o.order o.unit o.snap (map as_written messages ++ as_written m ∷ []) new.writer)
      → (fault ≡ Device → failures new.writer.sink ≢ failures old.writer.sink)
      → (fault ≡ Failed → old.writer.failed ≡ true)
      → (fault ≡ CountFull → 2 ^ 64 ≤ old.writer.sent + 16 + length m.bytes)
      → (fault ≡ CountFull → new.writer ≡ old.writer)
      → (fault ≡ Device) ⊎ (fault ≡ Failed) ⊎ (fault ≡ CountFull)
      → Writes taken failures o (messages ++ m ∷ []) new
  put-fails messages m old new fault grows adds worked t broken count more broke differs failed full same which =
      let was = t.whole worked in
      let ps = map as_written messages in
      let p = as_written m in
      let n : length ps ≡ new.count = (let l = length-map messages as_written in omega (arith, l, count, was.0)) in
      let at : length messages ≡ new.count = omega (arith, count, was.0) in
      let as_all = λ (text : List ℕ) (b : BreaksBehind o.order o.unit o.snap (ps ++ p ∷ []) (length ps) text).
      subst (λ (xs : List Packet). BreaksBehind o.order o.unit o.snap xs new.count text) (sym (map-append as_written messages (m ∷ [])))
      (subst (λ (k : ℕ). BreaksBehind o.order o.unit o.snap (ps ++ p ∷ []) k text) n b) in record {
        whole = λ e. let bad : false ≡ true = sym broken ∙ e in absurd cc;
        broke = λ _. elim which [
          | inl device ↦ (
              let b = broke device in (
                b.text,
                as_all b.text (breaks-at-last ps p b.text b.begins (let s = was.1.sent.count in let now = b.sent.count in omega (arith, s, now, more)) b.short),
                b.sent,
                inl (λ is. differs device (is ∙ sym was.2)),
              ))
          | inr (inl again) ↦ (let bad : false ≡ true = sym was.1.works ∙ failed again in absurd cc)
          | inr (inr many) ↦ (
            encoded o.order o.unit o.snap ps,
            as_all _ (breaks-at-last ps p _ (grows ps (p ∷ []) _ ([], sym (append-nil _))) (omega arith) (let a = adds ps p in omega (arith, a))),
            subst (λ (w : Writer W). Sent taken (taken o.sink) (encoded o.order o.unit o.snap ps) w) (sym (same many)) was.1.sent,
            inr (subst (λ (ms : List Message). IsFull new.writer.sent ms)
                (sym (ap (λ (k : ℕ). drop k (messages ++ m ∷ [])) (sym at) ∙ drop-append_seam messages (m ∷ [])))
                (subst (λ (w : Writer W). 2 ^ 64 ≤ w.sent + 16 + length m.bytes) (sym (same many)) (full many))),
          )
        ];
      }
