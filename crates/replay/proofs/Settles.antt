-- What is promised of a task once its ends are settled.
use Rattle.std.proofs.Common.{◌≡◌, ℕ, ◌+◌, Bool, true, false, List, ◌++◌, length, map, refl, ap, sym, ◌∙◌, subst, Option, inl, inr, drop}
use Rattle.std.proofs.lemmas.List.{length-map}
use Rattle.std.specs.Io.KnownBytes.{Appends}
use Rattle.listener.specs.Buffers.{Filled}
use Rattle.listener.specs.Laws.{joined}
use Rattle.listener.specs.declared.answer.Counts.{Counts}
use Rattle.listener.specs.declared.message.Message.{Message}
use Rattle.savefile.specs.Savefile.{encoded}
use Rattle.savefile.specs.declared.packet.Packet.{Packet}
use Rattle.savefile.specs.Writer.{Sent}
use Rattle.handover.specs.Ends.{AreCountsOf, AreCountsOfCalls}
use Rattle.handover.specs.History.{LegalHistory, finds, merge}
use Rattle.handover.specs.Rule.{last, profile_of, terms_of}
use Rattle.handover.specs.Settling.{IsWhole}
use Rattle.handover.specs.declared.calls.Feed.{Feed}
use Rattle.handover.specs.declared.calls.Take.{Take}
use Rattle.replay.specs.Reading.{messages_of}
use Rattle.replay.specs.Reports.{BreaksBehind, IsFull, IsReported, WroteSoFar, kept_for, packet_of}
use Rattle.replay.specs.Tasks.{output_of}
use Rattle.replay.specs.Writing.{Writes, as_written}
use Rattle.replay_types.specs.declared.report.ListenerReport.{ListenerReport}
use Rattle.replay_types.specs.declared.report.TaskEnd.TheVariants.{Clean, Write, Unfinished}
use Rattle.replay_types.specs.declared.task.Task.{Task}
use Rattle.replay.specs.declared.capture_output.Written.{Written}
use Rattle.replay.proofs.Batches.{joins_buffers}

-- the messages that were popped, those left in the ring, the hold and the rest are what was kept
pub chain : (before now known sent : List Filled) (batches : List (List Message)) (hold rest all : List Message) → (joined batches ++ hold) ++ rest ≡ all
    → messages_of sent ≡ batches → now ++ known ≡ sent → now ≡ before
    → ((joined (messages_of before) ++ joined (messages_of known)) ++ hold) ++ rest ≡ all
chain before now known sent batches hold rest all whole pushed fifo same =
    ap (λ xs. (xs ++ hold) ++ rest)
    (ap (λ bs. joined (messages_of bs) ++ joined (messages_of known)) (sym same) ∙ sym (joins_buffers now known)
    ∙ ap (λ bs. joined (messages_of bs)) fifo ∙ ap joined pushed)
    ∙ whole

module _ {W : Type 0} (taken : W → Option (List ℕ)) (failures : W → ℕ) (task : Task W) (feeds : List Feed) (takes : List Take) (r : ListenerReport W)
    (counts : Counts) (hold rest : List Message)
    (history : LegalHistory (terms_of (profile_of task.capacity task.mode)) feeds takes (merge feeds takes))
    (are : AreCountsOf counts (last feeds takes)) (counted : AreCountsOfCalls counts feeds)
    (whole : IsWhole (profile_of task.capacity task.mode) feeds takes hold rest counts)
    (told : (r.received ≡ counts.received) × (r.matched ≡ counts.matched) × (r.dropped ≡ counts.dropped))
    (w : Written W) (back : (r.sink ≡ w.writer.sink) × (r.sent ≡ w.writer.sent) × (r.written ≡ w.count))
    (as-they-are : map as_written (kept_for task feeds takes) ≡ map packet_of (kept_for task feeds takes)) where
  -- what the sink took
  abbrev Took : Type 0
  Took = (text : List ℕ) × Appends (taken task.sink) (taken r.sink) text × (r.sent ≡ length text)

  took-of-sent : (text : List ℕ) → Sent taken (taken task.sink) text w.writer → Took
  took-of-sent text s = (text, subst (λ (x : W). Appends (taken task.sink) (taken x) text) (sym back.0) s.bytes, back.1 ∙ s.count)

  -- the ring did not hand over its end
  unfinished-by : (works : Bool) → w.works ≡ works → (messages : List Message) → Writes taken failures (output_of task) messages w → r.end ≡ Unfinished
      → (s : Took) × WroteSoFar task.order task.unit task.snap (map as_written messages) r.written s.0
  unfolding took-of-sent
  unfinished-by true is messages t end = let all = t.whole is in (took-of-sent _ all.1.sent, inl (back.2 ∙ all.0 ∙ sym (length-map messages as_written), refl))
  unfinished-by false is messages t end =
      let off = t.broke is in
      (took-of-sent off.0 off.2, inr (subst (λ (n : ℕ). BreaksBehind task.order task.unit task.snap (map as_written messages) n off.0) (sym back.2) off.1))

  pub unfinished : (messages : List Message) → Writes taken failures (output_of task) messages w → r.end ≡ Unfinished → IsReported taken failures task feeds takes r
  unfinished messages t end =
      let s = unfinished-by w.works refl messages t end in record {
        history = history;
        all_received = (told.0 ∙ counted.all_received, told.0 ∙ are.all_received);
        all_matched = (told.1 ∙ counted.all_matched, told.1 ∙ are.all_matched);
        all_dropped = (told.2 ∙ counted.all_dropped, told.2 ∙ are.all_dropped);
        balance = told.1 ∙ whole.balance ∙ ap (λ d. length (kept_for task feeds takes) + d) (sym told.2);
        text = s.0.0;
        took = s.0.1;
        all_sent = s.0.2;
        clean = λ e. let bad = sym end ∙ e in absurd cc;
        broke = λ n e. let bad = sym end ∙ e in absurd cc;
        unfinished = λ _. (map as_written messages, s.1);
      }

  -- all that was kept was written, or a beginning of it
  finished-by : (works : Bool) → w.works ≡ works → Writes taken failures (output_of task) (kept_for task feeds takes) w
      → (r.end ≡ Clean → (w.works ≡ true) × (finds feeds ≡ false)) → ((n : ℕ) → r.end ≡ Write n → (w.works ≡ false) × (n ≡ w.writer.sent))
      → IsReported taken failures task feeds takes r
  unfolding took-of-sent
  finished-by true is t ends breaks =
      let all = t.whole is in let s = took-of-sent _ all.1.sent in record {
        history = history;
        all_received = (told.0 ∙ counted.all_received, told.0 ∙ are.all_received);
        all_matched = (told.1 ∙ counted.all_matched, told.1 ∙ are.all_matched);
        all_dropped = (told.2 ∙ counted.all_dropped, told.2 ∙ are.all_dropped);
        balance = told.1 ∙ whole.balance ∙ ap (λ d. length (kept_for task feeds takes) + d) (sym told.2);
        text = s.0;
        took = s.1;
        all_sent = s.2;
        clean = λ e. ((ends e).1, back.2 ∙ all.0, ap (encoded task.order task.unit task.snap) as-they-are, ap failures back.0 ∙ all.2);
        broke = λ n e. let bad = sym is ∙ (breaks n e).0 in absurd cc;
        unfinished = λ _. (_, inl (back.2 ∙ all.0 ∙ sym (length-map (kept_for task feeds takes) as_written), refl));
      }
  finished-by false is t ends breaks =
      let off = t.broke is in let s = took-of-sent off.0 off.2 in record {
        history = history;
        all_received = (told.0 ∙ counted.all_received, told.0 ∙ are.all_received);
        all_matched = (told.1 ∙ counted.all_matched, told.1 ∙ are.all_matched);
        all_dropped = (told.2 ∙ counted.all_dropped, told.2 ∙ are.all_dropped);
        balance = told.1 ∙ whole.balance ∙ ap (λ d. length (kept_for task feeds takes) + d) (sym told.2);
        text = s.0;
        took = s.1;
        all_sent = s.2;
        clean = λ e. let bad = sym is ∙ (ends e).0 in absurd cc;
        broke = λ n e. (
          (breaks n e).1 ∙ sym back.1,
          subst (λ (n : ℕ). BreaksBehind task.order task.unit task.snap (map packet_of (kept_for task feeds takes)) n off.0) (sym back.2)
              (subst (λ (ps : List Packet). BreaksBehind task.order task.unit task.snap ps w.count off.0) as-they-are off.1),
          elim off.3 [
            | inl differs ↦ inl (λ same. differs (ap failures (sym back.0) ∙ same))
            | inr full ↦ inr (subst (λ (n : ℕ). IsFull n (drop r.written (kept_for task feeds takes))) (sym back.1)
                (subst (λ (k : ℕ). IsFull w.writer.sent (drop k (kept_for task feeds takes))) (sym back.2) full))
          ],
        );
        unfinished = λ _. (_, inr (subst (λ (n : ℕ). BreaksBehind task.order task.unit task.snap (map as_written (kept_for task feeds takes)) n off.0) (sym back.2) off.1));
      }

  pub finished : Writes taken failures (output_of task) (kept_for task feeds takes) w
      → (r.end ≡ Clean → (w.works ≡ true) × (finds feeds ≡ false)) → ((n : ℕ) → r.end ≡ Write n → (w.works ≡ false) × (n ≡ w.writer.sent))
      → IsReported taken failures task feeds takes r
  finished = finished-by w.works refl
