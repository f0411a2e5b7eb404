use Rattle.std.proofs.Common.{Bool, List, ◌≡◌, ◌≤◌, ◌∙◌, ◌++◌, ◌∷◌, [], ap, subst, sym, Ok, refl, arith, Option, option_copied}
use Rattle.std.proofs.KnownBytes.{Consumes-nil, Consumes-trans}
use Rattle.bpfvm.specs.declared.insn.Insn.{Insn}
use Rattle.savefile.specs.declared.packet.Packet.{Packet}
use Rattle.savefile.specs.Reader.{HasGiven}
use Rattle.cli_answers.specs.declared.counts.VerdictCounts.{VerdictCounts}
use Rattle.cli_count.specs.Filter.{Answers}
use Rattle.cli_watch.specs.Frames.{is_unseen}
use Rattle.cli_answers.specs.Answers.{answer}
use Rattle.cli_answers.specs.Counts.{counted, AreCounts}
use Rattle.cli_answers.proofs.Counting.{counts-by, counted-packets, counted-yes, counted-no, counted-abort, counted-unseen}
use Rattle.cli_count.specs.Counting.{IsAnswered, IsTaken, packets_of}
use Rattle.pcap_info.proofs.Opening.{same-unless-different}
use Rattle.cli_count.proofs.Counting.{all-more, packets-last, gave-more}
use Rattle.cli_count.proofs.count.count_all.Goals as goal

pub loop-reader-preserved : goal.loop-reader-preserved
loop-reader-preserved g c = record {
  counts = λ from header given.
      let (answers, gives, all, are, charged) = c.loop-reader.invariant.counts from header given in
      let p = c.advance.new.self.lent in
      let v = c.judge-likely.result in
      let f = c.args.filter.now in
      let program = option_copied c.measured_program-program.result in
      let a = answer p v [] in
      let seen : c.is_unseen.result ≡ is_unseen p.bytes = c.is_unseen.ensures ∙ ap (λ (q : Packet). is_unseen q.bytes) (c.packet.view_is ∙ c.packet-packet.ensures) in (
        answers ++ a ∷ [],
        subst (λ (ps : _). HasGiven g.R.Source.left from header ps c.advance.new.self) (sym (packets-last answers a))
            (c.in-Ok-true.ensures.packet from header (packets_of answers) gives (ap Ok c.in-Ok-true.field-0-test)),
        all-more (IsAnswered f) answers a all (subst (λ (q : Packet). Answers f q v) c.packet-packet.ensures c.judge-likely.ensures),
        subst (λ (k : VerdictCounts). AreCounts k (answers ++ a ∷ [])) (sym (c.count.ensures ∙ ap (λ (u : Bool). counted v u c.loop-reader.counts) seen)) (counts-by v answers p [] c.loop-reader.counts are),
        subst (λ (ps : List Packet). IsTaken program ps c.taken_after-charged.result) (sym (packets-last answers a))
            (subst (λ (q : Packet). IsTaken program (packets_of answers ++ q ∷ []) c.taken_after-charged.result) c.packet-packet.ensures (c.taken_after-charged.ensures (packets_of answers) charged)),
      );
  packets = subst (λ (k : VerdictCounts). k.packets ≤ c.advance.new.self.given) (sym c.count.ensures)
      (counted-packets c.judge-likely.result c.is_unseen.result c.loop-reader.counts _ _ c.loop-reader.invariant.packets (gave-more _ _ _ c.advance.ensures.leaves (c.in-Ok-true.is ∙ ap Ok c.in-Ok-true.field-0-test)).0);
  yes = subst (λ (k : VerdictCounts). k.yes ≤ k.packets) (sym c.count.ensures) (counted-yes c.judge-likely.result c.is_unseen.result c.loop-reader.counts c.loop-reader.invariant.yes);
  no = subst (λ (k : VerdictCounts). k.no ≤ k.packets) (sym c.count.ensures) (counted-no c.judge-likely.result c.is_unseen.result c.loop-reader.counts c.loop-reader.invariant.no);
  abort = subst (λ (k : VerdictCounts). k.abort ≤ k.packets) (sym c.count.ensures) (counted-abort c.judge-likely.result c.is_unseen.result c.loop-reader.counts c.loop-reader.invariant.abort);
  unseen = subst (λ (k : VerdictCounts). k.unseen ≤ k.packets) (sym c.count.ensures) (counted-unseen c.judge-likely.result c.is_unseen.result c.loop-reader.counts c.loop-reader.invariant.unseen);
  taken =
      let (before, took) = c.loop-reader.invariant.taken in
      let (more, goes) = c.in-Ok-true.ensures.taken in
      (before ++ more, Consumes-trans _ _ _ before more took goes);
  source_works = same-unless-different _ _ (λ different. let broke = c.in-Ok-true.ensures.device.1 different in cc) ∙ c.loop-reader.invariant.source_works;
}

pub returns-in-Ok-false-clause-counts : goal.returns-in-Ok-false-clause-counts
returns-in-Ok-false-clause-counts g c = λ from header given.
    let (answers, gives, all, are, charged) = c.loop-reader.invariant.counts from header given in
    (answers, all, c.in-Ok-false.ensures.end from header (packets_of answers) gives (ap Ok c.in-Ok-false.field-0-test), are, subst (λ (m : Option (List Insn)). IsTaken m (packets_of answers) c.loop-reader.charged) c.measured_program-program.ensures charged)

pub returns-in-Ok-false-clause-taken : goal.returns-in-Ok-false-clause-taken
returns-in-Ok-false-clause-taken g c =
    let (before, took) = c.loop-reader.invariant.taken in
    let (more, goes) = c.in-Ok-false.ensures.taken in
    (before ++ more, Consumes-trans _ _ _ before more took goes)

pub returns-in-Err-clause-counts : goal.returns-in-Err-clause-counts
returns-in-Err-clause-counts g c = λ from header given.
    let (answers, gives, all, are, charged) = c.loop-reader.invariant.counts from header given in
    (answers, all, (c.in-Err.ensures.so_far from header (packets_of answers) gives, c.in-Err.ensures.cause from header (packets_of answers) gives), are, subst (λ (m : Option (List Insn)). IsTaken m (packets_of answers) c.loop-reader.charged) c.measured_program-program.ensures charged)

pub returns-in-Err-clause-taken : goal.returns-in-Err-clause-taken
returns-in-Err-clause-taken g c =
    let (before, took) = c.loop-reader.invariant.taken in
    let (more, goes) = c.in-Err.ensures.taken in
    (before ++ more, Consumes-trans _ _ _ before more took goes)
