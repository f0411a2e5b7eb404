use Rattle.std.proofs.Common.{◌+◌, ◌∙◌, ◌++◌, ◌∷◌, [], arith, inl, inr, sym, ap, subst, List, Bool}
use Rattle.savefile.specs.declared.packet.Packet.{Packet}
use Rattle.cli_watch.specs.Frames.{is_unseen}
use Rattle.cli_answers.specs.declared.counts.VerdictCounts.{VerdictCounts}
use Rattle.cli_answers.specs.Counts.{Fit, counted}
use Rattle.cli_answers.proofs.Counting.{fit-more}
use Rattle.cli_explain.proofs.Answered.{goes-on, breaks-off, packets-last}
use Rattle.cli_explain.proofs.form.AskingPacketPrinterVerdictCounts.print.Goals as goal

pub count-requires-clause-room : goal.count-requires-clause-room
count-requires-clause-room g c = let (n, fit, small) = c.requires in omega (arith, fit.packets, small)

pub count-requires-clause-yes : goal.count-requires-clause-yes
count-requires-clause-yes g c = c.requires.1.yes

pub count-requires-clause-no : goal.count-requires-clause-no
count-requires-clause-no g c = c.requires.1.no

pub count-requires-clause-abort : goal.count-requires-clause-abort
count-requires-clause-abort g c = c.requires.1.abort

pub count-requires-clause-unseen : goal.count-requires-clause-unseen
count-requires-clause-unseen g c = c.requires.1.unseen

pub returns-in-Ok-clause-fit : goal.returns-in-Ok-clause-fit
returns-in-Ok-clause-fit g c = λ n fit. subst (λ (k : VerdictCounts). Fit k (n + 1)) (sym c.count.ensures) (fit-more c.in-Ok.verdict c.is_unseen.result c.args.counts.now n fit)

pub returns-in-Ok-clause-prints : goal.returns-in-Ok-clause-prints
returns-in-Ok-clause-prints g c = λ packets start was.
    let (answers, are, all, lines, counts) = was in
    let p = c.args.packet.now in
    let (a, of, more, printed, sums) = goes-on c.args.self.now.form c.args.self.now.filter.now _ _ _ answers c.args.counts.now c.count.new.self p c.in-Ok.verdict all lines counts c.in-Ok.ensures.ok
    (c.count.ensures ∙ ap (λ (u : Bool). counted c.in-Ok.verdict u c.args.counts.now) (c.is_unseen.ensures ∙ ap (λ (q : Packet). is_unseen q.bytes) c.packet.view_is)) in
    (answers ++ a ∷ [], packets-last answers a ∙ ap (λ (ps : List Packet). ps ++ a.packet ∷ []) are ∙ ap (λ (q : Packet). packets ++ q ∷ []) of, more, printed, sums)

pub returns-in-Err-clause-breaks : goal.returns-in-Err-clause-breaks
returns-in-Err-clause-breaks g c = λ packets start was.
    let (answers, are, all, lines, counts) = was in
    let p = c.args.packet.now in
    let (told, every, which, part) = breaks-off c.args.self.now.form c.args.self.now.filter.now _ _ _ answers c.args.counts.now p c.in-Err.unprinted all lines counts c.in-Err.ensures.fault in
    elim which [
      | inl same ↦ inl (told, same ∙ are, every, part)
      | inr more ↦ inr (told, more ∙ ap (λ (ps : List Packet). ps ++ p ∷ []) are, every, part)
    ]
