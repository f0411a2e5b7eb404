use Rattle.std.proofs.Common.{◌+◌, ◌∙◌, arith, sym, ap, subst, Bool}
use Rattle.savefile.specs.declared.packet.Packet.{Packet}
use Rattle.cli_watch.specs.Frames.{is_unseen}
use Rattle.cli_compare.specs.declared.each.DifferenceCounts.{DifferenceCounts}
use Rattle.cli_compare.specs.Pairs.{Fit, counted}
use Rattle.cli_compare.proofs.Differences.{breaks-off, fit-more, goes-on}
use Rattle.cli_compare.proofs.each.ComparingPacketPrinterDifferenceCounts.print.Goals as goal

pub count-requires-clause-room : goal.count-requires-clause-room
count-requires-clause-room g c = let (n, fit, small) = c.requires in omega (arith, fit.packets, small)

pub count-requires-clause-first : goal.count-requires-clause-first
count-requires-clause-first g c = c.requires.1.first

pub count-requires-clause-second : goal.count-requires-clause-second
count-requires-clause-second g c = c.requires.1.second

pub count-requires-clause-unseen : goal.count-requires-clause-unseen
count-requires-clause-unseen g c = c.requires.1.unseen

pub returns-in-Ok-clause-fit : goal.returns-in-Ok-clause-fit
returns-in-Ok-clause-fit g c = λ n fit. subst (λ (k : DifferenceCounts). Fit k (n + 1)) (sym c.count.ensures) (fit-more c.in-Ok.agreement c.is_unseen.result c.args.counts.now n fit)

pub returns-in-Ok-clause-prints : goal.returns-in-Ok-clause-prints
returns-in-Ok-clause-prints g c = λ packets start was.
    let (differences, are, lines, counts) = was in
    goes-on c.args.self.now.form c.args.self.now.pair.now _ _ _ packets differences c.args.counts.now c.count.new.self c.args.packet.now c.in-Ok.agreement are lines counts c.in-Ok.ensures.is c.in-Ok.ensures.ok
    (c.count.ensures ∙ ap (λ (u : Bool). counted c.in-Ok.agreement u c.args.counts.now) (c.is_unseen.ensures ∙ ap (λ (q : Packet). is_unseen q.bytes) c.packet.view_is))

pub returns-in-Err-clause-breaks : goal.returns-in-Err-clause-breaks
returns-in-Err-clause-breaks g c = λ packets start was.
    let (differences, are, lines, counts) = was in
    breaks-off c.args.self.now.form c.args.self.now.pair.now _ _ _ packets differences c.args.counts.now c.args.packet.now c.in-Err.unprinted are lines counts c.in-Err.ensures.fault
