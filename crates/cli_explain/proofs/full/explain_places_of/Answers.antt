use Rattle.std.proofs.Common.{◌∙◌, subst, sym}
use Rattle.fault_report.proofs.Telling.{among-quiet}
use Rattle.fault_report.specs.Reports.{TellsAmong}
use Rattle.cli_answers.specs.Telling.{printed_status}
use Rattle.cli_answers.proofs.Headers.{all-printed}
use Rattle.cli_answers.proofs.Statuses.{clean-both}
use Rattle.cli_explain.specs.Telling.{found_status}
use Rattle.cli_explain.proofs.InFull.{found-later}
use Rattle.cli_explain.specs.Range.{FindsRange}
use Rattle.cli_explain.proofs.full.explain_places_of.Goals as goal

pub returns-in-Ok-true-clause-finds : goal.returns-in-Ok-true-clause-finds
returns-in-Ok-true-clause-finds g c tells works =
    let asked = c.args.asked.now in
    let call = c.explain_range-source in (
      call.result,
      subst (λ form. FindsRange g.F.Input.Source.left c.args.capture.source form asked.printer.filter.now asked.places.first asked.places.last (g.O.Write.contents c.args.out.now) (g.O.Write.contents call.new.out) call.result)
          c.of_capture-form.ensures call.ensures.finds,
      c.report_one-status.ensures.status,
      c.goes_on_after-goes_on.ensures,
      (λ device. c.done-noted.ensures.failed tells (λ none. call.ensures.source_broke.0 device (none ∙ sym works))),
      c.report_one-status.ensures.told,
    )

pub returns-in-Ok-false-clause-finds : goal.returns-in-Ok-false-clause-finds
returns-in-Ok-false-clause-finds g c tells works =
    let asked = c.args.asked.now in
    let call = c.explain_range-source in (
      call.result,
      subst (λ form. FindsRange g.F.Input.Source.left c.args.capture.source form asked.printer.filter.now asked.places.first asked.places.last (g.O.Write.contents c.args.out.now) (g.O.Write.contents call.new.out) call.result)
          c.of_capture-form.ensures call.ensures.finds,
      c.report_one-status.ensures.status,
      c.goes_on_after-goes_on.ensures,
      (λ device. c.done-noted.ensures.failed tells (λ none. call.ensures.source_broke.0 device (none ∙ sym works))),
      found-later (λ says. TellsAmong g.E.FaultSink.takes_hints g.E.FaultSink.failed g.E.Write.contents g.E.FaultSink.fault_form says c.args.err.now c.report_one-status.new.err) (λ says. TellsAmong g.E.FaultSink.takes_hints g.E.FaultSink.failed g.E.Write.contents g.E.FaultSink.fault_form says c.args.err.now c.hint_place.new.err) asked.paths.now c.args.capture.number asked.places.first call.result.read call.result.printed
          (λ says told. among-quiet g.E.FaultSink.takes_hints g.E.FaultSink.failed g.E.Write.contents g.E.FaultSink.fault_form says c.args.err.now c.report_one-status.new.err c.hint_place.new.err told c.hint_place.ensures.quiet) c.report_one-status.ensures.told,
    )

pub returns-in-Err-clause-finds : goal.returns-in-Err-clause-finds
returns-in-Err-clause-finds g c tells works =
    let asked = c.args.asked.now in
    let call = c.explain_range-source in (
      call.result,
      subst (λ form. FindsRange g.F.Input.Source.left c.args.capture.source form asked.printer.filter.now asked.places.first asked.places.last (g.O.Write.contents c.args.out.now) (g.O.Write.contents call.new.out) call.result)
          c.of_capture-form.ensures call.ensures.finds,
      c.report_one-status.ensures.status,
      c.goes_on_after-goes_on.ensures,
      (λ device. c.done-noted.ensures.failed tells (λ none. call.ensures.source_broke.0 device (none ∙ sym works))),
      found-later (λ says. TellsAmong g.E.FaultSink.takes_hints g.E.FaultSink.failed g.E.Write.contents g.E.FaultSink.fault_form says c.args.err.now c.report_one-status.new.err) (λ says. TellsAmong g.E.FaultSink.takes_hints g.E.FaultSink.failed g.E.Write.contents g.E.FaultSink.fault_form says c.args.err.now c.hint_capture.new.err) asked.paths.now c.args.capture.number asked.places.first call.result.read call.result.printed
          (λ says told. among-quiet g.E.FaultSink.takes_hints g.E.FaultSink.failed g.E.Write.contents g.E.FaultSink.fault_form says c.args.err.now c.report_one-status.new.err c.hint_capture.new.err told c.hint_capture.ensures.quiet) c.report_one-status.ensures.told,
    )

pub returns-in-Ok-true-clause-handed_on : goal.returns-in-Ok-true-clause-handed_on
returns-in-Ok-true-clause-handed_on g c none clean =
    let call = c.explain_range-source in
    call.ensures.handed_on none (all-printed call.result.printed (clean-both (printed_status call.result.printed) (found_status call.result.read) (sym c.report_one-status.ensures.status ∙ clean)).0)

pub returns-in-Ok-false-clause-handed_on : goal.returns-in-Ok-false-clause-handed_on
returns-in-Ok-false-clause-handed_on g c none clean =
    let call = c.explain_range-source in
    call.ensures.handed_on none (all-printed call.result.printed (clean-both (printed_status call.result.printed) (found_status call.result.read) (sym c.report_one-status.ensures.status ∙ clean)).0)

pub returns-in-Err-clause-handed_on : goal.returns-in-Err-clause-handed_on
returns-in-Err-clause-handed_on g c none clean =
    let call = c.explain_range-source in
    call.ensures.handed_on none (all-printed call.result.printed (clean-both (printed_status call.result.printed) (found_status call.result.read) (sym c.report_one-status.ensures.status ∙ clean)).0)
