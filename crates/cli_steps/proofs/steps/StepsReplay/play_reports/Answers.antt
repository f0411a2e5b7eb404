use Rattle.std.proofs.Common.{false, [], refl}
use Rattle.cli_steps.proofs.Ending.{Reported-of}
use Rattle.cli_steps.proofs.steps.StepsReplay.play_reports.Goals as goal

pub returns-in-Ok : goal.returns-in-Ok
returns-in-Ok g c =
    let stands = rw c.as_slice.ensures.value at (rw c.as_slice-2.ensures.value at c.in-Ok.ensures.stands) in
    let replays = rw c.as_slice.ensures.value at (rw c.as_slice-2.ensures.value at c.in-Ok.ensures.tells) in
    let taken = rw c.as_slice-in-Ok.ensures.value at c.print_reports_in-printed.ensures in (
      c.in-Ok.reports.items,
      Reported-of c.args.form false _ _ _ _ _ c.report_end.result c.in-Ok.reports.items c.in-Ok.record_fault replays.0 c.print_reports_in-printed.result [] stands replays.1
          refl taken c.report_end.ensures.tells c.report_end.ensures.greatest,
      refl,
    )
