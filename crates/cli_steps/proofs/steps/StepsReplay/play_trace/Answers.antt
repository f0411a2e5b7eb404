use Rattle.std.proofs.Common.{refl}
use Rattle.cli_steps.specs.Playing.{is_explained, trace_text}
use Rattle.cli_steps.proofs.Ending.{explains, Reported-of}
use Rattle.cli_steps.proofs.steps.StepsReplay.play_trace.Goals as goal

pub returns-in-Ok-print_trace : goal.returns-in-Ok-print_trace
returns-in-Ok-print_trace g c =
    let traced = c.in-Ok.traced in
    let explained = is_explained c.args.printing.detail in
    let stands = rw c.as_slice.ensures.value at (rw c.as_slice-2.ensures.value at c.in-Ok.ensures.stands) in
    let replays = rw c.as_slice.ensures.value at (rw c.as_slice-2.ensures.value at c.in-Ok.ensures.tells) in
    let answers = rw c.as_slice.ensures.value at (rw c.as_slice-2.ensures.value at c.in-Ok.ensures.answers) in
    let expressions = rw c.as_slice.ensures.value at c.in-Ok.ensures.expressions in (
      traced.reports.items,
      Reported-of c.args.printing.form explained _ _ _ _ _ c.report_end.result traced.reports.items traced.record_fault traced.playlist.items c.in-Ok-print_trace.printed
          (trace_text c.args.printing.form explained c.args.self.plan.now.specs.items c.args.self.plan.now.steps.items traced) stands replays
          (explains c.args.printing.form explained _ _ _ traced answers expressions)
          c.in-Ok-print_trace.ensures.prints c.report_end.ensures.tells c.report_end.ensures.greatest,
      record { same_reports = refl; same_fault = refl; replays = replays; answers = answers; expressions = expressions },
    )
