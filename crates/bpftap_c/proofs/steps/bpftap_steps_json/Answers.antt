use Rattle.bpftap_c.proofs.Playing.{puts}
use Rattle.bpftap_c.proofs.steps.bpftap_steps_json.Goals as goal

pub returns : goal.returns
returns c = puts c.reports_text-reports.result _ _ _ c.reports_text-reports.ensures.ok c.reports_text-reports.ensures.err c.put_played.ensures.text c.put_played.ensures.none
