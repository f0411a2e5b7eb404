use Rattle.std.proofs.Common.{◌≡◌, ℕ, List, inl, inr, ap, length, subst, ◌∙◌, rules}
use Rattle.std.proofs.KnownBytes.{Keeps-refl}
use Rattle.line_text.specs.Sending.{Takes}
use Rattle.cli_text.specs.Telling.{told_line}
use Rattle.cli_filter.specs.Plan.{plan_fault_text}
use Rattle.cli_run.specs.Faults.{listeners_fault_text}
use Rattle.cli_run.proofs.Ran.{places_there, their_listeners, length_made, length_places}
use Rattle.cli_run.proofs.run.run_told.Goals as goal

pub returns-in-Err : goal.returns-in-Err
returns-in-Err g c =
    let many : c.len.result ≡ length c.args.captures.items = search rules in
    let text = ap (λ (file : List ℕ). plan_fault_text file c.fault_text.result.fault) c.fault_text.ensures.file ∙ ap listeners_fault_text c.fault_text.ensures.fault in
    inl (record {
      fault = c.in-Err.fault;
      stands = rw many at c.in-Err.ensures.fault;
      refuses = record {
        nothing = Keeps-refl _;
        tells = subst (Takes _ _ c.refuse.result.told) (ap told_line text) c.refuse.ensures.tells;
        refused = c.refuse.ensures.status;
        none = c.new.ensures.items;
      };
    })

pub end_run-requires-clause-there : goal.end_run-requires-clause-there
end_run-requires-clause-there g c =
    let many : c.len.result ≡ length c.args.captures.items = search rules in
    let replayed = c.in-Ok-replay_lines.ensures.replayed in
    places_there _ _ _ _ c.in-Ok.plan.lines.items c.in-Ok.plan.programs.items c.args.captures.items replayed.0 _ replayed.3 _ c.in-Ok-replay_lines.ensures.places
    (rw many at c.in-Ok.ensures.there)

pub end_run-requires-clause-counts : goal.end_run-requires-clause-counts
end_run-requires-clause-counts g c =
    let replayed = c.in-Ok-replay_lines.ensures.replayed in
    their_listeners _ _ _ _ c.in-Ok.plan.lines.items c.in-Ok.plan.programs.items c.args.captures.items replayed.0 _ replayed.3 _ c.in-Ok-replay_lines.ensures.places
    c.in-Ok.ensures.all (length_made _ _ _ _ replayed.1 replayed.2)

pub returns-in-Ok-replay_lines : goal.returns-in-Ok-replay_lines
returns-in-Ok-replay_lines g c =
    let many : c.len.result ≡ length c.args.captures.items = search rules in
    let replayed = c.in-Ok-replay_lines.ensures.replayed in
    inr (inr (record {
      lines = c.in-Ok.plan.lines.items;
      programs = c.in-Ok.plan.programs.items;
      planned = rw many at c.in-Ok.ensures.planned;
      sinks = replayed.0;
      last = replayed.1;
      made = replayed.2;
      reports = c.in-Ok-replay_lines.replayed.reports.items;
      replayed = replayed.3;
      tells = c.end_run.ensures.reports;
      all_back = c.end_run.ensures.all ∙ ap length c.in-Ok-replay_lines.ensures.places ∙ length_places c.in-Ok.plan.lines.items;
      in_order = rw c.in-Ok-replay_lines.ensures.places at c.end_run.ensures.back;
    }))

pub returns-in-Err-replay_lines : goal.returns-in-Err-replay_lines
returns-in-Err-replay_lines g c =
    let many : c.len.result ≡ length c.args.captures.items = search rules in
    inr (inl (record {
      lines = c.in-Ok.plan.lines.items;
      programs = c.in-Ok.plan.programs.items;
      planned = rw many at c.in-Ok.ensures.planned;
      sinks = c.in-Err-replay_lines.ensures.fault.0;
      fault = c.in-Err-replay_lines.fault;
      stands = c.in-Err-replay_lines.ensures.fault.1;
      refuses = record {
        nothing = Keeps-refl _;
        tells = c.refuse-in-Err-replay_lines.ensures.tells;
        refused = c.refuse-in-Err-replay_lines.ensures.status;
        none = c.new-in-Err-replay_lines.ensures.items;
      };
    }))
