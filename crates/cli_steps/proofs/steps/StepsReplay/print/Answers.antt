use Rattle.std.proofs.Common.{map, refl}
use Rattle.cli_steps.specs.Playing.{is_explained, is_traced}
use Rattle.cli_steps.proofs.Handing.{handed}
use Rattle.cli_steps.proofs.steps.StepsReplay.print.Goals as goal

pub returns-clause-played : goal.returns-clause-played
returns-clause-played g c =
    let call = c.play-replayed in
    let detail = c.args.printing.detail in
    handed c.args.printing.form (is_explained detail) (map (λ c. c.now) c.args.self.captures.now) c.args.self.plan.now.specs.items c.args.self.plan.now.steps.items _ _ _ c.hand_on.ensures.bytes (is_traced detail) call.result.0.status c.hand_on.result call.result.1
    (record { played = call.result.0; plays = call.ensures; ends = refl }) c.hand_on.ensures.ends
