use Rattle.std.proofs.Common.{refl}
use Rattle.filter_diagrams.proofs.builder.Builder.go_on.Goals as goal

pub returns-clause-on : goal.returns-clause-on
returns-clause-on c = record { guard = c.in_ok-guard.guard; is = refl; always = c.in_ok-guard.ensures.says }
