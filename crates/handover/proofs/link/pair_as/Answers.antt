use Rattle.std.proofs.Common.{List, [], ◌∷◌, sym, subst}
use Rattle.atomic_table.specs.Table.{opening}
use Rattle.listener.specs.Buffers.{Filled}
use Rattle.handover.specs.Rule.{KeepsRule, first, profile_of}
use Rattle.handover.proofs.Steps.{opens}
use Rattle.handover.proofs.link.pair_as.Goals as goal

pub new-requires-2 : goal.new-requires-2
new-requires-2 c =
    let p = profile_of c.args.capacity c.args.mode in
    subst (λ (l : List Filled). KeepsRule p (opening (0 ∷ 0 ∷ 0 ∷ []) l (first p))) (sym c.in_ok-slots.ensures.ok) (opens p)
