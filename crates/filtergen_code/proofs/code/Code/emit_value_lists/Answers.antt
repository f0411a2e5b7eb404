use Rattle.filtergen_code.proofs.Taking.{map-both, emits-list, are-turned}
use Rattle.filtergen_code.proofs.code.Code.emit_value_lists.Goals as goal

pub emit_members-requires-clause-targets : goal.emit_members-requires-clause-targets
emit_members-requires-clause-targets c = rw c.targets_for_chain-targets.ensures (are-turned c.args.chain c.args.self.now c.args.context.targets c.requires.targets)

pub returns : goal.returns
returns c =
    let done = rw (c.targets_for_chain-targets.ensures) at c.in_ok-members.ensures in
    rw c.targets_for_chain-targets-2.ensures
    (map-both c.in-Some.left c.in-Some.ensures c.facts_after-known.ensures
    (λ ends is. let known = rw is at done in emits-list ends known)
    (λ rest ends is. let known = rw is at done in emits-list ends known))
