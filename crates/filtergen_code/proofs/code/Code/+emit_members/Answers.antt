use Rattle.std.proofs.Common.{◌≡◌, ◌<◌, ◌++◌, ◌∷◌, [], Some, length, ap, ◌∙◌, arith, ◌+◌}
use Rattle.std.proofs.lemmas.List.{length-append}
use Rattle.std.proofs.lemmas.List.Elements.{All-pop}
use Rattle.std.proofs.lemmas.Result.{MatchResult-weaker, MatchResult-from_err}
use Rattle.filtergen_facts.specs.Lists.{IsMember}
use Rattle.filtergen_code.proofs.Taking.{rest_fits, emits-alone, emits-more}
use Rattle.filtergen_code.proofs.code.Code.+emit_members.Goals as goal

pub returns-in_default : goal.returns-in_default
returns-in_default t c =
    let first = c.args.first in
    let all = c.args.others.now.members.items in
    let ranges = c.group_of-group.result.ranges.items in
    let groups = rw c.in_default.ensures.none at c.group_of-group.ensures.groups in
    let kind = c.group_of-group.result.kind in
    MatchResult-weaker c.emit_group.result c.emit_group.ensures (λ emitted done. emits-alone first all kind ranges groups done) (λ e full. omega (arith, full, groups.weighs))

pub emit_members-requires : goal.emit_members-requires
emit_members-requires t c =
    let rest = c.group_of-group.new.self.members.items in
    let others = c.pop.new.self.members.items in
    let next = c.in-Some.next in
    let groups = c.group_of-group.ensures.groups in
    let parts : rest ≡ others ++ (next ∷ []) = c.in-Some.ensures.items in
    let both = All-pop IsMember rest others (Some next) parts (groups.members c.requires.others) in
    let long : length rest ≡ length others + 1 = ap length parts ∙ length-append others (next ∷ []) in
    let below : length others < length c.args.others.now.members.items = omega (arith, long, groups.fewer) in
    let smaller : length others < t = omega (arith, below, c.decreases) in
    (smaller, (both.1, (both.0, (c.pop.ensures.room, c.requires.targets))))

pub returns-in_err-second : goal.returns-in_err-second
returns-in_err-second t c =
    let all = c.args.others.now.members.items in
    let ranges = c.group_of-group.result.ranges.items in
    let rest = c.group_of-group.new.self.members.items in
    let others = c.pop.new.self.members.items in
    let kind = c.group_of-group.result.kind in
    let fits = rest_fits c.args.first c.in-Some.next all rest others kind ranges c.group_of-group.ensures.groups c.in-Some.ensures.items in
    MatchResult-from_err c.from_residual.result _ _ c.from_residual.ensures.0 (λ e. omega (arith, c.in_err-second.ensures, fits))

pub returns-in_err-head : goal.returns-in_err-head
returns-in_err-head t c =
    let all = c.args.others.now.members.items in
    let ranges = c.group_of-group.result.ranges.items in
    let rest = c.group_of-group.new.self.members.items in
    let others = c.pop.new.self.members.items in
    let kind = c.group_of-group.result.kind in
    let fits = rest_fits c.args.first c.in-Some.next all rest others kind ranges c.group_of-group.ensures.groups c.in-Some.ensures.items in
    let within = c.in_ok-second.ensures.decides.extends.within in
    MatchResult-from_err c.from_residual-in_err-head.result _ _ c.from_residual-in_err-head.ensures.0 (λ e. omega (arith, c.in_err-head.ensures, within, fits))

pub returns : goal.returns
returns t c =
    let first = c.args.first in
    let all = c.args.others.now.members.items in
    let ranges = c.group_of-group.result.ranges.items in
    let rest = c.group_of-group.new.self.members.items in
    let others = c.pop.new.self.members.items in
    let next = c.in-Some.next in
    emits-more first next all rest others c.group_of-group.result.kind ranges c.group_of-group.ensures.groups c.in-Some.ensures.items c.in_ok-second.ensures c.in_ok-head.ensures
