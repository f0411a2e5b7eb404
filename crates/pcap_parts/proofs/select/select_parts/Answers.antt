use Rattle.std.proofs.Common.{◌≡◌, List, [], refl, inr, rules, subst, sym, take}
use Rattle.std.specs.Prelude.{All}
use Rattle.std.specs.List.{Contains}
use Rattle.std.proofs.lemmas.List.{take_all}
use Rattle.std.proofs.lemmas.Result.{err_from_is_err_and}
use Rattle.std.proofs.lemmas.List.Elements.{All-nil, All-push, Contains-get_or}
use Rattle.pcap_parts.specs.declared.part.PartCut.{PartCut}
use Rattle.pcap_parts.specs.Joining.{begun, Joins}
use Rattle.pcap_parts.specs.Selecting.{Takes}
use Rattle.pcap_parts.proofs.Selecting.{falls_short, stops_at, Joins-more, Takes-next-taken, Takes-next-passed}
use Rattle.pcap_parts.proofs.select.select_parts.Goals as goal
use Rattle.pcap_parts.proofs.select.select_parts.Goals.{then-branch+in_ok-push, else-branch}

pub loop-part-init : goal.loop-part-init
loop-part-init c =
    let size = c.args.size in
    let empty = sym c.new-selected.ensures.items in (
      subst (λ (ps : List PartCut). All (Contains c.args.parts.now) ps) empty (All-nil (Contains c.args.parts.now)),
      subst (λ (ps : List PartCut). Joins (begun size) ps c.new-whole.result) empty c.new-whole.ensures,
      subst (λ (ps : List PartCut). Takes (begun size) [] ps c.new-whole.result) empty (refl, c.new-whole.ensures),
    )

pub loop-part-preserved : goal.loop-part-preserved
loop-part-preserved c =
    let size = c.args.size in
    let parts = c.args.parts.now in
    let (given, joins, takes) = c.loop-part.invariant in
    let before = c.loop-part.selected.items in
    elim c.if-branch.branch [
      | then-branch+in_ok-push w ↦
          let added = c.in_ok-add.ensures.added (cc) in
          let more = Joins-more (begun size) before c.loop-part.whole _ joins added.0 in
          let one = Contains-get_or parts c.loop-part.part-index _ c.loop-part-test.true in
          let taken = Takes-next-taken (begun size) parts before c.loop-part.whole c.loop-part.part-index _ c.loop-part-test.true takes added.0 in
          rw (w.selected-is, w.in_ok-push.ensures.items, added.1) (All-push (Contains parts) before _ given one, more, taken)
      | else-branch w ↦
          let (stays, why) = c.in_ok-add.ensures.passed (cc) in
          let passed = Takes-next-passed (begun size) parts before c.loop-part.whole c.loop-part.part-index _ c.loop-part-test.true takes why in
          rw (w.selected-is, stays) (given, joins, passed)
    ]

pub returns-in_err-add-clause-unfit : goal.returns-in_err-add-clause-unfit
returns-in_err-add-clause-unfit c =
    let p = err_from_is_err_and c.from_residual.result c.from_residual.ensures.1 in
    let (given, joins, takes) = c.loop-part.invariant in
    rw (p.1, p.2) (stops_at c.args.size c.args.parts.now c.loop-part.selected.items c.loop-part.whole c.loop-part.part-index _ _ c.loop-part-test.true takes c.in_err-add.ensures.misfit.1)

pub returns-in_err-finish-clause-unfit : goal.returns-in_err-finish-clause-unfit
returns-in_err-finish-clause-unfit c =
    let p = err_from_is_err_and c.from_residual-in_err-finish.result c.from_residual-in_err-finish.ensures.1 in
    let parts = c.args.parts.now in
    let size = c.args.size in
    let whole = c.loop-part.whole in
    let selected = c.loop-part.selected.items in
    let (given, joins, takes) = c.loop-part.invariant in
    let all : take c.loop-part.part-index parts ≡ parts = take_all c.loop-part.part-index parts (search rules) in
    let (at, short) = c.in_err-finish.ensures.missing in
    rw (p.1, p.2, at) (falls_short size parts selected whole whole.next (subst (λ (ps : List PartCut). Takes (begun size) ps selected whole) all takes) refl (inr short))
