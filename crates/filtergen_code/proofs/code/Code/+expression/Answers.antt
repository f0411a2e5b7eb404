use Rattle.std.proofs.Common.{arith, refl}
use Rattle.std.proofs.lemmas.Result.{MatchResult-weaker}
use Rattle.filter_tree.specs.Trees.{tree_of}
use Rattle.filtergen_code.proofs.Ends.{emits-link, leaves-both, leaves-either, continues-none, continues-more}
use Rattle.filtergen_code.proofs.Leading.{relays-not, relays-all-later}
use Rattle.filtergen_code.proofs.Narrowed.{given-more, given-relayed, given-not, given-passed, relays-none}
use Rattle.filtergen_code.proofs.Taking.{map-option, emits-none, emits-whole}
use Rattle.filtergen_code.proofs.code.Code.+expression.Goals.{emit_right_end-in-Everything, emit_right_end-in-Test+in_ok-emitted-in-Test, emit_right_end-in-Relation+in_ok-room-in-Relation+in_ok-entry-in-Relation, emit_right_end-in-Not+in_ok-inner-in-Not}
use Rattle.filtergen_code.proofs.code.Code.+expression.Goals as goal

pub emit_expr-returns-in_default : goal.emit_expr-returns-in_default
emit_expr-returns-in_default t c =
    let before = c.ends.invariant in
    let whole = rw c.in_default.is at c.in_ok-end.ensures in
    rw c.with_last-targets.ensures (before.decides _ _ whole.0, before.relays _ _ _ whole.0.extends whole.1)

pub emit_expr-ends-preserved : goal.emit_expr-ends-preserved
emit_expr-ends-preserved t c =
    let end = rw c.in-Some.is at c.in_ok-end.ensures in
    rw (c.left_targets-on.ensures, c.with_end-kept.ensures, c.chain_of-chain.ensures) (continues-more c.ends.invariant end)

pub emit_right_end-returns-in-And : goal.emit_right_end-returns-in-And
emit_right_end-returns-in-And t c =
    let found = rw (c.deref-in-And.ensures, c.deref-in-And-2.ensures) at c.emit_last_link.ensures in
    rw c.in-And.is
    (MatchResult-weaker c.emit_last_link.result found
    (λ end made. map-option end.left made (λ list. (emits-none list, list.relays)) (λ rest list. leaves-both list))
    (λ e full. full))

pub emit_right_end-returns-in-Or : goal.emit_right_end-returns-in-Or
emit_right_end-returns-in-Or t c =
    let found = rw (c.deref-in-Or.ensures, c.deref-in-Or-2.ensures) at c.emit_last_link-in-Or.ensures in
    rw c.in-Or.is
    (MatchResult-weaker c.emit_last_link-in-Or.result found
    (λ end made. map-option end.left made (λ list. (emits-whole list, list.relays)) (λ rest list. leaves-either list))
    (λ e full. full))

pub emit_right_end-returns : goal.emit_right_end-returns
emit_right_end-returns t c =
    let targets = c.args.context.targets in
    elim c.match-expr.branch [
      | emit_right_end-in-Everything w ↦
          rw (w.emitted-is, w.self-is, w.in-Everything.is)
          (given-passed c.args.context.known _ targets c.args.self.now c.requires.targets.0 (λ p holds. refl), relays-none targets c.args.self.now c.requires.targets)
      | emit_right_end-in-Test+in_ok-emitted-in-Test w ↦ rw (w.emitted-is, w.self-is, w.in-Test.is) w.in_ok-emitted-in-Test.ensures
      | emit_right_end-in-Relation+in_ok-room-in-Relation+in_ok-entry-in-Relation w ↦
          let relayed = w.emit_relays-targets.ensures in
          let done = w.in_ok-entry-in-Relation.ensures in
          rw (w.emitted-is, w.self-is, w.in-Relation.is)
          (given-more _ (omega arith) (given-relayed relayed.extends relayed.relays done), relays-all-later relayed.relays done.extends)
      | emit_right_end-in-Not+in_ok-inner-in-Not w ↦
          let done = rw (w.deref.ensures, w.opposite-targets.ensures) at w.in_ok-inner-in-Not.ensures in
          rw (w.emitted-is, w.self-is, w.in-Not.is, w.opposite-targets-in-Not.ensures) (given-not done.0, relays-not done.1)
    ]

pub emit_last_link-returns-in-Some : goal.emit_last_link-returns-in-Some
emit_last_link-returns-in-Some t c = rw c.in-Some.is at c.in_ok-listed.ensures

pub emit_last_link-returns : goal.emit_last_link-returns
emit_last_link-returns t c =
    let same = rw c.in_default.is at c.in_ok-listed.ensures in
    emits-link c.args.context.known c.args.chain (rw (c.facts_after-known.ensures, same) at c.in_ok-emitted.ensures)

pub emit_expr-ends-init : goal.emit_expr-ends-init
emit_expr-ends-init t c = continues-none c.args.context.known (tree_of c.args.expr.now) c.args.context.targets c.args.self.now c.requires.targets
