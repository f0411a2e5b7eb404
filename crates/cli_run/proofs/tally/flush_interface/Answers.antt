use Rattle.std.proofs.Common.{◌≡◌, ◌<◌, length, refl, sym, subst, ◌∙◌, arith}
use borrow.Author.Rules.{scaled_Fits}
use Rattle.std.specs.List.{AllZip}
use Rattle.std.proofs.lemmas.List.{with_items_is}
use Rattle.cli_run.specs.Flushing.{IsFlushed}
use Rattle.cli_run.proofs.Flushed.{changed_more, changed_all, length_changed}
use Rattle.cli_run.proofs.tally.flush_interface.Goals as goal

-- the offset of a listener fits, where all listeners have room
pub offset_bounds-listener-items-listener-index : goal.offset_bounds-listener-items-listener-index
offset_bounds-listener-items-listener-index g c =
    scaled_Fits c.loop-listener.listener-index (length c.deref_mut-listener-items.result.now) _ c.loop-listener-test.true c.deref_mut-listener-items.type_inv.1

pub loop-listener-preserved : goal.loop-listener-preserved
loop-listener-preserved g c =
    let all = c.args.report.now.listeners.items in
    let inside : c.loop-listener.listener-index < length all = omega (arith, c.loop-listener-test.true, c.deref_mut-listener-items.ensures.len) in
    changed_more (IsFlushed g.W.Write.contents) c.loop-listener.listener-index all c.loop-listener.listener-items c.listener-item.result _ inside c.loop-listener.invariant c.flush_one.ensures

pub returns : goal.returns
returns g c =
    let before = c.args.report.now.listeners in
    let after = c.loop-listener.listener-items in
    let many : length after ≡ before.len = length_changed (IsFlushed g.W.Write.contents) c.loop-listener.listener-index before.items after c.loop-listener.invariant ∙ sym before.ok.0 in
    record {
      end = refl;
      sources = refl;
      listeners = subst (AllZip (IsFlushed g.W.Write.contents) before.items) (sym (with_items_is before after many))
          (changed_all (IsFlushed g.W.Write.contents) c.loop-listener.listener-index before.items after
          (omega (arith, c.loop-listener-test.false, c.deref_mut-listener-items.ensures.len)) c.loop-listener.invariant);
    }
