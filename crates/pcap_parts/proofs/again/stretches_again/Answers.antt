use Rattle.std.proofs.Common.{refl, rules}
use Rattle.std.proofs.lemmas.List.Elements.{Contains-get_or}
use Rattle.pcap_parts.proofs.Stretches.{again_later, again_more}
use Rattle.pcap_parts.proofs.again.stretches_again.Goals as goal
use Rattle.pcap_parts.proofs.again.stretches_again.Goals.{then-part-next+then-is_cut_off+in_ok-push-2, then-part-next+else-is_cut_off, else-part-next}

pub loop-index-preserved : goal.loop-index-preserved
loop-index-preserved c =
    let parts = c.args.parts.now in
    let cut_off = c.args.cut_off in
    let size = c.args.size in
    let before = c.loop-index.again.items in
    let so_far = c.loop-index.invariant in
    elim c.if-part-next.branch [
      | then-part-next+then-is_cut_off+in_ok-push-2 w ↦
          let one = Contains-get_or parts c.loop-index.index _ c.loop-index-test.true in
          let is = w.is_cut_off.ensures (search rules) in
          rw (w.again-is, w.next-is, w.in_ok-push-2.ensures.items)
          (again_more parts cut_off _ size before c.loop-index.next _ so_far one is (search rules) refl (w.longer_end-next-then-is_cut_off.ensures.longer is.1)
          w.longer_end-next-then-is_cut_off.ensures.bound)
      | then-part-next+else-is_cut_off w ↦
          rw (w.again-is, w.next-is) (again_later parts cut_off size before c.loop-index.next _ so_far (search rules))
      | else-part-next w ↦ rw (w.again-is, w.next-is) so_far
    ]
