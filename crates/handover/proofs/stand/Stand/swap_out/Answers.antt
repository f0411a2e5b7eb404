use Rattle.std.proofs.Common.{[], ◌∷◌, sym, ap, ◌∙◌}
use Rattle.atomic_table.specs.Table.{rest}
use Rattle.listener.specs.Buffers.{filled}
use Rattle.handover.proofs.stand.Stand.swap_out.Goals as goal

pub slot_mut-requires : goal.slot_mut-requires
slot_mut-requires c =
    let b = filled c.args.self.now.seat.me.0.view.profile.capacity [] in
    (c.requires.pair ∙ sym c.link.view_is, (b, c.requires.slot ∙ ap (λ l. (0, b) ∷ rest l) (sym c.requires.slot)))
