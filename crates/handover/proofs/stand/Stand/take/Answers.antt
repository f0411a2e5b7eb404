use Rattle.std.proofs.Common.{refl, ap, ◌∙◌, arith}
use Rattle.listener.specs.Messages.{arrival, size_of}
use Rattle.listener.proofs.ArriveSteps.{size_cut, over_by}
use Rattle.handover.proofs.Paths.{capacity_is}
use Rattle.handover.proofs.stand.Stand.take.Goals as goal

pub rotate-requires : goal.rotate-requires
rotate-requires g c =
    let o = c.requires.0 in
    let size = size_cut (arrival c.args.packet.now.capture c.args.packet.now.place c.args.packet.now.packet.now) c.args.packet.now.kept o.captured in
    let same = ap size_of o.message in
    let cap = capacity_is _ _ o.stand.feeder in
    let over = over_by _ _ _ c.if-not-fits.true c.fits.ensures.1 in
    (o, omega (arith, size, same, cap, over))

pub keep-requires : goal.keep-requires
keep-requires g c =
    let o = c.requires.0 in
    let size = size_cut (arrival c.args.packet.now.capture c.args.packet.now.place c.args.packet.now.packet.now) c.args.packet.now.kept o.captured in
    let same = ap size_of o.message in
    let cap = capacity_is _ _ o.stand.feeder in
    let fits = c.if-not-fits.ensures.0 refl in
    (o, (omega (arith, size, same, cap, fits), c.requires.1 ∙ c.in-Buffered.is))

pub hand_over-requires : goal.hand_over-requires
hand_over-requires g c =
    let o = c.requires.0 in
    let size = size_cut (arrival c.args.packet.now.capture c.args.packet.now.place c.args.packet.now.packet.now) c.args.packet.now.kept o.captured in
    let same = ap size_of o.message in
    let cap = capacity_is _ _ o.stand.feeder in
    let fits = c.if-not-fits.ensures.0 refl in
    (o, (omega (arith, size, same, cap, fits), c.requires.1 ∙ c.in-Immediate.is))
