use Rattle.std.proofs.Common.{◌<◌, refl, arith}
use Rattle.std.specs.Prelude.{None, slice_index_or}
use Rattle.filter_diagrams.proofs.States.{cell-found}
use Rattle.filter_diagrams.proofs.state.State.cell.Goals as goal

pub returns : goal.returns
returns c =
    let s = c.args.self.now in
    let place = c.args.place in
    let inside : place < 16 = omega arith in
    cell-found s place (slice_index_or s.memory place None) inside refl
