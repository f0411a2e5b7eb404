use Rattle.std.proofs.Common.{◌<◌, ◌∙◌, length, length-set, arith}
use Rattle.filter_diagrams.proofs.States.{kept-more}
use Rattle.filter_diagrams.proofs.state.State.live.Goals as goal

pub loop-place-preserved : goal.loop-place-preserved
loop-place-preserved c =
    let memory = c.loop-place.memory in
    let place = c.loop-place.place in
    let holds = c.loop-place.invariant in
    let word = c.read_again.result in
    let within : place < length memory = omega (arith, holds.long) in
    record {
      long = length-set memory place word ∙ holds.long;
      kept = λ k less. kept-more c.args.self.now.memory memory place k word within c.read_again.ensures (holds.kept k less);
    }

pub returns : goal.returns
returns c = record { accumulator = c.read_again-2.ensures; index = c.read_again-3.ensures; memory = c.loop-place.invariant.kept }
