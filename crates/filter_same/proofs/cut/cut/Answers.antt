use Rattle.std.proofs.Common.{refl}
use Rattle.filter_same.specs.Same.{IsCaptured}
use Rattle.filter_diagrams.proofs.Builders.{extends_more, extends_same}
use Rattle.filter_same.proofs.Ends.{keeps_same, keeps-more}
use Rattle.filter_same.proofs.cut.cut.Goals as goal

pub loop-leaf-init : goal.loop-leaf-init
loop-leaf-init c =
    let s = c.args.builder.now.symbols in
    record { extends = extends_same s s refl; keeps = keeps_same IsCaptured s.words.diagrams c.args.place c.requires }

pub loop-leaf-preserved : goal.loop-leaf-preserved
loop-leaf-preserved c =
    let s = c.args.builder.now.symbols in
    let l = c.loop-leaf.builder.symbols in
    let n = c.cut_as.new.builder.symbols in
    let holds = c.loop-leaf.invariant in
    record {
      extends = extends_more s l n holds.extends c.cut_as.ensures.extends;
      keeps = keeps-more IsCaptured s.words.diagrams l.words.diagrams n.words.diagrams c.args.place c.loop-leaf.cut c.in_ok-cut.cut holds.keeps c.in_ok-cut.ensures.keeps;
    }
