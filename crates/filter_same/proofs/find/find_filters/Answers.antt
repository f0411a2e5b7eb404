use Rattle.std.proofs.Common.{sym, subst}
use Rattle.filter_same.specs.Filters.{filter_test}
use Rattle.filter_symbols.specs.Packets.{HasHeader}
use Rattle.filter_diagrams.proofs.Builders.{extends_more, means-grown}
use Rattle.filter_same.proofs.find.find_filters.Goals as goal

pub returns : goal.returns
returns c = λ p ok head.
    let g0 = c.args.builder.now.symbols in
    let g1 = c.node.new.builder.symbols in
    let g2 = c.node-2.new.builder.symbols in
    let t = filter_test c.args.first in
    let u = filter_test c.args.second in
    c.in_ok-found.ensures t u (means-grown g1 g2 t c.in_ok-left.left c.node-2.ensures.extends c.in_ok-left.ensures.means) c.in_ok-right.ensures.means
    p ok
    (subst (λ n. HasHeader n p) (sym (extends_more g0 g1 g2 c.node.ensures.extends c.node-2.ensures.extends).header) head)
