use Rattle.std.proofs.Common.{sym, subst}
use Rattle.filter_symbols.specs.Packets.{HasHeader}
use Rattle.filter_same.specs.Findings.{AcceptsAlike, AreNotApart}
use Rattle.filter_diagrams.proofs.Builders.{map-ok, extends_more, inside_extended, means-grown}
use Rattle.filter_same.proofs.Ends.{unless-grown, unless-header, unless-always}
use Rattle.filter_same.proofs.find.find_nodes.Goals as goal

pub returns-then-is_always : goal.returns-then-is_always
returns-then-is_always c = λ t u ml mr.
    unless-always c.args.builder.now.symbols c.agreement.new.builder.symbols c.in_ok-all.all (AcceptsAlike t u) c.agreement.ensures.extends (c.is_always.ensures c.if-is_always.true)
    (c.in_ok-all.ensures.says t u ml mr)

pub returns-then-is_always-2 : goal.returns-then-is_always-2
returns-then-is_always-2 c = λ t u ml mr.
    let s = c.args.builder.now.symbols in
    let g = c.agreement.new.builder.symbols in
    let h = c.cut_header.new.builder.symbols in
    unless-always s h c.in_ok-agree.agree (AcceptsAlike t u) (extends_more s g h c.agreement.ensures.extends c.cut_header.ensures.extends) (c.is_always-2.ensures c.if-is_always-2.true)
    (unless-header g h c.in_ok-all.all c.in_ok-agree.agree (AcceptsAlike t u) c.cut_header.ensures.extends c.in_ok-agree.ensures.keeps (c.in_ok-all.ensures.says t u ml mr))

pub returns : goal.returns
returns c =
    let s = c.args.builder.now.symbols in
    let g1 = c.agreement.new.builder.symbols in
    let g2 = c.cut_header.new.builder.symbols in
    let g3 = c.clash.new.builder.symbols in
    let g4 = c.cut_header-2.new.builder.symbols in
    let e02 = extends_more s g1 g2 c.agreement.ensures.extends c.cut_header.ensures.extends in
    let e04 = extends_more s g2 g4 e02 (extends_more g2 g3 g4 c.clash.ensures.extends c.cut_header-2.ensures.extends) in
    let agree = c.in_ok-agree.agree in
    let inside = c.in_ok-agree.ensures.keeps.inside in
    map-ok c.find_captured.result
    (λ found h t u ml mr p ok head.
    h t u
    (unless-grown g3 g4 agree (AcceptsAlike t u) c.cut_header-2.ensures.extends (inside_extended g2 g3 agree c.clash.ensures.extends inside)
    (unless-grown g2 g3 agree (AcceptsAlike t u) c.clash.ensures.extends inside
    (unless-header g1 g2 c.in_ok-all.all agree (AcceptsAlike t u) c.cut_header.ensures.extends c.in_ok-agree.ensures.keeps (c.in_ok-all.ensures.says t u ml mr))))
    (unless-header g3 g4 c.in_ok-apart.apart c.in_ok-clash.clash (AreNotApart t u) c.cut_header-2.ensures.extends c.in_ok-clash.ensures.keeps
    (c.in_ok-apart.ensures.says t u (means-grown s g2 t c.args.left e02 ml) (means-grown s g2 u c.args.right e02 mr)))
    p ok (subst (λ n. HasHeader n p) (sym e04.header) head))
    c.find_captured.ensures
