use Rattle.filter_same.specs.Same.{IsCaptured}
use Rattle.filter_same.specs.Findings.{AcceptsAlike, AreNotApart}
use Rattle.filter_diagrams.proofs.Builders.{extends_more}
use Rattle.filter_same.proofs.Ends.{unless-grown, unless-kept, unless-always}
use Rattle.filter_same.proofs.find.find_captured.Goals as goal

pub returns-then-is_always : goal.returns-then-is_always
returns-then-is_always c = λ t u alike apart.
    let s = c.args.builder.now.symbols in
    let g = c.cut.new.builder.symbols in
    unless-always s g c.in_ok-short.short (λ p. IsCaptured p → AcceptsAlike t u p) c.cut.ensures.extends (c.is_always.ensures c.if-is_always.true)
    (unless-kept s g c.args.agree c.in_ok-short.short (AcceptsAlike t u) IsCaptured c.cut.ensures.extends c.in_ok-short.ensures.keeps alike)

pub returns-then-is_always-2 : goal.returns-then-is_always-2
returns-then-is_always-2 c = λ t u alike apart.
    let s = c.args.builder.now.symbols in
    let g = c.cut.new.builder.symbols in
    let h = c.cut-2.new.builder.symbols in
    unless-always s h c.in_ok-apart.apart (λ p. IsCaptured p → AreNotApart t u p) (extends_more s g h c.cut.ensures.extends c.cut-2.ensures.extends) (c.is_always-2.ensures c.if-is_always-2.true)
    (unless-kept g h c.args.clash c.in_ok-apart.apart (AreNotApart t u) IsCaptured c.cut-2.ensures.extends c.in_ok-apart.ensures.keeps
    (unless-grown s g c.args.clash (AreNotApart t u) c.cut.ensures.extends c.requires.clash apart))
