use Rattle.std.proofs.Common.{arith}
use Rattle.std.proofs.lemmas.Result.{MatchResult-weaker}
use Rattle.filtergen_code.proofs.Deciding.{decides-both, yes-exits}
use Rattle.filtergen_code.proofs.code.Code.emit_relation.Goals as goal

pub returns : goal.returns
returns c =
    let compared = c.in_ok-yes.ensures in
    let are = yes-exits c.requires.exits compared in
    let right = rw c.after_layers.ensures at c.in_ok-next.ensures in
    MatchResult-weaker c.emit_layers-2.result c.emit_layers-2.ensures
    (λ entry done. decides-both c.requires.exits compared (decides-both are right done))
    (λ e full. omega (arith, full, right.extends.within, compared.extends.within))
