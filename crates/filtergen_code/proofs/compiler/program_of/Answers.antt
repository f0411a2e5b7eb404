use Rattle.std.proofs.Common.{◌∙◌, length, ap, arith}
use Rattle.std.proofs.lemmas.Result.{IfOk-weaker}
use Rattle.filter_tree.specs.Trees.{tree_of}
use Rattle.filtergen_code.proofs.Verdicts.{stands}
use Rattle.filtergen_code.proofs.compiler.program_of.Goals as goal

pub returns-clause-program : goal.returns-clause-program
returns-clause-program c =
    let t = tree_of c.args.expr.now in
    let whole = rw (c.at-yes.ensures, c.at-no.ensures) at c.in_ok-emitted.ensures.0 in
    let stands' = stands t c.args.snap _ c.emit_relay.result c.in_ok-emitted.emitted.entry c.new-code.result c.emit_expr.new.self c.emit_relay.new.self c.new-code.ensures whole c.emit_relay.ensures in
    IfOk-weaker c.into_program.result _ _ (λ program same p bytes. same p.captured p.wire ∙ stands' p bytes) c.into_program.ensures.same

pub returns-clause-full : goal.returns-clause-full
returns-clause-full c = λ err.
    let whole = c.in_ok-emitted.ensures.0 in
    omega (arith, c.into_program.ensures.full err, ap length c.new-code.ensures, whole.extends.within, c.emit_relay.ensures.extends.within)
