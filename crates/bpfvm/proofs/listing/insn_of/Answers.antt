use Rattle.bpfvm.proofs.Fields.{early, NoLine-first, NoLine-second, NoLine-third, read-some, read-none}
use Rattle.bpfvm.proofs.listing.insn_of.Goals as goal

pub returns-in_err-code-clause-none : goal.returns-in_err-code-clause-none
returns-in_err-code-clause-none c = early _ c.args.line.now (NoLine-first c.args.line.now c.in_err-code.ensures.none)

pub returns-in_err-jt-clause-none : goal.returns-in_err-jt-clause-none
returns-in_err-jt-clause-none c = early _ c.args.line.now (NoLine-second c.args.line.now c.in_ok-code.code.now c.in_ok-code.rest.now c.in_ok-code.ensures.parts c.in_ok-code.ensures.first c.in_err-jt.ensures.none)

pub returns-in_err-jf-clause-none : goal.returns-in_err-jf-clause-none
returns-in_err-jf-clause-none c = early _ c.args.line.now (NoLine-third c.args.line.now c.in_ok-code.code.now c.in_ok-code.rest.now c.in_ok-code.ensures.parts c.in_ok-code.ensures.first c.in_ok-jt.jt.now c.in_ok-jt.rest.now c.in_ok-jt.ensures.parts c.in_ok-jt.ensures.first c.in_err-jf.ensures.none)

pub returns-clause-some : goal.returns-clause-some
returns-clause-some c = read-some c.args.line.now c.in_ok-code.code.now c.in_ok-code.rest.now c.in_ok-code.ensures.parts c.in_ok-code.ensures.first
    c.in_ok-jt.jt.now c.in_ok-jt.rest.now c.in_ok-jt.ensures.parts c.in_ok-jt.ensures.first
    c.in_ok-jf.jf.now c.in_ok-jf.k.now c.in_ok-jf.ensures.parts c.in_ok-jf.ensures.first _ c.insn_from.ensures.some

pub returns-clause-none : goal.returns-clause-none
returns-clause-none c = read-none c.args.line.now c.in_ok-code.code.now c.in_ok-code.rest.now c.in_ok-code.ensures.parts c.in_ok-code.ensures.first
    c.in_ok-jt.jt.now c.in_ok-jt.rest.now c.in_ok-jt.ensures.parts c.in_ok-jt.ensures.first
    c.in_ok-jf.jf.now c.in_ok-jf.k.now c.in_ok-jf.ensures.parts c.in_ok-jf.ensures.first _ c.insn_from.ensures.none
