use Rattle.std.proofs.Common.{◌+◌, sym, ap, subst, is_ok, inr}
use Rattle.std.proofs.ResultArms.{chosen}
use Rattle.bpf_asm.specs.Assembly.{at_line}
use Rattle.bpf_asm.proofs.Lexing.{LexedTo, lexed_blank, lexed_token, lexed_all, lexed_stuck, rest_is, rest_has}
use Rattle.bpf_asm.proofs.lexer.tokens_of.Goals as goal

pub returns-in-End : goal.returns-in-End
returns-in-End c = ap (at_line c.args.number) (lexed_all c.places.invariant (rest_is c.args.line.now c.places.place _ c.in-End.ensures.value))

pub returns-in-Stuck : goal.returns-in-Stuck
returns-in-Stuck c = inr (ap (at_line c.args.number) (lexed_stuck c.places.invariant c.in-Stuck.cause (rest_is c.args.line.now c.places.place _ c.in-Stuck.ensures.value)))

pub places-preserved-in-Blank : goal.places-preserved-in-Blank
places-preserved-in-Blank c = lexed_blank c.places.invariant c.in-Blank.length (rest_is c.args.line.now c.places.place _ c.in-Blank.ensures.value) c.in-Blank.ensures.within.0 (rest_has c.args.line.now c.places.place c.in-Blank.length c.in-Blank.ensures.within.1)

pub places-preserved : goal.places-preserved
places-preserved c =
    let pushed = chosen _ _ _ _ c.push.ensures.items (ap is_ok c.in_ok-push-in-Token.was) in
    subst (λ tokens. LexedTo c.args.line.now tokens (c.places.place + c.in-Token.length)) (sym pushed)
    (lexed_token c.places.invariant c.in-Token.token c.in-Token.length (rest_is c.args.line.now c.places.place _ c.in-Token.ensures.value) c.in-Token.ensures.within.0 (rest_has c.args.line.now c.places.place c.in-Token.length c.in-Token.ensures.within.1))
