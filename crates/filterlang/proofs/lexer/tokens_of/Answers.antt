use Rattle.std.proofs.Common.{◌+◌, sym, ap, subst, is_ok}
use Rattle.std.proofs.ResultArms.{chosen}
use Rattle.filterlang.proofs.Lexing.{LexedTo, lexed_blank, lexed_token, lexed_all, lexed_stuck, fault_is, rest_is}
use Rattle.filterlang.specs.Tokens.{IsFaultOf}
use Rattle.filterlang.proofs.lexer.tokens_of.Goals as goal

pub returns-in-End-clause-tokens : goal.returns-in-End-clause-tokens
returns-in-End-clause-tokens c = lexed_all c.places.invariant (rest_is c.args.text.now c.places.place _ c.in-End.ensures.value)

pub places-preserved-in-Blank : goal.places-preserved-in-Blank
places-preserved-in-Blank c = lexed_blank c.places.invariant (rest_is c.args.text.now c.places.place _ c.in-Blank.ensures.value)

pub places-preserved : goal.places-preserved
places-preserved c =
    let pushed = chosen _ _ _ _ c.push.ensures.items (ap is_ok c.in_ok-push-in-Token.was) in
    subst (λ tokens. LexedTo c.args.text.now tokens (c.places.place + c.in-Token.length)) (sym pushed) (lexed_token c.places.invariant c.in-Token.kind c.in-Token.length (rest_is c.args.text.now c.places.place _ c.in-Token.ensures.value))

pub returns-in-Stuck-clause-fault : goal.returns-in-Stuck-clause-fault
returns-in-Stuck-clause-fault c = subst (IsFaultOf c.args.text.now) (sym c.fault_at.ensures) (fault_is c.args.text.now c.in-Stuck.cause c.places.place c.requires (lexed_stuck c.places.invariant c.in-Stuck.cause (rest_is c.args.text.now c.places.place _ c.in-Stuck.ensures.value)))
