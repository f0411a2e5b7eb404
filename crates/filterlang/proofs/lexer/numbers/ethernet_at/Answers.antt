use Rattle.std.proofs.Common.{ap, ◌∙◌, arith}
use Rattle.std.specs.Prelude.{option_map}
use Rattle.filterlang.proofs.Runs.{ethernet_at-long, ethernet_at-short}
use Rattle.filterlang.proofs.lexer.numbers.ethernet_at.Goals as goal

-- a run of more than 17 bytes
pub returns-then-length-gt-MAX_ETHERNET-clause-value : goal.returns-then-length-gt-MAX_ETHERNET-clause-value
returns-then-length-gt-MAX_ETHERNET-clause-value c = ethernet_at-long c.args.text.now c.min.result c.run_length-length.result c.min.ensures c.run_length-length.ensures.value (omega arith)

pub returns-in_err-address-clause-value : goal.returns-in_err-address-clause-value
returns-in_err-address-clause-value c =
    c.from_residual.ensures
    ∙ ap (option_map (λ kind. (kind, c.run_length-length.result))) c.in_err-address.ensures
    ∙ ethernet_at-short c.args.text.now c.min.result c.run_length-length.result c.min.ensures c.run_length-length.ensures.value (omega arith)

pub returns-clause-value : goal.returns-clause-value
returns-clause-value c =
    ap (option_map (λ kind. (kind, c.run_length-length.result))) c.in_ok-address.ensures
    ∙ ethernet_at-short c.args.text.now c.min.result c.run_length-length.result c.min.ensures c.run_length-length.ensures.value (omega arith)
