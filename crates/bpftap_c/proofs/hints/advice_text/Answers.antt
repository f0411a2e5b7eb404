use Rattle.std.specs.String.{string_bytes}
use Rattle.bpftap_c.proofs.Hinting.{settled-if}
use Rattle.bpftap_c.proofs.hints.advice_text.Goals as goal

pub returns-in-Ok-Some : goal.returns-in-Ok-Some
returns-in-Ok-Some c =
    settled-if string_bytes c.args.code c.in-Ok-Some.advice c.hint_of.result (rw c.in-Ok-Some.field-0-is at c.in-Ok-Some.ensures) c.hint_of.ensures
