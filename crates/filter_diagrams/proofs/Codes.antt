-- Codes of instructions, and their actions.
use Rattle.std.proofs.Common.{◌≡◌, ℕ, sym, subst}
use Rattle.bpfvm.specs.Codes.{operation_of}
use Rattle.filter_diagrams.specs.declared.actions.Action.{Action}
use Rattle.filter_diagrams.specs.Actions.{IsAction}

-- an action of a code that is known
pub of-code : (code n : ℕ) (a : Action) → code ≡ n → IsAction (operation_of n) a → IsAction (operation_of code) a
of-code code n a is h = subst (λ m. IsAction (operation_of m) a) (sym is) h
