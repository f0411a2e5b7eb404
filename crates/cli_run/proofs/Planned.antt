-- The interface of each line is there.
use Rattle.std.proofs.Common.{ℕ, ◌<◌, List, [], ◌∷◌, All, take}
use Rattle.std.proofs.lemmas.List.Elements.{All-nil, All-cons, All-take, All-same}
use Rattle.bpfvm.specs.declared.insn.Insn.{Insn}
use Rattle.line_text.specs.Files.{Say}
use Rattle.cli_run.specs.declared.plan.RunLine.{RunLine}
use Rattle.cli_run.specs.Listeners.{IsRunLine, ArePlanned}

said-there : (interfaces : ℕ) (lines : List (List ℕ)) (asked : List RunLine) → Say (IsRunLine interfaces) lines asked → All (λ line. line.interface < interfaces) asked
said-there interfaces [] [] each = All-nil (λ line. line.interface < interfaces)
said-there interfaces [] (a ∷ asked) each = absurd each
said-there interfaces (l ∷ lines) [] each = absurd each
said-there interfaces (l ∷ lines) (a ∷ asked) each = All-cons (λ line. line.interface < interfaces) a asked each.0.there (said-there interfaces lines asked each.1)

pub lines_there : (interfaces : ℕ) (text : List ℕ) (lines : List RunLine) (programs : List (List Insn)) → ArePlanned interfaces text lines programs → All (λ line. line.interface < interfaces) lines
lines_there interfaces text lines programs are =
    All-same (λ line. line.interface < interfaces) lines (take 1025 are.asked) are.first
    (All-take (λ line. line.interface < interfaces) 1025 are.asked (said-there interfaces _ are.asked are.all.0))
