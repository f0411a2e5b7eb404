-- Why an expression answers as it does.
use Rattle.std.specs.Prelude.{◌≡◌, ℕ, List, Result, Ok, Err}
use Rattle.filter_tree.specs.Trees.{Tree}
use Rattle.filter_explain.specs.Deciding.{decision_text}
use Rattle.filter_meaning.specs.Meaning.{meaning, packet_of}
use Rattle.filter_meaning.specs.declared.verdict.Verdict.{Verdict}
use Rattle.filter_meaning.specs.declared.verdict.Verdict.TheVariants.{Yes, No, Abort}
use Rattle.bpftap_c.specs.declared.outcome.BpftapResult.{BpftapResult}
use Rattle.bpftap_c.specs.declared.outcome.Failure.{Failure}
use Rattle.bpftap_c.specs.declared.reasons.BpftapReason.{BpftapReason}
use Rattle.bpftap_c.specs.Texts.{IsRead, IsUnread}

abbrev pub verdict_code : Verdict → ℕ
verdict_code No = 0
verdict_code Yes = 1
verdict_code Abort = 2

-- The expression answers this to the packet, and the text says so and what decides. Or there is no answer, which is 0 then.
abbrev pub Decides : List ℕ → List ℕ → ℕ → ℕ → Result (List ℕ) Failure → Type 0
Decides text packet wire verdict (Ok line) =
    (tree : Tree) × IsRead text tree × (verdict ≡ verdict_code (meaning tree (packet_of packet wire)))
    × (line ≡ decision_text tree (packet_of packet wire))
Decides text packet wire verdict (Err failure) = (verdict ≡ 0) × IsUnread text failure

-- a result with the verdict beside it
abbrev pub IsReason : BpftapResult → ℕ → BpftapReason → Type 0
IsReason told verdict reason =
    (reason.fault ≡ told.fault) × (reason.verdict ≡ verdict) × (reason.size ≡ told.size) × (reason.place ≡ told.place)
