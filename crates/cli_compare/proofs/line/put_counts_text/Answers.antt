use Rattle.std.proofs.Common.{ℕ, List, ◌++◌, ◌∙◌, ap}
use Rattle.std.specs.Prelude.{codes}
use Rattle.std.specs.Fmt.{decimal}
use Rattle.line_text.specs.Texts.{end_of_line}
use Rattle.cli_compare.proofs.line.put_counts_text.Goals as goal

pub returns : goal.returns
returns c =
    c.in_ok-push_str.ensures.bytes ∙ ap (λ (t : List ℕ). t ++ end_of_line) (c.in_ok-write-4.ensures.bytes
    ∙ ap (λ (t : List ℕ). t ++ (decimal c.args.second ++ codes " by the second")) (c.in_ok-write-3.ensures.bytes
    ∙ ap (λ (t : List ℕ). t ++ (decimal c.args.first ++ codes " accepted by the first alone, ")) (c.in_ok-write-2.ensures.bytes
    ∙ ap (λ (t : List ℕ). t ++ (decimal c.args.differ ++ codes " differ, ")) (c.in_ok-write.ensures.bytes
    ∙ ap (λ (t : List ℕ). t ++ (decimal c.args.packets ++ codes " packets: ")) c.clear.ensures.bytes))))
