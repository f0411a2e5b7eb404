use Rattle.std.proofs.Common.{◌≡◌, ◌++◌, drop, string_bytes}
use Rattle.line_text.specs.Texts.{numbered}
use Rattle.cli_cut.specs.Objects.{element_json}
use Rattle.cli_cut.proofs.object.put_insns.Given as goal

-- what was appended and what is left are the whole
abbrev pub invariant-loop-place : goal.invariant-loop-place
invariant-loop-place l =
    string_bytes l.text ++ numbered element_json l.place (drop l.place l.insns) ≡ string_bytes l.fn.text ++ numbered element_json 0 l.fn.insns
