use Rattle.std.proofs.Common.{◌≡◌, ℕ, ◌<◌, ◌≤◌, eqb, false, arith, rules, sym, ◌∙◌}
use Rattle.std.proofs.lemmas.Bool.Decides.{nat_tests}
use Rattle.bpfvm.proofs.Reading.{take-room, take-full}
use Rattle.bpfvm.proofs.listing.keep.Goals as goal

not-full : (n m : ℕ) → n ≤ m → eqb n m ≡ false → n < m
not-full n m most other = grind (arith, nat_tests)

pub returns-then-not-is_full : goal.returns-then-not-is_full
returns-then-not-is_full c = λ insns first. take-room 512 c.args.kept.now.items _ insns c.args.insn (not-full _ 512 c.is_full.ensures.fits (sym c.is_full.ensures.value ∙ c.if-not-is_full.true)) c.push.ensures.items first

pub returns-else-not-is_full : goal.returns-else-not-is_full
returns-else-not-is_full c = λ insns first. take-full 512 c.args.kept.now.items insns c.args.insn (search rules) first
