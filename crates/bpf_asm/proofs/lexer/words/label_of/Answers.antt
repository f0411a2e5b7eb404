use Rattle.std.proofs.Common.{◌≡◌, ◌≤◌, ◌++◌, ℕ, Option, Some, List, length, drop, replicate, refl, ap, ◌∙◌, arith, le-leb}
use Rattle.std.proofs.lemmas.List.{drop-replicate}
use Rattle.bpf_asm.specs.declared.token.Label.{Label}
use Rattle.bpf_asm.specs.Words.{label_of}
use Rattle.bpf_asm.proofs.lexer.words.label_of.Goals as goal

-- a label is filled up with zeros
filled : (word zeros : List ℕ) → zeros ≡ replicate 32 0 → length word ≤ 32 → ◌≡◌ {A = Option Label} (Some (record { bytes = word ++ drop (length word) zeros })) (label_of word)
filled word zeros all fits =
    rw (le-leb (length word) 32 fits)
    (ap (λ (z : List ℕ). let l : Label = record { bytes = word ++ z } in Some l) (ap (drop (length word)) all ∙ drop-replicate (length word) 32 0))

pub returns : goal.returns
returns c = rw c.copy_from_slice.ensures.after (filled c.args.word.now _ refl (omega arith))
