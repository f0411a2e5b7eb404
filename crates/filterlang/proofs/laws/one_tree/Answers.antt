use Rattle.std.proofs.Common.{sym, ◌∙◌}
use Rattle.std.proofs.lemmas.Option.{same_Some}
use Rattle.filterlang.proofs.Complete.{text_complete}
use Rattle.filterlang.proofs.laws.one_tree.Goals as goal

pub returns : goal.returns
returns c = λ tokens t u r s. same_Some t u (sym (text_complete tokens t r) ∙ text_complete tokens u s)
