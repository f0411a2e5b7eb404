use Rattle.std.specs.Prelude.{Some, None}
use Rattle.std.proofs.lemmas.List.{get_or-replicate}
use Rattle.filter_diagrams.proofs.state.State.of.Goals as goal

pub returns-clause-memory : goal.returns-clause-memory
returns-clause-memory c = λ k less. get_or-replicate 16 k (Some c.args.word) None less
