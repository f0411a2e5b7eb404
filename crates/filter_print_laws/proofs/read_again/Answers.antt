use Rattle.filter_print_laws.proofs.Again.{read_again, read_only}
use Rattle.filter_print_laws.proofs.read_again.Goals as goal

pub returns-clause-again : goal.returns-clause-again
returns-clause-again c = read_again

pub returns-clause-only : goal.returns-clause-only
returns-clause-only c = read_only c.one_list_of_tokens.ensures c.one_tree.ensures
