use Rattle.filter_words.proofs.word.Words.is_greater.Goals as goal

pub returns-clause-says : goal.returns-clause-says
returns-clause-says c = c.order.ensures.says
