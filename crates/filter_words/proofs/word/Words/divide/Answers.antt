use Rattle.filter_words.proofs.Divisions.{divide-calculates}
use Rattle.filter_words.proofs.word.Words.divide.Goals as goal

pub returns-clause-calculates : goal.returns-clause-calculates
returns-clause-calculates c =
    divide-calculates c.args.self.now.diagrams c.divide_all.new.self.diagrams c.args.first c.args.second c.in_ok-division.division c.in_ok-division.ensures.divided
