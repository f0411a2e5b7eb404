use Rattle.filter_words.proofs.Divisions.{remainder-calculates}
use Rattle.filter_words.proofs.word.Words.remainder.Goals as goal

pub returns-clause-calculates : goal.returns-clause-calculates
returns-clause-calculates c =
    remainder-calculates c.args.self.now.diagrams c.divide_all.new.self.diagrams c.args.first c.args.second c.in_ok-division.division c.in_ok-division.ensures.divided
