use Rattle.filter_bdd.proofs.Calls.{map-ok}
use Rattle.filter_words.proofs.Nodes.{xor-calculates}
use Rattle.filter_words.proofs.word.Words.xor.Goals as goal

pub returns-clause-calculates : goal.returns-clause-calculates
returns-clause-calculates c =
    map-ok c.zip.result (λ w h. xor-calculates c.args.self.now.diagrams c.zip.new.self.diagrams c.args.first c.args.second w h) c.zip.ensures.bits
