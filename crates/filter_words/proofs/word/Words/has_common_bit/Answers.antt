use Rattle.std.specs.Prelude.{◌==◌}
use Rattle.filter_bdd.proofs.Calls.{map-ok}
use Rattle.filter_words.specs.Words.{value}
use Rattle.filter_words.proofs.Nodes.{word_grown, is-bit}
use Rattle.filter_words.proofs.Values.{common-says}
use Rattle.filter_words.proofs.word.Words.has_common_bit.Goals as goal

pub is_equal-requires-clause-first : goal.is_equal-requires-clause-first
is_equal-requires-clause-first c = word_grown c.and.new.self.diagrams c.constant.new.self.diagrams c.in_ok-both.both c.constant.ensures.grew c.in_ok-both.ensures.calculates.inside

pub is_equal-requires-clause-second : goal.is_equal-requires-clause-second
is_equal-requires-clause-second c = c.in_ok-zero.ensures.value.inside

pub opposite-requires : goal.opposite-requires
opposite-requires c =
    let b = c.constant.new.self.diagrams in
    is-bit c.is_equal.new.self.diagrams (λ v. value b v c.in_ok-both.both == value b v c.in_ok-zero.zero) c.in_ok-none.none c.in_ok-none.ensures.says

pub returns-clause-says : goal.returns-clause-says
returns-clause-says c =
    map-ok c.opposite.result
    (λ i h. common-says c.args.self.now.diagrams c.and.new.self.diagrams c.constant.new.self.diagrams c.is_equal.new.self.diagrams c.opposite.new.self.diagrams
    c.args.first c.args.second c.in_ok-both.both c.in_ok-zero.zero c.in_ok-none.none i
    c.constant.ensures.grew c.in_ok-both.ensures.calculates c.in_ok-zero.ensures.value c.in_ok-none.ensures.says h)
    c.opposite.ensures.says
