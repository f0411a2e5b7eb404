use Rattle.filter_bdd.proofs.Calls.{map-ok}
use Rattle.filter_words.proofs.Nodes.{grew_more, is_bit_grown, word_grown}
use Rattle.filter_words.proofs.Values.{skip-value, part-value}
use Rattle.filter_words.proofs.word.Words.add_part.Goals as goal

pub returns-then-is-clause-value : goal.returns-then-is-clause-value
returns-then-is-clause-value c =
    skip-value c.args.self.now.diagrams c.args.sum c.args.word c.args.count c.args.test c.requires.sum (c.is.ensures c.if-is.true)

pub select-requires-clause-test : goal.select-requires-clause-test
select-requires-clause-test c =
    let s = c.args.self.now.diagrams in
    let a = c.shift_by.new.self.diagrams in
    let b = c.constant.new.self.diagrams in
    is_bit_grown s b c.args.test (grew_more s a b c.shift_by.ensures.grew c.constant.ensures.grew) c.requires.test

pub select-requires-clause-yes : goal.select-requires-clause-yes
select-requires-clause-yes c =
    word_grown c.shift_by.new.self.diagrams c.constant.new.self.diagrams c.in_ok-moved.moved c.constant.ensures.grew c.in_ok-moved.ensures.value.inside

pub select-requires-clause-no : goal.select-requires-clause-no
select-requires-clause-no c = c.in_ok-zero.ensures.value.inside

pub add-requires-clause-first : goal.add-requires-clause-first
add-requires-clause-first c =
    let s = c.args.self.now.diagrams in
    let a = c.shift_by.new.self.diagrams in
    let b = c.constant.new.self.diagrams in
    let d = c.select.new.self.diagrams in
    word_grown s d c.args.sum (grew_more s b d (grew_more s a b c.shift_by.ensures.grew c.constant.ensures.grew) c.select.ensures.grew) c.requires.sum

pub add-requires-clause-second : goal.add-requires-clause-second
add-requires-clause-second c = c.in_ok-part.ensures.value.inside

pub returns-clause-value : goal.returns-clause-value
returns-clause-value c =
    map-ok c.add.result
    (λ w h. part-value c.args.self.now.diagrams c.shift_by.new.self.diagrams c.constant.new.self.diagrams c.select.new.self.diagrams c.add.new.self.diagrams
    c.args.sum c.args.word c.in_ok-moved.moved c.in_ok-zero.zero c.in_ok-part.part w c.args.count c.args.test
    c.shift_by.ensures.grew c.constant.ensures.grew c.select.ensures.grew c.requires.sum c.requires.test
    c.in_ok-moved.ensures.value c.in_ok-zero.ensures.value c.in_ok-part.ensures.value h)
    c.add.ensures.calculates
