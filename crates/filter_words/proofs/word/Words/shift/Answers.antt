use Rattle.std.specs.Prelude.{nat_lt}
use Rattle.filter_bdd.proofs.Calls.{map-ok}
use Rattle.filter_words.specs.Words.{value}
use Rattle.filter_words.proofs.Nodes.{grew_more, is-bit, word_grown}
use Rattle.filter_words.proofs.Values.{far-value}
use Rattle.filter_words.proofs.word.Words.shift.Goals as goal

pub is_greater-requires-clause-first : goal.is_greater-requires-clause-first
is_greater-requires-clause-first c =
    let s = c.args.self.now.diagrams in
    let a = c.shift_low.new.self.diagrams in
    let b = c.constant.new.self.diagrams in
    let d = c.constant-2.new.self.diagrams in
    word_grown s d c.args.by (grew_more s b d (grew_more s a b c.shift_low.ensures.grew c.constant.ensures.grew) c.constant-2.ensures.grew) c.requires.by

pub is_greater-requires-clause-second : goal.is_greater-requires-clause-second
is_greater-requires-clause-second c =
    word_grown c.constant.new.self.diagrams c.constant-2.new.self.diagrams c.in_ok-most.most c.constant-2.ensures.grew c.in_ok-most.ensures.value.inside

pub select-requires-clause-test : goal.select-requires-clause-test
select-requires-clause-test c =
    let d = c.constant-2.new.self.diagrams in
    is-bit c.is_greater.new.self.diagrams (λ v. nat_lt (value d v c.in_ok-most.most) (value d v c.args.by)) c.in_ok-far.far c.in_ok-far.ensures.says

pub select-requires-clause-yes : goal.select-requires-clause-yes
select-requires-clause-yes c =
    word_grown c.constant-2.new.self.diagrams c.is_greater.new.self.diagrams c.in_ok-zero.zero c.is_greater.ensures.grew c.in_ok-zero.ensures.value.inside

pub select-requires-clause-no : goal.select-requires-clause-no
select-requires-clause-no c =
    let a = c.shift_low.new.self.diagrams in
    let b = c.constant.new.self.diagrams in
    let d = c.constant-2.new.self.diagrams in
    let e = c.is_greater.new.self.diagrams in
    word_grown a e c.in_ok-low.low (grew_more a d e (grew_more a b d c.constant.ensures.grew c.constant-2.ensures.grew) c.is_greater.ensures.grew) c.in_ok-low.ensures.value.inside

pub returns-clause-value : goal.returns-clause-value
returns-clause-value c =
    map-ok c.select.result
    (λ w h. far-value c.args.self.now.diagrams c.shift_low.new.self.diagrams c.constant.new.self.diagrams c.constant-2.new.self.diagrams
    c.is_greater.new.self.diagrams c.select.new.self.diagrams c.args.shift c.args.word c.args.by c.in_ok-low.low c.in_ok-most.most c.in_ok-zero.zero w c.in_ok-far.far
    c.shift_low.ensures.grew c.constant.ensures.grew c.constant-2.ensures.grew c.is_greater.ensures.grew c.requires.by
    c.in_ok-low.ensures.value c.in_ok-most.ensures.value c.in_ok-zero.ensures.value c.in_ok-far.ensures.says h)
    c.select.ensures.value
