use Rattle.std.proofs.Common.{arith, get_or}
use Rattle.std.specs.Prelude.{nat_le}
use Rattle.filter_bdd.specs.declared.answer.Operation.TheVariants.{Or}
use Rattle.filter_words.specs.declared.quotient.Division.{Division}
use Rattle.filter_words.specs.Words.{bit, value}
use Rattle.filter_words.specs.Steps.{joined_bit}
use Rattle.filter_words.proofs.Nodes.{grew_more, is-bit, is_bit_grown, word_grown}
use Rattle.filter_words.proofs.Divisions.{bit-divided}
use Rattle.filter_words.proofs.word.Words.divide_bit.Goals as goal

pub is_at_least-requires-clause-first : goal.is_at_least-requires-clause-first
is_at_least-requires-clause-first c = (c.push-doubled.ensures c.args.self.now.diagrams c.requires.rest c.requires.next).inside

pub join-requires-clause-first : goal.join-requires-clause-first
join-requires-clause-first c =
    is_bit_grown c.args.self.now.diagrams c.is_at_least.new.self.diagrams (get_or c.args.division.rest.bits 31 0) c.is_at_least.ensures.grew (c.requires.rest 31 (omega arith))

pub join-requires-clause-second : goal.join-requires-clause-second
join-requires-clause-second c =
    let s = c.args.self.now.diagrams in
    is-bit c.is_at_least.new.self.diagrams (λ v. nat_le (value s v c.args.divisor) (value s v c.push-doubled.result)) c.in_ok-fits.fits c.in_ok-fits.ensures.says

pub subtract-requires-clause-first : goal.subtract-requires-clause-first
subtract-requires-clause-first c =
    let s = c.args.self.now.diagrams in
    let a = c.is_at_least.new.self.diagrams in
    let b = c.join.new.self.diagrams in
    word_grown s b c.push-doubled.result (grew_more s a b c.is_at_least.ensures.grew c.join.ensures.grew)
    (c.push-doubled.ensures s c.requires.rest c.requires.next).inside

pub subtract-requires-clause-second : goal.subtract-requires-clause-second
subtract-requires-clause-second c =
    let s = c.args.self.now.diagrams in
    let a = c.is_at_least.new.self.diagrams in
    let b = c.join.new.self.diagrams in
    word_grown s b c.args.divisor (grew_more s a b c.is_at_least.ensures.grew c.join.ensures.grew) c.requires.divisor

pub select-requires-clause-test : goal.select-requires-clause-test
select-requires-clause-test c =
    let a = c.is_at_least.new.self.diagrams in
    let b = c.join.new.self.diagrams in
    is_bit_grown b c.subtract.new.self.diagrams c.in_ok-goes.goes c.subtract.ensures.grew
    (is-bit b (λ v. joined_bit Or (bit a v (get_or c.args.division.rest.bits 31 0)) (bit a v c.in_ok-fits.fits)) c.in_ok-goes.goes c.in_ok-goes.ensures.says)

pub select-requires-clause-yes : goal.select-requires-clause-yes
select-requires-clause-yes c = c.in_ok-less.ensures.calculates.inside

pub select-requires-clause-no : goal.select-requires-clause-no
select-requires-clause-no c =
    let s = c.args.self.now.diagrams in
    let a = c.is_at_least.new.self.diagrams in
    let b = c.join.new.self.diagrams in
    let e = c.subtract.new.self.diagrams in
    word_grown s e c.push-doubled.result (grew_more s b e (grew_more s a b c.is_at_least.ensures.grew c.join.ensures.grew) c.subtract.ensures.grew)
    (c.push-doubled.ensures s c.requires.rest c.requires.next).inside

pub returns-clause-divided : goal.returns-clause-divided
returns-clause-divided c =
    let s = c.args.self.now.diagrams in
    let a = c.is_at_least.new.self.diagrams in
    let b = c.join.new.self.diagrams in
    let e = c.subtract.new.self.diagrams in
    let d = c.select.new.self.diagrams in
    let ab = c.join.ensures.grew in
    let sa = c.is_at_least.ensures.grew in
    let be = c.subtract.ensures.grew in
    let ed = c.select.ensures.grew in
    let sb = grew_more s a b sa ab in
    let sd = grew_more s e d (grew_more s b e sb be) ed in
    let bd = grew_more b e d be ed in
    let goes = c.in_ok-goes.goes in
    let result : Division = record { quotient = c.push-quotient.result; rest = c.in_ok-rest.rest } in
    bit-divided s a b e d c.args.division result c.args.next c.args.divisor c.push-doubled.result c.in_ok-less.less c.in_ok-fits.fits goes
    sa ab be ed c.requires.quotient c.requires.rest c.requires.divisor
    (c.push-doubled.ensures s c.requires.rest c.requires.next) c.in_ok-fits.ensures.says c.in_ok-goes.ensures.says c.in_ok-less.ensures.calculates c.in_ok-rest.ensures.value
    (c.push-quotient.ensures d (word_grown s d c.args.division.quotient sd c.requires.quotient)
    (is_bit_grown b d goes bd (is-bit b (λ v. joined_bit Or (bit a v (get_or c.args.division.rest.bits 31 0)) (bit a v c.in_ok-fits.fits)) goes c.in_ok-goes.ensures.says)))
