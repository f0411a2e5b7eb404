use Rattle.std.proofs.Common.{◌≡◌, ◌<◌, ◌*◌, ◌%◌, ◌^◌, refl, sym, get_or, arith, subst}
use Rattle.std.proofs.lemmas.Nat.{one_shl, pow_below}
use Rattle.filter_words.specs.Words.{number, word_bit, value, HasValue}
use Rattle.filter_words.specs.Steps.{shifted}
use Rattle.filter_words.proofs.Nodes.{grew_more, grew_same, is_bit_grown, word_grown, value-below}
use Rattle.filter_words.proofs.Shifts.{shifted-start}
use Rattle.filter_words.proofs.Values.{stage-value}
use Rattle.filter_words.proofs.word.Words.shift_low.Goals as goal

pub loop-stage-init : goal.loop-stage-init
loop-stage-init c =
    let s = c.args.self.now.diagrams in
    let x = c.args.word in
    record {
      grew = grew_same s s refl;
      is = record { inside = c.requires.word; is = λ v. sym (shifted-start c.args.shift (value s v x) (word_bit s v c.args.by) (value-below s x v)) };
    }

pub shift_by-requires-clause-word : goal.shift_by-requires-clause-word
shift_by-requires-clause-word c = c.loop-stage.invariant.is.inside

pub select-requires-clause-test : goal.select-requires-clause-test
select-requires-clause-test c =
    let s = c.args.self.now.diagrams in
    let l = c.loop-stage.self.diagrams in
    let g = c.shift_by.new.self.diagrams in
    is_bit_grown s g (get_or c.args.by.bits c.loop-stage.stage 0) (grew_more s l g c.loop-stage.invariant.grew c.shift_by.ensures.grew) (c.requires.by c.loop-stage.stage (omega arith))

pub select-requires-clause-yes : goal.select-requires-clause-yes
select-requires-clause-yes c = c.in_ok-next.ensures.value.inside

pub select-requires-clause-no : goal.select-requires-clause-no
select-requires-clause-no c =
    word_grown c.loop-stage.self.diagrams c.shift_by.new.self.diagrams c.loop-stage.moved c.shift_by.ensures.grew c.loop-stage.invariant.is.inside

pub loop-stage-preserved : goal.loop-stage-preserved
loop-stage-preserved c =
    let s = c.args.self.now.diagrams in
    let l = c.loop-stage.self.diagrams in
    let g = c.shift_by.new.self.diagrams in
    let h = c.select.new.self.diagrams in
    let i = c.loop-stage.stage in
    let holds = c.loop-stage.invariant in
    record {
      grew = grew_more s l h holds.grew (grew_more l g h c.shift_by.ensures.grew c.select.ensures.grew);
      is = stage-value s l g h c.args.shift c.args.word c.args.by c.loop-stage.moved c.in_ok-next.next c.in_ok-chosen.chosen i ((1 * 2 ^ i) % 2 ^ 64)
          (one_shl i 64 (omega arith)) (omega arith) holds.grew c.shift_by.ensures.grew c.requires.by holds.is c.in_ok-next.ensures.value c.in_ok-chosen.ensures.value;
    }

pub returns-clause-value : goal.returns-clause-value
returns-clause-value c =
    let s = c.args.self.now.diagrams in
    let last : c.loop-stage.stage ≡ 5 = omega arith in
    subst (λ k. HasValue c.loop-stage.self.diagrams (λ v. shifted c.args.shift (value s v c.args.word) (number (word_bit s v c.args.by) k)) c.loop-stage.moved) last c.loop-stage.invariant.is

pub shift_by-requires-clause-count : goal.shift_by-requires-clause-count
shift_by-requires-clause-count c =
    subst (λ n. n < 32) (sym (one_shl c.loop-stage.stage 64 (omega arith))) (pow_below c.loop-stage.stage 5 (omega arith))
