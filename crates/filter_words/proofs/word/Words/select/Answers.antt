use Rattle.std.proofs.Common.{◌<◌, ◌∙◌, get_or, length, length-set, arith}
use Rattle.filter_words.specs.declared.word.Word.{Word}
use Rattle.filter_words.specs.Words.{bit, word_bit}
use Rattle.filter_words.specs.Steps.{chosen}
use Rattle.filter_words.proofs.Nodes.{grew_more, bit-grown, is_bit_grown, says-as, bits-more, same-three}
use Rattle.filter_words.proofs.Values.{select-value}
use Rattle.filter_words.proofs.word.Words.select.Goals as goal

pub choice-requires-clause-test : goal.choice-requires-clause-test
choice-requires-clause-test c =
    is_bit_grown c.args.self.now.diagrams c.loop-i.self.diagrams c.args.test c.loop-i.invariant.grew c.requires.test

pub choice-requires-clause-yes : goal.choice-requires-clause-yes
choice-requires-clause-yes c =
    is_bit_grown c.args.self.now.diagrams c.loop-i.self.diagrams (get_or c.args.yes.bits c.loop-i.i 0) c.loop-i.invariant.grew (c.requires.yes c.loop-i.i (omega arith))

pub choice-requires-clause-no : goal.choice-requires-clause-no
choice-requires-clause-no c =
    is_bit_grown c.args.self.now.diagrams c.loop-i.self.diagrams (get_or c.args.no.bits c.loop-i.i 0) c.loop-i.invariant.grew (c.requires.no c.loop-i.i (omega arith))

pub loop-i-preserved : goal.loop-i-preserved
loop-i-preserved c =
    let s = c.args.self.now.diagrams in
    let l = c.loop-i.self.diagrams in
    let n = c.choice.new.self.diagrams in
    let i = c.loop-i.i in
    let t = c.args.test in
    let x = c.args.yes in
    let y = c.args.no in
    let node = c.in_ok-node.node in
    let holds = c.loop-i.invariant in
    let within : i < length c.loop-i.bits = omega arith in
    let px = get_or x.bits i 0 in
    let py = get_or y.bits i 0 in
    record {
      grew = grew_more s l n holds.grew c.choice.ensures.grew;
      long = length-set c.loop-i.bits i node ∙ holds.long;
      says = bits-more l n (λ v k. chosen (bit s v t) (word_bit s v x k) (word_bit s v y k)) c.loop-i.bits i node c.choice.ensures.grew within holds.says
          (says-as n (λ v. chosen (bit l v t) (bit l v px) (bit l v py)) (λ v. chosen (bit s v t) (bit s v px) (bit s v py)) node
          (λ v. same-three chosen (bit l v t) (bit l v px) (bit l v py) (bit s v t) (bit s v px) (bit s v py)
          (bit-grown s l t holds.grew c.requires.test v)
          (bit-grown s l px holds.grew (c.requires.yes i (omega arith)) v)
          (bit-grown s l py holds.grew (c.requires.no i (omega arith)) v))
          c.in_ok-node.ensures.says);
    }

pub returns-clause-value : goal.returns-clause-value
returns-clause-value c =
    let w : Word = record { bits = c.loop-i.bits } in
    select-value c.args.self.now.diagrams c.loop-i.self.diagrams c.args.test c.args.yes c.args.no w (λ k less. c.loop-i.invariant.says k (omega arith))
