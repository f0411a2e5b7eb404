use Rattle.std.proofs.Common.{◌<◌, ap, ◌∙◌, get_or, length, length-set, arith}
use Rattle.std.specs.Prelude.{not}
use Rattle.filter_words.specs.declared.word.Word.{Word}
use Rattle.filter_words.specs.Words.{bit, word_bit}
use Rattle.filter_words.proofs.Nodes.{grew_more, bit-grown, is_bit_grown, says-as, bits-more}
use Rattle.filter_words.proofs.Values.{not-value}
use Rattle.filter_words.proofs.word.Words.not.Goals as goal

pub opposite-requires : goal.opposite-requires
opposite-requires c =
    is_bit_grown c.args.self.now.diagrams c.loop-i.self.diagrams (get_or c.args.word.bits c.loop-i.i 0) c.loop-i.invariant.grew (c.requires c.loop-i.i (omega arith))

pub loop-i-preserved : goal.loop-i-preserved
loop-i-preserved c =
    let s = c.args.self.now.diagrams in
    let l = c.loop-i.self.diagrams in
    let n = c.opposite.new.self.diagrams in
    let i = c.loop-i.i in
    let x = c.args.word in
    let node = c.in_ok-node.node in
    let holds = c.loop-i.invariant in
    let within : i < length c.loop-i.bits = omega arith in
    let px = get_or x.bits i 0 in
    record {
      grew = grew_more s l n holds.grew c.opposite.ensures.grew;
      long = length-set c.loop-i.bits i node ∙ holds.long;
      says = bits-more l n (λ v k. not (word_bit s v x k)) c.loop-i.bits i node c.opposite.ensures.grew within holds.says
          (says-as n (λ v. not (bit l v px)) (λ v. not (bit s v px)) node
          (λ v. ap not (bit-grown s l px holds.grew (c.requires i (omega arith)) v))
          c.in_ok-node.ensures.says);
    }

pub returns-clause-value : goal.returns-clause-value
returns-clause-value c =
    let w : Word = record { bits = c.loop-i.bits } in
    not-value c.args.self.now.diagrams c.loop-i.self.diagrams c.args.word w (λ k less. c.loop-i.invariant.says k (omega arith))
