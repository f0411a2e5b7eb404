use Rattle.std.proofs.Common.{◌<◌, ap, ◌∙◌, get_or, length, length-set, arith}
use Rattle.filter_words.specs.Words.{bit, word_bit}
use Rattle.filter_words.specs.Steps.{joined_bit}
use Rattle.filter_words.proofs.Nodes.{grew_more, bit-grown, is_bit_grown, says-as, bits-more}
use Rattle.filter_words.proofs.word.Words.zip.Goals as goal

pub join-requires-clause-first : goal.join-requires-clause-first
join-requires-clause-first c =
    is_bit_grown c.args.self.now.diagrams c.loop-i.self.diagrams (get_or c.args.first.bits c.loop-i.i 0) c.loop-i.invariant.grew (c.requires.first c.loop-i.i (omega arith))

pub join-requires-clause-second : goal.join-requires-clause-second
join-requires-clause-second c =
    is_bit_grown c.args.self.now.diagrams c.loop-i.self.diagrams (get_or c.args.second.bits c.loop-i.i 0) c.loop-i.invariant.grew (c.requires.second c.loop-i.i (omega arith))

pub loop-i-preserved : goal.loop-i-preserved
loop-i-preserved c =
    let s = c.args.self.now.diagrams in
    let l = c.loop-i.self.diagrams in
    let n = c.join.new.self.diagrams in
    let i = c.loop-i.i in
    let o = c.args.operation in
    let x = c.args.first in
    let y = c.args.second in
    let node = c.in_ok-node.node in
    let holds = c.loop-i.invariant in
    let within : i < length c.loop-i.bits = omega arith in
    let px = get_or x.bits i 0 in
    let py = get_or y.bits i 0 in
    record {
      grew = grew_more s l n holds.grew c.join.ensures.grew;
      long = length-set c.loop-i.bits i node ∙ holds.long;
      says = bits-more l n (λ v k. joined_bit o (word_bit s v x k) (word_bit s v y k)) c.loop-i.bits i node c.join.ensures.grew within holds.says
          (says-as n (λ v. joined_bit o (bit l v px) (bit l v py)) (λ v. joined_bit o (bit s v px) (bit s v py)) node
          (λ v. ap (λ p. joined_bit o p (bit l v py)) (bit-grown s l px holds.grew (c.requires.first i (omega arith)) v)
          ∙ ap (λ p. joined_bit o (bit s v px) p) (bit-grown s l py holds.grew (c.requires.second i (omega arith)) v))
          c.in_ok-node.ensures.says);
    }
