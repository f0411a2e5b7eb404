use Rattle.std.proofs.Common.{◌≡◌, ◌≢◌, ◌<◌, ◌-◌, ◌∙◌, set, length, length-set, get_or-set_other, get_or-set_same, below_more, arith}
use Rattle.std.specs.Prelude.{slice_index}
use Rattle.filter_words.specs.declared.word.Word.{Word}
use Rattle.filter_words.specs.Steps.{pushed}
use Rattle.filter_words.proofs.Quotients.{push-value, push-high}
use Rattle.filter_words.proofs.word.Word.push.Goals as goal

pub loop-i-preserved : goal.loop-i-preserved
loop-i-preserved c =
    let i = c.loop-i.i in
    let bits = c.loop-i.bits in
    let item = c.args.node in
    let x = slice_index c.args.self.bits in
    let holds = c.loop-i.invariant in
    let node = x (i - 1) in
    let within : i < length bits = omega arith in
    record {
      long = length-set bits i node ∙ holds.long;
      is = below_more (λ k. slice_index (set bits i node) k ≡ pushed item x k) i
          (λ k less. let other : k ≢ i = omega arith in get_or-set_other bits i k node 0 other ∙ holds.is k less)
          (get_or-set_same bits i node 0 within ∙ push-high item x i (omega arith));
    }

pub returns : goal.returns
returns c nodes hx hn =
    let w : Word = record { bits = c.loop-i.bits } in
    push-value nodes c.args.self w c.args.node (λ k less. c.loop-i.invariant.is k (omega arith)) hx hn
