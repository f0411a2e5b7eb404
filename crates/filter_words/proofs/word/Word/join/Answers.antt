use Rattle.std.proofs.Common.{◌≡◌, ◌≢◌, ◌<◌, ◌-◌, ◌∙◌, set, length, length-set, get_or-set_other, get_or-set_same, below_more, arith}
use Rattle.std.specs.Prelude.{slice_index}
use Rattle.filter_words.specs.declared.word.Word.{Word}
use Rattle.filter_words.specs.Steps.{after_byte}
use Rattle.filter_words.proofs.Loads.{after-value, after-high}
use Rattle.filter_words.proofs.word.Word.join.Goals as goal

pub loop-i-preserved : goal.loop-i-preserved
loop-i-preserved c =
    let i = c.loop-i.i in
    let bits = c.loop-i.bits in
    let y = slice_index c.args.byte.bits in
    let x = slice_index c.args.self.bits in
    let holds = c.loop-i.invariant in
    let node = x (i - 8) in
    let within : i < length bits = omega arith in
    record {
      long = length-set bits i node ∙ holds.long;
      is = below_more (λ k. slice_index (set bits i node) k ≡ after_byte y x k) i
          (λ k less. let other : k ≢ i = omega arith in get_or-set_other bits i k node 0 other ∙ holds.is k less)
          (get_or-set_same bits i node 0 within ∙ after-high y x i (omega arith));
    }

pub returns : goal.returns
returns c nodes hx hy small =
    let w : Word = record { bits = c.loop-i.bits } in
    after-value nodes c.args.self c.args.byte w (λ k less. c.loop-i.invariant.is k (omega arith)) hx hy small
