use Rattle.std.proofs.Common.{◌-◌, ◌<◌, ◌∙◌, false, length, length-set, refl, arith}
use Rattle.std.specs.Prelude.{slice_index}
use Rattle.filter_words.specs.declared.word.Word.{Word}
use Rattle.filter_words.specs.Steps.{padded}
use Rattle.filter_symbols.specs.Packets.{bit_of}
use Rattle.filter_symbols.specs.Steps.{IsBitOf}
use Rattle.filter_symbols.proofs.Stands.{extends_same, extends_more, bit-of-grown, all-more, field-is}
use Rattle.filter_symbols.proofs.symbol.Symbols.field.Goals as goal

pub loop-i-init : goal.loop-i-init
loop-i-init c = record {
  extends = extends_same c.args.self.now;
  long = refl;
  bits = λ k less. absurd (omega arith);
}

pub loop-i-preserved : goal.loop-i-preserved
loop-i-preserved c =
    let s = c.args.self.now in
    let l = c.loop-i.self in
    let n = c.field_bit.new.self in
    let i = c.loop-i.i in
    let last = c.args.last in
    let width = c.args.width in
    let node = c.in_ok-node.node in
    let holds = c.loop-i.invariant in
    let within : i < length c.loop-i.bits = omega arith in
    record {
      extends = extends_more s l n holds.extends c.field_bit.ensures.extends;
      long = length-set c.loop-i.bits i node ∙ holds.long;
      bits = all-more (λ k. IsBitOf n last (λ p. padded (λ j. bit_of p (last - j)) false width k)) c.loop-i.bits i node within
          (λ k less. bit-of-grown l n last (λ p. padded (λ j. bit_of p (last - j)) false width k) (slice_index c.loop-i.bits k) c.field_bit.ensures.extends (holds.bits k less))
          c.in_ok-node.ensures.bit;
    }

pub returns-clause-field : goal.returns-clause-field
returns-clause-field c =
    let w : Word = record { bits = c.loop-i.bits } in
    field-is c.loop-i.self c.args.last c.args.width w c.requires.width (λ k less. c.loop-i.invariant.bits k (omega arith))
