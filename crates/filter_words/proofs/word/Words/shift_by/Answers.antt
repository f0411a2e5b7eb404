use Rattle.std.proofs.Common.{◌<◌, false, refl, sym, ◌∙◌, length, length-set, arith, subst}
use Rattle.filter_words.specs.declared.word.Word.{Word}
use Rattle.filter_words.specs.Words.{word_bit, Says}
use Rattle.filter_words.specs.Steps.{moved}
use Rattle.filter_words.proofs.Nodes.{grew_same, bits-more}
use Rattle.filter_words.proofs.Values.{moved-says, shift-value}
use Rattle.filter_words.proofs.word.Words.shift_by.Goals as goal

pub loop-i-preserved : goal.loop-i-preserved
loop-i-preserved c =
    let s = c.args.self.now.diagrams in
    let l = c.fixed.new.self.diagrams in
    let i = c.loop-i.i in
    let shift = c.args.shift in
    let x = c.args.word in
    let count = c.args.count in
    let node = c.moved.result in
    let holds = c.loop-i.invariant in
    let within : i < length c.loop-i.bits = omega arith in
    record {
      long = length-set c.loop-i.bits i node ∙ holds.long;
      says = bits-more l l (λ v k. moved shift (word_bit s v x) false count k) c.loop-i.bits i node (grew_same l l refl) within holds.says
          (subst (λ p. Says l (λ v. moved shift (word_bit s v x) false count i) p) (sym c.moved.ensures)
          (moved-says shift s l x c.in_ok-no.no count i c.fixed.ensures.grew c.requires.word c.in_ok-no.ensures.says (omega arith)));
    }

pub returns-clause-value : goal.returns-clause-value
returns-clause-value c =
    let w : Word = record { bits = c.loop-i.bits } in
    shift-value c.args.self.now.diagrams c.fixed.new.self.diagrams c.args.shift c.args.word w c.args.count c.requires.count (λ k less. c.loop-i.invariant.says k (omega arith))
