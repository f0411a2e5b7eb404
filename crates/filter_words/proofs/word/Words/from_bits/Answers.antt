use Rattle.std.proofs.Common.{◌<◌, false, refl, sym, ◌∙◌, length, length-set, arith, subst}
use Rattle.std.specs.Prelude.{slice_index}
use Rattle.filter_words.specs.declared.word.Word.{Word}
use Rattle.filter_words.specs.Words.{bit, Says}
use Rattle.filter_words.specs.Steps.{padded}
use Rattle.filter_words.proofs.Nodes.{grew_same, bits-more}
use Rattle.filter_words.proofs.Loads.{padded-says, padded-value}
use Rattle.filter_words.proofs.word.Words.from_bits.Goals as goal

pub loop-i-preserved : goal.loop-i-preserved
loop-i-preserved c =
    let s = c.args.self.now.diagrams in
    let l = c.fixed.new.self.diagrams in
    let i = c.loop-i.i in
    let nodes = c.args.nodes.now in
    let node = c.node_at.result in
    let holds = c.loop-i.invariant in
    let within : i < length c.loop-i.bits = omega arith in
    record {
      long = length-set c.loop-i.bits i node ∙ holds.long;
      says = bits-more l l (λ v k. padded (λ j. bit s v (slice_index nodes j)) false (length nodes) k) c.loop-i.bits i node (grew_same l l refl) within holds.says
          (subst (λ p. Says l (λ v. padded (λ j. bit s v (slice_index nodes j)) false (length nodes) i) p) (sym c.node_at.ensures)
          (padded-says s l nodes c.in_ok-no.no i c.fixed.ensures.grew c.requires.bits c.in_ok-no.ensures.says));
    }

pub returns-clause-value : goal.returns-clause-value
returns-clause-value c =
    let w : Word = record { bits = c.loop-i.bits } in
    padded-value c.args.self.now.diagrams c.fixed.new.self.diagrams c.args.nodes.now w c.requires.few (λ k less. c.loop-i.invariant.says k (omega arith))
