use Rattle.std.proofs.Common.{◌<◌, refl, sym, ◌∙◌, length, length-set, arith, subst, false}
use Rattle.std.specs.Prelude.{if◌then◌else◌}
use Rattle.filter_bdd.specs.Fields.{is_set}
use Rattle.filter_words.specs.declared.word.Word.{Word}
use Rattle.filter_words.specs.Words.{Says}
use Rattle.filter_words.proofs.Nodes.{grew_same, says-grown, says-as, bits-more, fixed-says}
use Rattle.filter_words.proofs.Values.{constant-value}
use Rattle.filter_words.proofs.word.Words.constant.Goals as goal

pub loop-i-preserved : goal.loop-i-preserved
loop-i-preserved c =
    let l = c.fixed-2.new.self.diagrams in
    let i = c.loop-i.i in
    let n = c.args.number in
    let one = c.in_ok-yes.yes in
    let other = c.in_ok-no.no in
    let b = c.is_set.result in
    let node = c.node_of.result in
    let holds = c.loop-i.invariant in
    let within : i < length c.loop-i.bits = omega arith in
    let none : Says l (λ v. false) other = says-grown c.fixed.new.self.diagrams l (λ v. false) other c.fixed-2.ensures.grew c.in_ok-no.ensures.says in
    record {
      long = length-set c.loop-i.bits i node ∙ holds.long;
      says = bits-more l l (λ v k. is_set n k) c.loop-i.bits i node (grew_same l l refl) within holds.says
          (subst (λ p. Says l (λ v. is_set n i) p) (sym c.node_of.ensures)
          (says-as l (λ v. b) (λ v. is_set n i) (if b then one else other) (λ v. c.is_set.ensures) (fixed-says l b one other c.in_ok-yes.ensures.says none)));
    }

pub returns-clause-value : goal.returns-clause-value
returns-clause-value c =
    let w : Word = record { bits = c.loop-i.bits } in
    constant-value c.fixed-2.new.self.diagrams c.args.number w (omega arith) (λ k less. c.loop-i.invariant.says k (omega arith))
