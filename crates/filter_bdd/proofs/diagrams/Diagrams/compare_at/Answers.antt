use Rattle.std.proofs.Common.{sym, refl, ◌+◌, ◌-◌, ◌%◌, ◌^◌}
use Rattle.std.specs.Prelude.{◌&&◌}
use Rattle.filter_bdd.specs.Diagrams.{answer}
use Rattle.filter_bdd.specs.Fields.{number_of, by_order, by_bits}
use Rattle.filter_bdd.proofs.Tables.{grown_more, grown_same, grown_inside, grown-answer}
use Rattle.filter_bdd.proofs.Calls.{gives-as}
use Rattle.filter_bdd.proofs.Numbers.{order-none, order-more}
use Rattle.filter_bdd.proofs.diagrams.Diagrams.compare_at.Goals as goal

pub loop-bit-init : goal.loop-bit-init
loop-bit-init c =
    let s = c.args.self.now in
    let places = c.args.places in
    record {
      grew = grown_same s s refl;
      gives = record { inside = c.requires.equal; says = λ v. sym (order-none c.args.number (answer s v places.less) (answer s v places.equal) (answer s v places.greater)) };
    }

pub compare_bit-requires-clause-less : goal.compare_bit-requires-clause-less
compare_bit-requires-clause-less c = grown_inside c.args.self.now c.loop-bit.self c.args.places.less c.loop-bit.invariant.grew c.requires.less

pub compare_bit-requires-clause-equal : goal.compare_bit-requires-clause-equal
compare_bit-requires-clause-equal c = c.loop-bit.invariant.gives.inside

pub compare_bit-requires-clause-greater : goal.compare_bit-requires-clause-greater
compare_bit-requires-clause-greater c = grown_inside c.args.self.now c.loop-bit.self c.args.places.greater c.loop-bit.invariant.grew c.requires.greater

pub loop-bit-preserved : goal.loop-bit-preserved
loop-bit-preserved c =
    let s = c.args.self.now in
    let l = c.loop-bit.self in
    let n = c.compare_bit.new.self in
    let field = c.args.field in
    let places = c.args.places in
    let bit = c.loop-bit.bit in
    let holds = c.loop-bit.invariant in
    record {
      grew = grown_more s l n holds.grew c.compare_bit.ensures.grew;
      gives = gives-as n
          (λ v. by_bits (c.is_set-counts.result && v (field.last - bit)) c.is_set-one.result (answer l v places.less) (answer l v c.loop-bit.equal) (answer l v places.greater))
          (λ v. by_order (number_of v field.last field.mask (bit + 1)) (c.args.number % 2 ^ (bit + 1)) (answer s v places.less) (answer s v places.equal) (answer s v places.greater))
          c.in_ok-next.next
          (λ v. order-more v field.last field.mask c.args.number bit (answer s v places.less) (answer s v places.equal) (answer s v places.greater)
          (answer l v places.less) (answer l v c.loop-bit.equal) (answer l v places.greater) c.is_set-counts.result c.is_set-one.result
          c.is_set-counts.ensures c.is_set-one.ensures
          (grown-answer v s l holds.grew places.less c.requires.less) (grown-answer v s l holds.grew places.greater c.requires.greater) (holds.gives.says v))
          c.in_ok-next.ensures.gives;
    }
