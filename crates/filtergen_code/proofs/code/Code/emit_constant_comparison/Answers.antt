use Rattle.std.proofs.Common.{Some, ap, ◌∙◌, arith, bit_and, option_map}
use Rattle.std.proofs.lemmas.Result.{MatchResult-weaker}
use Rattle.filter_tree.specs.Trees.{amount_of}
use Rattle.filter_tree.specs.declared.tree.Comparison.TheVariants.{Equal, NotEqual}
use Rattle.filter_meaning.specs.Meaning.{compared, check_both, value}
use Rattle.filtergen_code.proofs.Computing.{bits-none}
use Rattle.filtergen_code.proofs.Deciding.{decides-more, decides-not, decides-same}
use Rattle.filtergen_code.proofs.code.Code.emit_constant_comparison.Goals as goal

pub returns-in-Equal-Some : goal.returns-in-Equal-Some
returns-in-Equal-Some c =
    let bits = c.in-Equal-Some in
    let done = rw c.opposite.ensures at c.emit_any_bit.ensures in
    rw (bits.is-0, c.if-n-eq0.true)
    (MatchResult-weaker c.emit_any_bit.result done
    (λ entry decides.
    decides-more _ (omega (arith, bits.ensures.fits))
    (decides-same _ _
    (λ p same. bits-none (option_map (λ n. bit_and n bits.mask) (value (amount_of bits.bits.now) p)) ∙ ap (λ v. check_both (compared Equal) v (Some 0)) (bits.ensures.same p))
    (decides-not decides)))
    (λ e full. omega (arith, full, bits.ensures.fits)))

pub returns-in-NotEqual-Some : goal.returns-in-NotEqual-Some
returns-in-NotEqual-Some c =
    let bits = c.in-NotEqual-Some in
    rw (bits.is-0, c.if-n-eq0-2.true)
    (MatchResult-weaker c.emit_any_bit-in-NotEqual-Some.result c.emit_any_bit-in-NotEqual-Some.ensures
    (λ entry decides.
    decides-more _ (omega (arith, bits.ensures.fits))
    (decides-same _ _ (λ p same. ap (λ v. check_both (compared NotEqual) v (Some 0)) (bits.ensures.same p)) decides))
    (λ e full. omega (arith, full, bits.ensures.fits)))
