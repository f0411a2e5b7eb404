use Rattle.std.proofs.Common.{◌≡◌, ◌<◌, length, refl, ◌∙◌, arith}
use Rattle.filtergen_facts.specs.declared.lists.ValueRange.{ValueRange}
use Rattle.filter_meaning.specs.Meaning.{Packet, Test, check, half, within}
use Rattle.filtergen_facts.specs.Lists.{any_of}
use Rattle.filtergen_code.specs.ValueLists.{in_ranges}
use Rattle.filtergen_code.proofs.Following.{decides-followed}
use Rattle.filtergen_code.proofs.Leading.{decides-apart, decides-by-more}
use Rattle.filtergen_facts.proofs.Joining.{any-same}
use Rattle.filtergen_code.proofs.ValueLists.{any-checked, type-known, type-missing}
use Rattle.filtergen_code.proofs.code.Code.emit_type_list.Goals as goal

abbrev number : ValueRange → Test
number x p = check (within x.low x.high) (half 12 p)

pub returns : goal.returns
returns c =
    let ranges = c.args.group.now.ranges.items in
    let some : 0 < length ranges = omega (arith, c.requires.many) in
    let done = rw (c.as_slice-ranges.ensures.value, c.other_exits.ensures) at c.in_ok-other.ensures.0 in
    let tested = decides-followed _ (any_of number ranges) (λ r p bytes. refl) done in
    let same : (p : Packet) → any_of number ranges p ≡ check (in_ranges ranges) (half 12 p) =
    λ p. any-same number (λ (x : ValueRange) q. check (within x.low x.high) (half 12 p)) p (λ x. refl) ranges ∙ any-checked ranges p (half 12 p) some in
    let first = rw (c.for_answer.ensures, c.has_number.ensures, c.as_slice-ranges.ensures.value) at c.emit_ip_split.ensures.test in
    rw (c.emit_ip_split.ensures.places, c.for_answer.ensures, c.has_number.ensures, c.as_slice-ranges.ensures.value)
    (decides-by-more _ (omega arith)
    (decides-apart (in_ranges ranges 0x0800) c.args.targets c.requires.targets (λ p is. same p ∙ type-known (in_ranges ranges) (half 12 p) is)
    (λ p is. same p ∙ type-missing (in_ranges ranges) (half 12 p) is) tested first))
