use Rattle.std.proofs.Common.{◌≡◌, rules, subst}
use Rattle.filter_same.specs.declared.find.Claim.TheVariants.{Same, SameAsCaptured, NeverApart}
use Rattle.filter_same.specs.Filters.{filter_accepts, filter_test}
use Rattle.filter_same.specs.Findings.{Claims}
use Rattle.filter_same.proofs.Accepting.{filters-same, filters-captured, filters-apart}
use Rattle.filter_same.proofs.sameness.sameness_of.Goals as goal

pub returns-in-Same-default : goal.returns-in-Same-default
returns-in-Same-default c =
    let f = c.args.first in
    let g = c.args.second in
    let is : c.args.found.claim ≡ Same = search rules in
    filters-same f g (subst (Claims (filter_test f) (filter_test g)) is c.requires)

pub returns-in-SameAsCaptured-default : goal.returns-in-SameAsCaptured-default
returns-in-SameAsCaptured-default c =
    let f = c.args.first in
    let g = c.args.second in
    let is : c.args.found.claim ≡ SameAsCaptured = search rules in
    filters-captured f g (subst (Claims (filter_test f) (filter_test g)) is c.requires)

pub returns-in-NeverApart-Some : goal.returns-in-NeverApart-Some
returns-in-NeverApart-Some c =
    let f = c.args.first in
    let g = c.args.second in
    let is : c.args.found.claim ≡ NeverApart = search rules in
    c.short.ensures (filter_accepts f) (filter_accepts g) (filter_test f) (filter_test g)
    (filters-apart f g (subst (Claims (filter_test f) (filter_test g)) is c.requires))
    c.verdict-one.ensures c.verdict-other.ensures

pub returns-in-Nothing-Some : goal.returns-in-Nothing-Some
returns-in-Nothing-Some c =
    let f = c.args.first in
    let g = c.args.second in
    c.apart.ensures (filter_accepts f) (filter_accepts g) (filter_test f) (filter_test g)
    c.verdict-one-in-Nothing-Some.ensures c.verdict-other-in-Nothing-Some.ensures
