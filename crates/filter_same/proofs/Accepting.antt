-- From what is claimed of two tests to what is decided of two filters.
use Rattle.std.proofs.Common.{◌≡◌, refl, sym, ◌∙◌}
use Rattle.filter_meaning.specs.Meaning.{Packet, is_yes}
use Rattle.filter_same.specs.declared.filters.Filter.{Filter}
use Rattle.filter_same.specs.declared.filters.Filter.TheVariants.{Expression, Program}
use Rattle.filter_same.specs.declared.find.Claim.TheVariants.{Same, SameAsCaptured, NeverApart}
use Rattle.filter_same.specs.Filters.{filter_test, filter_accepts}
use Rattle.filter_same.specs.Findings.{Claims}
use Rattle.filter_same.specs.Same.{AcceptSame, AcceptSameAsCaptured, AreNeverApart}
use Rattle.filter_diagrams.proofs.Runs.{programs-say-yes}

-- a filter accepts the packets of which it says Yes
accepts-yes : (f : Filter) (p : Packet) → filter_accepts f p ≡ is_yes (filter_test f p)
accepts-yes (Expression expr) p = refl
accepts-yes (Program program) p = sym (programs-say-yes program.now p)

pub filters-same : (f g : Filter) → Claims (filter_test f) (filter_test g) Same → AcceptSame (filter_accepts f) (filter_accepts g)
filters-same f g h p bytes wire = accepts-yes f p ∙ h p (record { bytes = bytes; wire = wire }) ∙ sym (accepts-yes g p)

pub filters-captured : (f g : Filter) → Claims (filter_test f) (filter_test g) SameAsCaptured → AcceptSameAsCaptured (filter_accepts f) (filter_accepts g)
filters-captured f g h p bytes wire captured = accepts-yes f p ∙ h p (record { bytes = bytes; wire = wire }) captured ∙ sym (accepts-yes g p)

pub filters-apart : (f g : Filter) → Claims (filter_test f) (filter_test g) NeverApart → AreNeverApart (filter_test f) (filter_test g)
filters-apart f g h p bytes wire captured apart = h p (record { bytes = bytes; wire = wire }) captured apart
