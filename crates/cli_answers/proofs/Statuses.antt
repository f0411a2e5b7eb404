-- Where the greatest of two exit statuses is that all went well, both are.
use Rattle.std.proofs.Common.{◌≡◌, refl}
use Rattle.cli_text.specs.Status.{greater}
use Rattle.cli_text.specs.declared.status.Status.{Status}
use Rattle.cli_text.specs.declared.status.Status.TheVariants.{Clean, Negative, Undecided, Refused, Damaged, Failed}

pub clean-both : (a b : Status) → greater a b ≡ Clean → (a ≡ Clean) × (b ≡ Clean)
clean-both Clean b is = (refl, is)
clean-both Failed b is = absurd (cc)
clean-both Damaged Clean is = absurd (cc)
clean-both Damaged Refused is = absurd (cc)
clean-both Damaged Damaged is = absurd (cc)
clean-both Damaged Failed is = absurd (cc)
clean-both Damaged Negative is = absurd (cc)
clean-both Damaged Undecided is = absurd (cc)
clean-both Refused Clean is = absurd (cc)
clean-both Refused Refused is = absurd (cc)
clean-both Refused Damaged is = absurd (cc)
clean-both Refused Failed is = absurd (cc)
clean-both Refused Negative is = absurd (cc)
clean-both Refused Undecided is = absurd (cc)
clean-both Undecided Clean is = absurd (cc)
clean-both Undecided Refused is = absurd (cc)
clean-both Undecided Damaged is = absurd (cc)
clean-both Undecided Failed is = absurd (cc)
clean-both Undecided Negative is = absurd (cc)
clean-both Undecided Undecided is = absurd (cc)
clean-both Negative Clean is = absurd (cc)
clean-both Negative Refused is = absurd (cc)
clean-both Negative Damaged is = absurd (cc)
clean-both Negative Failed is = absurd (cc)
clean-both Negative Negative is = absurd (cc)
clean-both Negative Undecided is = absurd (cc)
