use Rattle.savefile.proofs.Encoding.{encoded-begins, IsBeginning-trans}
use Rattle.savefile.proofs.Lengths.{length-encoded-push}
use Rattle.savefile.proofs.laws.growing_text.Goals as goal

pub returns-clause-begins : goal.returns-clause-begins
returns-clause-begins c order unit snap packets more text begins = IsBeginning-trans text _ _ begins (encoded-begins order unit snap packets more)

pub returns-clause-adds : goal.returns-clause-adds
returns-clause-adds c = length-encoded-push
