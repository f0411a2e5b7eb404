use Rattle.savefile.proofs.Contents.{AreBytes-text}
use Rattle.savefile.proofs.Headers.{one_fault, refused_is_none}
use Rattle.savefile.proofs.laws.one_refusal.Goals as goal

pub returns-clause-fault : goal.returns-clause-fault
returns-clause-fault c = λ text fault other fits. one_fault text fault other (AreBytes-text text fits)

pub returns-clause-nothing : goal.returns-clause-nothing
returns-clause-nothing c = λ text fault order unit snap packets end fits refused held.
    refused_is_none text fault order unit snap (AreBytes-text text fits) refused held.reads.header
