use Rattle.bpfvm.proofs.Listings.{IsListing-one}
use Rattle.bpfvm.proofs.Written.{written-listing}
use Rattle.bpfvm.proofs.laws.written_listings_are_read.Goals as goal

pub returns-clause-written : goal.returns-clause-written
returns-clause-written c = written-listing

pub returns-clause-one : goal.returns-clause-one
returns-clause-one c = IsListing-one
