use Rattle.savefile.proofs.Given.{begins_all}
use Rattle.savefile.proofs.laws.given_so_far.Goals as goal

pub returns : goal.returns
returns g c = λ start header packets given. begins_all g.R.Source.left start header packets c.args._reader.now given
