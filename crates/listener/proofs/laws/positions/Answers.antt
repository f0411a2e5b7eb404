use Rattle.listener.proofs.Positions.{load_by_positions, held_by_positions, drop_by_positions}
use Rattle.listener.proofs.laws.positions.Goals as goal

pub returns-clause-load : goal.returns-clause-load
returns-clause-load c = load_by_positions

pub returns-clause-held : goal.returns-clause-held
returns-clause-held c = held_by_positions

pub returns-clause-drops : goal.returns-clause-drops
returns-clause-drops c = drop_by_positions
