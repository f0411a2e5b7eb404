use Rattle.tap_laws.proofs.Playlists.{gives_one_playlist}
use Rattle.tap_laws.proofs.one_playlist.Goals as goal

pub returns : goal.returns
returns g c = gives_one_playlist g.S.Source.left g.S.Source.failures
