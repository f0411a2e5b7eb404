use Rattle.std.proofs.Common.{arith}
use Rattle.tap_steps.proofs.Playlists.{bytes_each}
use Rattle.tap_steps.proofs.playlist.are_bytes.Goals as goal

pub returns : goal.returns
returns c = bytes_each c.args.bytes.now (λ k. omega (arith, c.type_inv.bytes k))
