use Rattle.std.proofs.Common.{sym, ◌∙◌, arith}
use Rattle.tap_steps.proofs.Playlists.{playlist-push, playlist-ended-by, none_by, ok_anyway}
use Rattle.tap_steps.proofs.playlist.Playlist.read_next.Goals as goal

pub returns-then-is_some-clause-more : goal.returns-then-is_some-clause-more
returns-then-is_some-clause-more c =
    ok_anyway c.look_at_header.result _ (λ texts long so_far.
    playlist-ended-by 0 texts c.args.self.now.arrivals.items c.args.self.now.record_fault c.args.text.now (sym c.is_some.ensures ∙ c.if-is_some.true) so_far)

pub returns-clause-more : goal.returns-clause-more
returns-clause-more c = λ texts long so_far.
    let none = none_by c.args.self.now.record_fault (sym c.is_some.ensures ∙ c.if-is_some.false) in
    rw (c.in_ok-place.ensures.items, c.record_fault_at-self.ensures)
    (playlist-push 0 texts c.args.self.now.arrivals.items c.args.text.now c.in_ok-packets.packets.items c.in_ok-packets.fault c.args.n (omega (arith, long)) (rw none at so_far) c.in_ok-packets.ensures.reads)
