use Rattle.std.proofs.Common.{ℕ, List, [], map, take, get_or, sym, subst}
use Rattle.std.specs.Borrow.{Bor}
use Rattle.std.proofs.lemmas.List.{take-map, take_all}
use Rattle.std.proofs.lemmas.Result.{err_from_is_err_and}
use Rattle.tap_steps.specs.Playlist.{IsPlaylist, NoHeaderIsRefused}
use Rattle.tap_steps.proofs.Playlists.{stand-push, one_more, this_one, as_many, refuses_capture}
use Rattle.tap_steps.proofs.playlist.read_playlist.Goals as goal

pub returns-in_err-read_next-clause-err : goal.returns-in_err-read_next-clause-err
returns-in_err-read_next-clause-err c =
    let p = err_from_is_err_and c.from_residual.result c.from_residual.ensures.1 in
    let cs = c.args.captures.now in
    let n = c.loop-n.n in
    let stand = subst NoHeaderIsRefused (sym (take-map (λ r. r.now) n cs)) c.loop-n.invariant.stand in
    rw (p.1, p.2) (refuses_capture (map (λ r. r.now) cs) n _ _ (this_one cs n (record { ref_ptr = (0, 0); now = [] }) c.loop-n-test.true) stand c.in_err-read_next.ensures.err)

pub loop-n-preserved : goal.loop-n-preserved
loop-n-preserved c =
    let cs = c.args.captures.now in
    let n = c.loop-n.n in
    let d : Bor (List ℕ) = record { ref_ptr = (0, 0); now = [] } in
    let texts = map (λ r. r.now) (take n cs) in
    let text = (get_or cs n d).now in
    let e = one_more cs n d c.loop-n-test.true in
    let i = c.loop-n.invariant in
    record {
      so_far = subst (λ ts. IsPlaylist 0 ts c.read_next.new.self.arrivals.items c.read_next.new.self.record_fault) (sym e)
          (c.in_ok-read_next.ensures.more texts (as_many cs n d c.loop-n-test.true) i.so_far);
      packets = c.in_ok-read_next.ensures.packets i.packets;
      stand = subst NoHeaderIsRefused (sym e) (stand-push texts text i.stand c.in_ok-read_next.ensures.stands);
    }

pub returns-clause-ok : goal.returns-clause-ok
returns-clause-ok c =
    subst (λ (cs : List (Bor (List ℕ))). IsPlaylist 0 (map (λ r. r.now) cs) c.loop-n.playlist.arrivals.items c.loop-n.playlist.record_fault)
    (take_all c.loop-n.n c.args.captures.now c.loop-n-test.false) c.loop-n.invariant.so_far

pub returns-clause-stand : goal.returns-clause-stand
returns-clause-stand c =
    subst (λ (cs : List (Bor (List ℕ))). NoHeaderIsRefused (map (λ r. r.now) cs)) (take_all c.loop-n.n c.args.captures.now c.loop-n-test.false) c.loop-n.invariant.stand
