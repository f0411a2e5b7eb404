use Rattle.std.proofs.Common.{◌++◌, ℕ, List, length, sym, ap, ◌∙◌}
use Rattle.cli_answers.specs.Objects.{lengths_json, packet_json, time_json}
use Rattle.cli_answers.proofs.json.put_packet.Goals as goal

pub returns : goal.returns
unfolding packet_json
returns c =
    let r = c.packet.inside in
    let time = time_json r.sec r.nanos in
    let lengths = lengths_json r.len (length r.bytes.now) in
    rw (sym c.packet.view_is) (c.in_ok-put_lengths.ensures ∙ ap (λ (t : List ℕ). t ++ lengths) (c.in_ok-put_time.ensures ∙ ap (λ (t : List ℕ). t ++ time) c.in_ok-put_place.ensures))
