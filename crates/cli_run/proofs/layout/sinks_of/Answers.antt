use Rattle.std.proofs.Common.{◌<◌, get_or, length, refl, sym, subst, arith}
use Rattle.replay_types.specs.declared.report.InterfaceReport.{InterfaceReport}
use Rattle.cli_run.proofs.Laid.{listener_left, handed_on, all_back}
use Rattle.cli_run.proofs.layout.sinks_of.Goals as goal

pub index_mut-requires : goal.index_mut-requires
index_mut-requires g c =
    let there = c.requires.there c.loop-place.place-index 0 c.loop-place-test.true in
    let many = c.loop-place.invariant.handed.many in
    let len = c.loop-place.reports.ok.0 in omega (arith, there, many, len)

pub remove-sink-requires : goal.remove-sink-requires
remove-sink-requires g c =
    let there = c.requires.there c.loop-place.place-index 0 c.loop-place-test.true in
    let many = c.loop-place.invariant.handed.many in
    let here : get_or c.args.places.now c.loop-place.place-index 0 < length c.loop-place.reports.items = omega (arith, there, many) in
    let left = listener_left c.args.places.now c.loop-place.place-index c.args.reports.items c.loop-place.reports.items c.loop-place.sinks.items _ _
    c.loop-place.invariant.handed c.loop-place-test.true refl here in
    let some = subst (λ (report : InterfaceReport g.row.R.Denot g.row.W.Denot). 0 < length report.listeners.items) (sym c.index_mut.ensures.value) left in
    let len = c.index_mut.result.now.listeners.ok.0 in omega (arith, some, len)

pub push_reserved-requires : goal.push_reserved-requires
push_reserved-requires g c =
    let count = c.loop-place.invariant.handed.count in
    let len = c.loop-place.sinks.ok.0 in
    let more = c.loop-place-test.true in
    let room = c.loop-place.invariant.room in omega (arith, count, len, more, room)

pub loop-place-preserved : goal.loop-place-preserved
loop-place-preserved g c =
    let there = c.requires.there c.loop-place.place-index 0 c.loop-place-test.true in
    let many = c.loop-place.invariant.handed.many in
    let here : get_or c.args.places.now c.loop-place.place-index 0 < length c.loop-place.reports.items = omega (arith, there, many) in
    record {
      handed = handed_on c.args.places.now c.loop-place.place-index c.args.reports.items c.loop-place.reports.items c.loop-place.sinks.items _ _ c.index_mut.result.now c.remove-sink.result
          c.loop-place.invariant.handed c.loop-place-test.true refl here c.index_mut.ensures.value c.remove-sink.ensures.items c.remove-sink.ensures.value _ _ refl c.push_reserved.ensures.items;
      room = (let capacity = c.push_reserved.ensures.capacity in let room = c.loop-place.invariant.room in omega (arith, capacity, room));
    }

pub returns-clause-lines : goal.returns-clause-lines
returns-clause-lines g c =
    let count = c.loop-place.invariant.handed.count in
    let past = c.loop-place-test.false in
    let within = c.loop-place.auto.place-index-end in omega (arith, count, past, within)

pub returns-clause-back : goal.returns-clause-back
returns-clause-back g c =
    all_back c.args.places.now c.loop-place.place-index c.args.reports.items c.loop-place.reports.items c.loop-place.sinks.items c.loop-place.invariant.handed c.loop-place-test.false c.loop-place.auto.place-index-end
