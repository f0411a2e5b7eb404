use Rattle.std.proofs.Common.{◌+◌, ◌%◌, ◌^◌, ◌<◌, ◌≤◌, List, ℕ, inl, inr, length, refl, sym, ap, subst, ◌∙◌}
use Rattle.std.proofs.lemmas.Result.{err_from_is_err_and}
use Rattle.std.specs.Io.KnownBytes.{Consumes}
use Rattle.savefile.specs.declared.ahead.Ahead.{Ahead}
use Rattle.savefile.specs.Ahead.{waiting_in, lent_by}
use Rattle.savefile.specs.Savefile.{packet, IsRecord}
use Rattle.savefile.proofs.Steps.{device_failed, end_met, fault_stands, header_writable, no_device_failed, not_asked, record_stands, stands-no_device, torn_rest, torn_stands, Grows-trans, IsRecordHeader-grown, NoRecord-short}
use Rattle.savefile.proofs.reader.read_record.Goals as goal

pub returns-in_err-read-clause-fault : goal.returns-in_err-read-clause-fault
returns-in_err-read-clause-fault g c =
    let order = c.args.header.order in
    let unit = c.args.header.unit in
    let told = err_from_is_err_and c.from_residual-in_err-read.result c.from_residual-in_err-read.ensures.1 in
    rw (told.1, told.2) (
      c.in_ok-fill.ensures.grows,
      inr (fault_stands order unit c.args.place c.waiting-text.result.now (waiting_in c.fill.new.self) (g.R.Source.left c.fill.new.self.source) _ c.waiting-text.ensures.value c.in_ok-fill.ensures.enough c.in_err-read.ensures.err),
    )

pub returns-in_err-read-clause-device : goal.returns-in_err-read-clause-device
returns-in_err-read-clause-device g c =
    let order = c.args.header.order in
    let unit = c.args.header.unit in
    let told = err_from_is_err_and c.from_residual-in_err-read.result c.from_residual-in_err-read.ensures.1 in
    let stands = fault_stands order unit c.args.place c.waiting-text.result.now (waiting_in c.fill.new.self) (g.R.Source.left c.fill.new.self.source) _ c.waiting-text.ensures.value c.in_ok-fill.ensures.enough c.in_err-read.ensures.err in
    no_device_failed c.from_residual-in_err-read.result told.0 _ _ told.1
    (λ device. stands-no_device order unit c.args.place (waiting_in c.fill.new.self) (g.R.Source.left c.fill.new.self.source) _ stands (sym told.2 ∙ device))
    c.in_ok-fill.ensures.failures

pub returns-in_err-fill-2-clause-fault : goal.returns-in_err-fill-2-clause-fault
returns-in_err-fill-2-clause-fault g c =
    let a = c.args.ahead.now in
    let order = c.args.header.order in
    let unit = c.args.header.unit in
    let told = err_from_is_err_and c.from_residual-in_err-fill-2.result c.from_residual-in_err-fill-2.ensures.1 in
    let more = c.in_err-fill-2.ensures.grows in
    let header = IsRecordHeader-grown g.R.Source.left order unit c.waiting-text.result.now c.read.new.self c.fill.new.self c.fill-2.new.self c.in_ok-read.ensures.ok c.waiting-text.ensures.value more in
    rw told.1 (
      Grows-trans g.R.Source.left a c.fill.new.self c.fill-2.new.self c.in_ok-fill.ensures.grows more,
      inl (told.2, NoRecord-short order unit (waiting_in c.fill-2.new.self) c.read.new.self header c.in_err-fill-2.ensures.short),
    )

pub returns-then-waiting-size-clause-fault : goal.returns-then-waiting-size-clause-fault
returns-then-waiting-size-clause-fault g c =
    let a = c.args.ahead.now in
    let order = c.args.header.order in
    let unit = c.args.header.unit in
    let text = waiting_in c.fill-2.new.self in
    let more = c.in_ok-fill-2.ensures.grows in
    let header = IsRecordHeader-grown g.R.Source.left order unit c.waiting-text.result.now c.read.new.self c.fill.new.self c.fill-2.new.self c.in_ok-read.ensures.ok c.waiting-text.ensures.value more in
    let short : length text < 16 + c.read.new.self.captured = subst (λ (t : List ℕ). length t < 16 + c.read.new.self.captured) c.waiting.ensures.value c.if-waiting-size.true in
    let torn = torn_stands order unit c.args.place text c.read.new.self header short in (
      Grows-trans g.R.Source.left a c.fill.new.self c.fill-2.new.self c.in_ok-fill.ensures.grows more,
      inr (torn_rest order unit c.args.place text (g.R.Source.left c.fill-2.new.self.source) (16 + c.read.new.self.captured) c.in_ok-fill-2.ensures.enough short torn),
    )

pub returns-clause-packet : goal.returns-clause-packet
returns-clause-packet g c = λ _.
    let a = c.args.ahead.now in
    let order = c.args.header.order in
    let unit = c.args.header.unit in
    let text = waiting_in c.fill-2.new.self in
    let more = c.in_ok-fill-2.ensures.grows in
    let header = IsRecordHeader-grown g.R.Source.left order unit c.waiting-text.result.now c.read.new.self c.fill.new.self c.fill-2.new.self c.in_ok-read.ensures.ok c.waiting-text.ensures.value more in
    let whole : 16 + c.read.new.self.captured ≤ length text = subst (λ (t : List ℕ). 16 + c.read.new.self.captured ≤ length t) c.waiting.ensures.value c.if-waiting-size.false in
    let all = Grows-trans g.R.Source.left a c.fill.new.self c.fill-2.new.self c.in_ok-fill.ensures.grows more in (
      all.0,
      subst (λ (s : g.row.R.Denot). Consumes (g.R.Source.left a.source) (g.R.Source.left s) all.0) (sym c.pass.ensures.source) all.2,
      subst (λ (t : List ℕ). IsRecord order unit t (packet c.read.new.self.sec c.read.new.self.nanos c.read.new.self.len (lent_by c.pass.new.self)) (waiting_in c.pass.new.self)) all.1
          (record_stands order unit text (lent_by c.pass.new.self) (waiting_in c.pass.new.self) c.read.new.self header whole c.pass.ensures.lent c.pass.ensures.waiting),
    )

pub returns-in_err-fill-clause-idle : goal.returns-in_err-fill-clause-idle
returns-in_err-fill-clause-idle g c = λ p after is. ap (λ (a : Ahead g.row.R.Denot). a.source) (c.in_err-fill.ensures.idle is.size)

pub returns-in_err-fill-2-clause-idle : goal.returns-in_err-fill-2-clause-idle
returns-in_err-fill-2-clause-idle g c = λ p after is.
    not_asked c.args.header.order c.args.header.unit c.waiting-text.result.now c.read.new.self c.args.ahead.now c.fill.new.self c.fill-2.new.self p after c.in_ok-read.ensures.ok c.waiting-text.ensures.value c.in_ok-fill.ensures.idle c.in_err-fill-2.ensures.idle is

pub returns-then-waiting-size-clause-idle : goal.returns-then-waiting-size-clause-idle
returns-then-waiting-size-clause-idle g c = λ p after is.
    not_asked c.args.header.order c.args.header.unit c.waiting-text.result.now c.read.new.self c.args.ahead.now c.fill.new.self c.fill-2.new.self p after c.in_ok-read.ensures.ok c.waiting-text.ensures.value c.in_ok-fill.ensures.idle c.in_ok-fill-2.ensures.idle is

pub returns-clause-idle : goal.returns-clause-idle
returns-clause-idle g c = λ p after is.
    c.pass.ensures.source ∙ not_asked c.args.header.order c.args.header.unit c.waiting-text.result.now c.read.new.self c.args.ahead.now c.fill.new.self c.fill-2.new.self p after c.in_ok-read.ensures.ok c.waiting-text.ensures.value c.in_ok-fill.ensures.idle c.in_ok-fill-2.ensures.idle is

pub returns-in_err-fill-clause-device : goal.returns-in_err-fill-clause-device
returns-in_err-fill-clause-device g c =
    let told = err_from_is_err_and c.from_residual.result c.from_residual.ensures.1 in
    device_failed c.from_residual.result told.0 _ _ told.1 told.2 c.in_err-fill.ensures.failures

pub returns-in_err-fill-2-clause-device : goal.returns-in_err-fill-2-clause-device
returns-in_err-fill-2-clause-device g c =
    let told = err_from_is_err_and c.from_residual-in_err-fill-2.result c.from_residual-in_err-fill-2.ensures.1 in
    device_failed c.from_residual-in_err-fill-2.result told.0 _ _ told.1 told.2 (c.in_err-fill-2.ensures.failures ∙ ap (λ (n : ℕ). (n + 1) % 2 ^ 64) c.in_ok-fill.ensures.failures)

pub returns-then-is_empty-clause-packet : goal.returns-then-is_empty-clause-packet
returns-then-is_empty-clause-packet g c = λ e. cc

pub returns-then-is_empty-clause-writable : goal.returns-then-is_empty-clause-writable
returns-then-is_empty-clause-writable g c = λ e. cc

pub returns-then-waiting-size-clause-packet : goal.returns-then-waiting-size-clause-packet
returns-then-waiting-size-clause-packet g c = λ e. cc

pub returns-then-waiting-size-clause-writable : goal.returns-then-waiting-size-clause-writable
returns-then-waiting-size-clause-writable g c = λ e. cc

pub returns-then-waiting-size-clause-end : goal.returns-then-waiting-size-clause-end
returns-then-waiting-size-clause-end g c = λ e. cc

pub returns-then-waiting-size-clause-device : goal.returns-then-waiting-size-clause-device
returns-then-waiting-size-clause-device g c =
    no_device_failed _ _ _ _ refl (λ e. cc) (c.in_ok-fill-2.ensures.failures ∙ c.in_ok-fill.ensures.failures)

pub pass-requires : goal.pass-requires
pass-requires g c = subst (λ (t : List ℕ). 16 + c.read.new.self.captured ≤ length t) c.waiting.ensures.value c.if-waiting-size.false

pub returns-clause-writable : goal.returns-clause-writable
returns-clause-writable g c = λ _.
    let header = IsRecordHeader-grown g.R.Source.left c.args.header.order c.args.header.unit c.waiting-text.result.now c.read.new.self c.fill.new.self c.fill-2.new.self c.in_ok-read.ensures.ok c.waiting-text.ensures.value c.in_ok-fill-2.ensures.grows in
    header_writable c.args.header.order c.args.header.unit (waiting_in c.fill-2.new.self) (lent_by c.pass.new.self) c.read.new.self header c.pass.ensures.lent

pub returns-then-is_empty-clause-end : goal.returns-then-is_empty-clause-end
returns-then-is_empty-clause-end g c = λ _.
    let met = end_met _ _ _ c.waiting-text.ensures.value (sym c.is_empty.ensures ∙ c.if-is_empty.true) c.in_ok-fill.ensures.enough in
    (c.in_ok-fill.ensures.grows, met.0, met.1)
