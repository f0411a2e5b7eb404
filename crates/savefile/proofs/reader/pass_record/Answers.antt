use Rattle.std.proofs.Common.{◌+◌, [], length, drop, sym, subst, Option, IfSome}
use Rattle.std.specs.Io.KnownBytes.{Consumes}
use Rattle.std.proofs.KnownBytes.{Consumes-nil}
use Rattle.savefile.specs.declared.packet.Packet.{Packet}
use Rattle.savefile.specs.Ahead.{waiting_in, lent_by}
use Rattle.savefile.specs.Savefile.{packet, IsRecord}
use Rattle.savefile.proofs.Steps.{record_found}
use Rattle.savefile.proofs.reader.pass_record.Goals as goal

pub returns-clause-packet : goal.returns-clause-packet
returns-clause-packet g c = λ _.
    let order = c.args.header.order in
    let unit = c.args.header.unit in
    let i = c.packet.inside in
    let seen = subst (λ (next : Option Packet). IfSome next (λ p. IsRecord order unit c.waiting.result.now p (drop (16 + length p.bytes) c.waiting.result.now))) c.in-Ok-Some.field-0-is c.in-Ok-Some.ensures.packet in
    let found = subst (λ (p : Packet). IsRecord order unit c.waiting.result.now p (drop (16 + length p.bytes) c.waiting.result.now)) (sym c.packet.view_is) seen in (
      [],
      subst (λ (s : g.row.R.Denot). Consumes (g.R.Source.left c.args.ahead.now.source) (g.R.Source.left s) []) (sym c.pass.ensures.source) (Consumes-nil _),
      record_found order unit c.waiting.result.now (waiting_in c.args.ahead.now) (lent_by c.pass.new.self) (waiting_in c.pass.new.self) (packet i.sec i.nanos i.len i.bytes.now) found
          c.waiting.ensures.value c.pass.ensures.lent c.pass.ensures.waiting,
    )
