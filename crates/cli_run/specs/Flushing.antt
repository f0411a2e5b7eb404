-- What emptying the buffers before the OUTs leaves of the reports.
use Rattle.std.specs.Prelude.{◌≡◌, ℕ, ◌⊎◌, List, [], Option}
use Rattle.std.specs.Io.Buffered.{writer_buffer, writer_contents, writer_inner}
use Rattle.std.specs.Io.KnownBytes.{Keeps}
use Rattle.std.specs.List.{AllZip}
use Rattle.std.specs.declared.alloc.Global.{Global}
use Rattle.std.specs.declared.io.buffered.BufWriter.{BufWriter}
use Rattle.savefile.specs.declared.device.Counted.{Counted}
use Rattle.replay_types.specs.declared.report.InterfaceReport.{InterfaceReport}
use Rattle.replay_types.specs.declared.report.ListenerReport.{ListenerReport}
use Rattle.replay_types.specs.declared.report.TaskEnd.{TaskEnd}
use Rattle.replay_types.specs.declared.report.TaskEnd.TheVariants.{Write, Unfinished}
use Rattle.cli_run.specs.declared.tally.CountingCapture.{CountingCapture}

-- the writer of an OUT: a buffer before what counts
abbrev pub Output : Type 0 → Type 0
Output W = Counted (BufWriter (CountingCapture W) Global)

-- how many bytes OUT itself took, modulo 2^64
abbrev pub bytes_of : {W : Type 0} → CountingCapture W → ℕ
bytes_of out = out.bytes

-- how many packets are whole in them
abbrev pub packets_of : {W : Type 0} → CountingCapture W → ℕ
packets_of out = out.packets.whole

-- no write failed
abbrev pub IsUnbroken : TaskEnd → Type 0
IsUnbroken (Write bytes) = ⊥
IsUnbroken end = Unit {0}

-- how an end reads if OUT failed after this many bytes; a listener that did not hand over its end stays Unfinished
abbrev pub failed_end : ℕ → TaskEnd → TaskEnd
failed_end bytes Unfinished = Unfinished
failed_end bytes end = Write bytes

-- OUT has all that was written: its report stays
abbrev pub WentWell : {W : Type 0} → ListenerReport (Output W) → ListenerReport (Output W) → Type 0
WentWell before after =
    (writer_buffer after.sink.inner ≡ []) × IsUnbroken before.end × (after.end ≡ before.end) × (after.written ≡ before.written)

-- OUT failed, now or before: what it has is reported
abbrev pub Failed : {W : Type 0} → ListenerReport (Output W) → ListenerReport (Output W) → Type 0
Failed before after =
    let out = writer_inner after.sink.inner in
    (after.end ≡ failed_end (bytes_of out) before.end) × (after.written ≡ packets_of out)

-- The buffer before an OUT was emptied, or OUT failed: what was counted stays, and no byte is lost or made.
pub record IsFlushed {W : Type 0} (contents : W → Option (List ℕ)) (before after : ListenerReport (Output W)) : Type 0 where
  pub received : after.received ≡ before.received
  pub matched : after.matched ≡ before.matched
  pub dropped : after.dropped ≡ before.dropped
  pub sent : after.sent ≡ before.sent
  pub past : after.past ≡ before.past
  pub failures : after.sink.failures ≡ before.sink.failures
  pub bytes : Keeps (writer_contents (λ out. contents out.inner) before.sink.inner) (writer_contents (λ out. contents out.inner) after.sink.inner)
  pub ends : WentWell before after ⊎ Failed before after

-- the same of each listener of an interface
pub record AreFlushed {R W : Type 0} (contents : W → Option (List ℕ)) (before after : InterfaceReport R (Output W)) : Type 0 where
  pub end : after.end ≡ before.end
  pub sources : after.sources ≡ before.sources
  pub listeners : AllZip (IsFlushed contents) before.listeners.items after.listeners.items
