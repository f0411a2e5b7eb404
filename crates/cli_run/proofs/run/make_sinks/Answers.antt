use Rattle.std.proofs.Common.{[], rules, of_calls}
use Rattle.listener.specs.declared.mode.Mode.TheVariants.{Buffered}
use Rattle.cli_run.specs.declared.plan.RunLine.{RunLine}
use Rattle.cli_run.proofs.Ran.{made_more}
use Rattle.cli_run.proofs.run.make_sinks.Goals as goal

-- what a place past the lines would have
abbrev nothing : RunLine
nothing = record {
  interface = 0;
  flush_every = 0;
  snap = 0;
  capacity = 0;
  mode = Buffered;
  spares = 0;
  output = record { ref_ptr = (0, 0); now = [] };
  expression = record { ref_ptr = (0, 0); now = [] };
}

pub loop-line-preserved : goal.loop-line-preserved
loop-line-preserved g c = record {
  callable = search (rules, of_calls);
  made = rw c.in_ok-push.ensures.items (made_more _ c.args.make c.args.lines.now c.loop-line.sinks.items c.loop-line.make c.loop-line.line-index nothing c.make.result c.make.new.self c.loop-line-test.true c.loop-line.invariant.made c.make.ensures);
}
