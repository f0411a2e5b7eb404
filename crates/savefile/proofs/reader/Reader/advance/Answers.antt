use Rattle.std.proofs.Common.{◌≡◌, true, false, [], refl, sym, ap, ◌∙◌}
use Rattle.std.proofs.KnownBytes.{Consumes-nil}
use Rattle.savefile.specs.Ahead.{waiting_in}
use Rattle.savefile.specs.Passing.{is_broken}
use Rattle.savefile.specs.Reader.{Reading}
use Rattle.savefile.specs.declared.fault.Fault.TheVariants.{CountFull, Failed}
use Rattle.savefile.proofs.Steps.{leaves_failed, met_neither}
use Rattle.savefile.proofs.Given.{begins_all, gives_packet, gives_all, gives_fault}
use Rattle.savefile.proofs.reader.Reader.advance.Goals as goal

pub returns-in-Ok-true-clause-packet : goal.returns-in-Ok-true-clause-packet
returns-in-Ok-true-clause-packet g c =
    rw (← c.self.view_is) (λ start header packets given _.
    gives_packet g.R.Source.left start header packets _ _ given refl refl refl refl (c.in-Ok-true.ensures.packet (cc)))

pub returns-in-Ok-false-clause-end : goal.returns-in-Ok-false-clause-end
returns-in-Ok-false-clause-end g c =
    let ahead = c.read_record.new.ahead in
    rw (← c.self.view_is) (λ start header packets given _.
    gives_all g.R.Source.left start header packets _ ahead.source (waiting_in ahead) given (c.in-Ok-false.ensures.end (cc)))

pub returns-in-Err-clause-cause : goal.returns-in-Err-clause-cause
returns-in-Err-clause-cause g c =
    let ahead = c.read_record.new.ahead in
    rw (← c.self.view_is) (λ start header packets given.
    gives_fault g.R.Source.left start header packets _ ahead.source (waiting_in ahead) c.in-Err.fault given c.in-Err.ensures.fault)

pub returns-in-Ended-clause-so_far : goal.returns-in-Ended-clause-so_far
returns-in-Ended-clause-so_far g c = λ start header packets given. begins_all g.R.Source.left start header packets c.args.self.now given

pub returns-in-Broken-clause-so_far : goal.returns-in-Broken-clause-so_far
returns-in-Broken-clause-so_far g c = λ start header packets given. begins_all g.R.Source.left start header packets c.args.self.now given

pub returns-then-self-clause-so_far : goal.returns-then-self-clause-so_far
returns-then-self-clause-so_far g c = λ start header packets given. begins_all g.R.Source.left start header packets c.args.self.now given

pub returns-in-Ok-true-clause-so_far : goal.returns-in-Ok-true-clause-so_far
returns-in-Ok-true-clause-so_far g c = λ start header packets given. begins_all g.R.Source.left start header packets c.args.self.now given

pub returns-in-Ok-false-clause-so_far : goal.returns-in-Ok-false-clause-so_far
returns-in-Ok-false-clause-so_far g c = λ start header packets given. begins_all g.R.Source.left start header packets c.args.self.now given

pub returns-in-Err-clause-so_far : goal.returns-in-Err-clause-so_far
returns-in-Err-clause-so_far g c = λ start header packets given. begins_all g.R.Source.left start header packets c.args.self.now given

pub returns-in-Ended-clause-taken : goal.returns-in-Ended-clause-taken
returns-in-Ended-clause-taken g c = ([], Consumes-nil _)

pub returns-in-Broken-clause-taken : goal.returns-in-Broken-clause-taken
returns-in-Broken-clause-taken g c = ([], Consumes-nil _)

pub returns-then-self-clause-taken : goal.returns-then-self-clause-taken
returns-then-self-clause-taken g c = ([], Consumes-nil _)

pub returns-in-Ok-true-clause-taken : goal.returns-in-Ok-true-clause-taken
returns-in-Ok-true-clause-taken g c =
    let passes = c.in-Ok-true.ensures.packet (cc) in
    rw (← c.self.view_is) (passes.0, passes.1)

pub returns-in-Ok-false-clause-taken : goal.returns-in-Ok-false-clause-taken
returns-in-Ok-false-clause-taken g c =
    let grows = (c.in-Ok-false.ensures.end (cc)).0 in
    rw (← c.self.view_is) (grows.0, grows.2)

pub returns-in-Err-clause-taken : goal.returns-in-Err-clause-taken
returns-in-Err-clause-taken g c =
    let grows = c.in-Err.ensures.fault.0 in
    rw (← c.self.view_is) (grows.0, grows.2)

pub returns-in-Ok-true-clause-idle : goal.returns-in-Ok-true-clause-idle
returns-in-Ok-true-clause-idle g c = rw (← c.self.view_is) c.in-Ok-true.ensures.idle

pub returns-in-Err-clause-idle : goal.returns-in-Err-clause-idle
returns-in-Err-clause-idle g c = rw (← c.self.view_is) c.in-Err.ensures.idle

pub returns-in-Err-clause-failed : goal.returns-in-Err-clause-failed
returns-in-Err-clause-failed g c =
    let r = c.self.inside in
    let neither = met_neither g.R.Source.left r.header r.given r.ahead c.read_record.new.ahead c.in-Err.fault c.in-Err.ensures.fault in
    let works : c.args.self.now.failed ≡ false = sym (ap (λ (v : Reading g.row.R.Denot). v.failed) c.self.view_is) ∙ ap is_broken c.in-Reading.is in (
      (λ e. let failed : c.in-Err.fault ≡ Failed = cc in absurd (neither.0 failed)),
      (λ failed. let clash : false ≡ true = sym works ∙ failed in absurd cc),
    )

pub returns-in-Err-clause-count_full : goal.returns-in-Err-clause-count_full
returns-in-Err-clause-count_full g c =
    let r = c.self.inside in
    let neither = met_neither g.R.Source.left r.header r.given r.ahead c.read_record.new.ahead c.in-Err.fault c.in-Err.ensures.fault in (
      (λ e. let full : c.in-Err.fault ≡ CountFull = cc in absurd (neither.1 full)),
      (λ full. absurd (c.if-self.false (ap (λ (v : Reading g.row.R.Denot). v.given) c.self.view_is ∙ full.1))),
    )

pub returns-in-Err-clause-leaves : goal.returns-in-Err-clause-leaves
returns-in-Err-clause-leaves g c =
    let r = c.self.inside in
    leaves_failed c.args.self.now _ c.in-Err.fault (met_neither g.R.Source.left r.header r.given r.ahead c.read_record.new.ahead c.in-Err.fault c.in-Err.ensures.fault) refl
