use Rattle.line_text.proofs.Cuts.{if_none}
use Rattle.cli_run.proofs.Fielded.{HasNoFields, no_fields, no_words, others}
use Rattle.cli_run.proofs.plan.fields_of.Goals as goal

pub returns-in_err-interface-clause-none : goal.returns-in_err-interface-clause-none
returns-in_err-interface-clause-none c = if_none _ (HasNoFields c.args.line.now) (no_fields _ (no_words 4 _ c.in_err-interface.ensures.none))

pub returns-in_err-flush_every-clause-none : goal.returns-in_err-flush_every-clause-none
returns-in_err-flush_every-clause-none c = if_none _ (HasNoFields c.args.line.now) (no_fields _ (λ has.
    no_words 3 _ c.in_err-flush_every.ensures.none
    (others 4 _ _ _ c.in_ok-interface.ensures.parts c.in_ok-interface.ensures.first has)))

pub returns-in_err-snap-clause-none : goal.returns-in_err-snap-clause-none
returns-in_err-snap-clause-none c = if_none _ (HasNoFields c.args.line.now) (no_fields _ (λ has.
    no_words 2 _ c.in_err-snap.ensures.none
    (others 3 _ _ _ c.in_ok-flush_every.ensures.parts c.in_ok-flush_every.ensures.first
    (others 4 _ _ _ c.in_ok-interface.ensures.parts c.in_ok-interface.ensures.first has))))

pub returns-in_err-capacity-clause-none : goal.returns-in_err-capacity-clause-none
returns-in_err-capacity-clause-none c = if_none _ (HasNoFields c.args.line.now) (no_fields _ (λ has.
    no_words 1 _ c.in_err-capacity.ensures.none
    (others 2 _ _ _ c.in_ok-snap.ensures.parts c.in_ok-snap.ensures.first
    (others 3 _ _ _ c.in_ok-flush_every.ensures.parts c.in_ok-flush_every.ensures.first
    (others 4 _ _ _ c.in_ok-interface.ensures.parts c.in_ok-interface.ensures.first has)))))

pub returns-in_err-spares-clause-none : goal.returns-in_err-spares-clause-none
returns-in_err-spares-clause-none c = if_none _ (HasNoFields c.args.line.now) (no_fields _ (λ has.
    no_words 0 _ c.in_err-spares.ensures.none
    (others 1 _ _ _ c.in_ok-capacity.ensures.parts c.in_ok-capacity.ensures.first
    (others 2 _ _ _ c.in_ok-snap.ensures.parts c.in_ok-snap.ensures.first
    (others 3 _ _ _ c.in_ok-flush_every.ensures.parts c.in_ok-flush_every.ensures.first
    (others 4 _ _ _ c.in_ok-interface.ensures.parts c.in_ok-interface.ensures.first has))))))
