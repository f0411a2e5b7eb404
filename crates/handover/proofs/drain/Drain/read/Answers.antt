use Rattle.std.proofs.Common.{[], ◌∷◌, ◌++◌, arith, sym, ap, ◌∙◌, subst}
use Rattle.atomic_table.specs.Table.{rest}
use Rattle.listener.specs.Buffers.{filled}
use Rattle.handover.specs.declared.calls.Take.TheVariants as take
use Rattle.handover.specs.Ends.{Draining}
use Rattle.handover.specs.Steps.{GrewByRead}
use Rattle.handover.proofs.Steps.{looks_ended, looks_turn, clears}
use Rattle.handover.proofs.Seats.{ended_seen, saw_ended, brought, took_full}
use Rattle.handover.specs.Rule.{known}
use Rattle.handover.proofs.drain.Drain.read.Goals as goal

pub load-ended-requires : goal.load-ended-requires
load-ended-requires c = (ap (λ d. d.pair) c.self.view_is ∙ c.requires.pair ∙ sym c.link.view_is, omega arith, looks_ended _ _ _ _ c.self.invariant.0.role)

pub load-full-requires : goal.load-full-requires
load-full-requires c =
    let m = known c.self.inside.seat.me in
    let n = known c.load-ended.new.seat.me in
    let seen = ended_seen m n c.load-ended.result c.load-ended.ensures.2.0 in
    let d = saw_ended m n seen.0 c.self.invariant.0 seen.2 in
    (c.load-ended.ensures.0 ∙ ap (λ d. d.pair) c.self.view_is ∙ c.requires.pair ∙ sym c.link.view_is, omega arith, looks_turn c.link.inside.table.shared.key _ _ c.load-ended.new.seat.me d.role d.closed d.calm)

pub exchange-hold-requires : goal.exchange-hold-requires
exchange-hold-requires c =
    let t = (c.load-full.ensures.2.0.1 c.if-full-ne0.true).1 in
    let b = filled c.load-ended.new.seat.me.0.view.profile.capacity t.0 in
    let at = ap (λ m. m.1) t.1 in
    (c.load-full.ensures.0 ∙ c.load-ended.ensures.0 ∙ ap (λ d. d.pair) c.self.view_is ∙ c.requires.pair ∙ sym c.link.view_is, (b, at ∙ ap (λ l. (0, b) ∷ rest l) (sym at)))

pub store-requires : goal.store-requires
store-requires c =
    let m = known c.self.inside.seat.me in
    let n = known c.load-ended.new.seat.me in
    let p = known c.exchange-hold.new.seat.me in
    let seen = ended_seen m n c.load-ended.result c.load-ended.ensures.2.0 in
    let t = (c.load-full.ensures.2.0.1 c.if-full-ne0.true).1 in
    let none = c.requires.empty ∙ ap (λ d. filled d.profile.capacity []) (sym c.self.view_is) in
    let b = brought m n (known c.load-full.new.seat.me) p seen.0 c.args.empty t.0 c.self.invariant.0 none seen.2 t.1 (ap known c.exchange-hold.ensures.3) in (
      c.exchange-hold.ensures.0 ∙ c.load-full.ensures.0 ∙ c.load-ended.ensures.0 ∙ ap (λ d. d.pair) c.self.view_is ∙ c.requires.pair ∙ sym c.link.view_is,
      omega arith,
      clears c.link.inside.table.shared.key _ _ c.exchange-hold.new.seat.me t.0 b.role b.closed b.taking b.slot,
    )

pub invariant_of-self : goal.invariant_of-self
invariant_of-self c =
    let none = c.requires.empty ∙ ap (λ d. filled d.profile.capacity []) (sym c.self.view_is) in
    let k = took_full _ _ _ _ _ _ _ _ _ c.exchange-hold.result c.self.invariant.0 none c.load-ended.ensures.2.0 c.load-full.ensures.2.0 c.if-full-ne0.true c.exchange-hold.ensures.2 (ap known c.exchange-hold.ensures.3) c.store.ensures.2.0 in
    (k.0.drain, c.self.invariant.1 ∙ sym (ap (λ p. p.capacity) k.0.profile))

pub returns-then-full-ne0-clause-same : goal.returns-then-full-ne0-clause-same
returns-then-full-ne0-clause-same c =
    let none = c.requires.empty ∙ ap (λ d. filled d.profile.capacity []) (sym c.self.view_is) in
    let k = took_full _ _ _ _ _ _ _ _ _ c.exchange-hold.result c.self.invariant.0 none c.load-ended.ensures.2.0 c.load-full.ensures.2.0 c.if-full-ne0.true c.exchange-hold.ensures.2 (ap known c.exchange-hold.ensures.3) c.store.ensures.2.0 in
    record {
      pair = c.store.ensures.0 ∙ c.exchange-hold.ensures.0 ∙ c.load-full.ensures.0 ∙ c.load-ended.ensures.0 ∙ ap (λ d. d.pair) c.self.view_is;
      profile = k.0.profile ∙ ap (λ d. d.profile) c.self.view_is;
    }

pub returns-then-full-ne0-clause-call : goal.returns-then-full-ne0-clause-call
returns-then-full-ne0-clause-call c =
    let none = c.requires.empty ∙ ap (λ d. filled d.profile.capacity []) (sym c.self.view_is) in
    let k = took_full _ _ _ _ _ _ _ _ _ c.exchange-hold.result c.self.invariant.0 none c.load-ended.ensures.2.0 c.load-full.ensures.2.0 c.if-full-ne0.true c.exchange-hold.ensures.2 (ap known c.exchange-hold.ensures.3) c.store.ensures.2.0 in
    k.0.takes ∙ ap (λ d. d.takes ++ take.Full c.exchange-hold.result.messages ∷ []) c.self.view_is

pub returns-then-full-ne0-clause-steps : goal.returns-then-full-ne0-clause-steps
returns-then-full-ne0-clause-steps c =
    let none = c.requires.empty ∙ ap (λ d. filled d.profile.capacity []) (sym c.self.view_is) in
    let k = took_full _ _ _ _ _ _ _ _ _ c.exchange-hold.result c.self.invariant.0 none c.load-ended.ensures.2.0 c.load-full.ensures.2.0 c.if-full-ne0.true c.exchange-hold.ensures.2 (ap known c.exchange-hold.ensures.3) c.store.ensures.2.0 in
    subst (λ (d : Draining). GrewByRead (take.Full c.exchange-hold.result.messages) d.steps c.store.new.seat.me.0.view.take_steps) c.self.view_is k.0.steps

pub returns-then-full-ne0-clause-buffer : goal.returns-then-full-ne0-clause-buffer
returns-then-full-ne0-clause-buffer c =
    let none = c.requires.empty ∙ ap (λ d. filled d.profile.capacity []) (sym c.self.view_is) in
    let k = took_full _ _ _ _ _ _ _ _ _ c.exchange-hold.result c.self.invariant.0 none c.load-ended.ensures.2.0 c.load-full.ensures.2.0 c.if-full-ne0.true c.exchange-hold.ensures.2 (ap known c.exchange-hold.ensures.3) c.store.ensures.2.0 in
    k.1 ∙ ap (λ d. d.profile.capacity) c.self.view_is

pub returns-then-full-ne0-clause-taken : goal.returns-then-full-ne0-clause-taken
returns-then-full-ne0-clause-taken c =
    let none = c.requires.empty ∙ ap (λ d. filled d.profile.capacity []) (sym c.self.view_is) in
    let k = took_full _ _ _ _ _ _ _ _ _ c.exchange-hold.result c.self.invariant.0 none c.load-ended.ensures.2.0 c.load-full.ensures.2.0 c.if-full-ne0.true c.exchange-hold.ensures.2 (ap known c.exchange-hold.ensures.3) c.store.ensures.2.0 in
    k.2
