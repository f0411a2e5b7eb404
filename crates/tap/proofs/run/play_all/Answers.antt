use Rattle.std.proofs.Common.{All, inl, inr, sym, ap, ◌∙◌, subst, arith}
use Rattle.std.proofs.lemmas.List.{length-map}
use Rattle.tap_steps.specs.OwnSteps.{Names}
use Rattle.tap.specs.Opening.{Opened}
use Rattle.tap_steps.specs.Watching.{played}
use Rattle.tap_steps.proofs.Counting.{zip_length}
use Rattle.tap.proofs.Headline.{fit_opened, stand_opened}
use Rattle.tap.proofs.run.play_all.Goals as goal

pub play-requires-clause-names : goal.play-requires-clause-names
play-requires-clause-names c = subst (λ n. All (Names n) c.args.steps.now) (sym (zip_length (Opened c.args.traced) _ _ c.in_ok-watched.ensures.ok)) c.in_default.ensures

pub play-requires-clause-fit : goal.play-requires-clause-fit
play-requires-clause-fit c = fit_opened c.args.traced _ c.args.specs.now c.in_ok-watched.watched.items (omega (arith, c.as_slice.type_inv.0)) c.in_ok-watched.ensures.ok

pub returns-clause-ok : goal.returns-clause-ok
returns-clause-ok c =
    let ws = c.in_ok-watched.watched.items in
    record {
      of_captures = c.in_ok-playlist.ensures.ok;
      packets = c.in_ok-playlist.ensures.packets;
      began = ws;
      opened = c.in_ok-watched.ensures.ok;
      ends = c.in_ok-play.ensures ∙ ap (λ p. played c.args.steps.now p ws) c.as_slice.ensures.value;
    }

pub returns-clause-stands : goal.returns-clause-stands
returns-clause-stands c = record {
  number = λ h. elim h [ inl many ↦ absurd (omega arith) | inr many ↦ absurd (omega (arith, length-map c.args.captures.now (λ r. r.now))) ];
  all_name = c.in_default.ensures;
  headers = c.in_ok-playlist.ensures.stand;
  listeners = stand_opened c.args.traced _ _ c.in_ok-watched.ensures.ok;
}
