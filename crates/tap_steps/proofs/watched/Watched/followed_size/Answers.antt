use Rattle.std.proofs.Common.{◌≡◌, Option, Some, None, option_map, refl, ap, ◌∙◌}
use Rattle.std.specs.Prelude.{unwrap_or}
use Rattle.listener.specs.declared.message.Message.{Message}
use Rattle.listener.specs.Messages.{size_of}
use Rattle.tap_steps.specs.Answers.{size_kept}
use Rattle.tap_steps.proofs.watched.Watched.followed_size.Goals as goal

size_is : (kept : Option Message) → unwrap_or (option_map size_of kept) 0 ≡ size_kept kept
size_is None = refl
size_is (Some m) = refl

pub returns : goal.returns
returns c followed some capture place =
    rw (← c.self.view_is) (c.unwrap_or.ensures ∙ ap (λ o. unwrap_or o 0) (c.record_size.ensures capture place) ∙ size_is _)
