-- Answers that were followed.
use Rattle.std.proofs.Common.{◌≡◌, List, [], ◌∷◌, ◌++◌, Option, Some, None, option_map, map, sym, ◌∙◌, subst}
use Rattle.std.specs.Prelude.{Vec, unwrap_or}
use Rattle.std.specs.List.{AllZip}
use Rattle.std.specs.declared.alloc.Global.{Global}
use Rattle.std.proofs.lemmas.List.{map-append}
use Rattle.tap_steps.specs.declared.answer.Answered.{Answered}
use Rattle.tap_steps.specs.Watching.{Watch, IsFollowed}
use Rattle.tap_steps.proofs.Counting.{zip_push}

-- what a listener hands over is what was followed, and nothing where nothing was
pub is_followed : (w : Watch) (own : Option (Vec Answered Global)) (other : Vec Answered Global) → option_map (λ a. a.items) own ≡ w.answers → IsFollowed w (unwrap_or own other).items
is_followed w None other e followed is = absurd (let d : None ≡ Some followed = e ∙ is in cc)
is_followed w (Some v) other e followed is = let d : Some v.items ≡ Some followed = e ∙ is in cc

pub followed-push : (ws : List Watch) (all : List (Vec Answered Global)) (w : Watch) (own : Vec Answered Global) → AllZip IsFollowed ws (map (λ a. a.items) all) → IsFollowed w own.items →
    AllZip IsFollowed (ws ++ w ∷ []) (map (λ a. a.items) (all ++ own ∷ []))
followed-push ws all w own z f =
    subst (AllZip IsFollowed (ws ++ w ∷ [])) (sym (map-append (λ a. a.items) all (own ∷ []))) (zip_push IsFollowed ws (map (λ a. a.items) all) w own.items z f)
