-- Feeders of which nothing was asked yet.
use Rattle.std.proofs.Common.{◌≡◌, List, [], ◌∷◌, All, length, map, refl, ap, sym, ◌∙◌, arith, subst}
use Rattle.std.proofs.lemmas.List.Elements.{All-cons, All-head, All-nil, All-tail}
use Rattle.std.proofs.lemmas.List.{length-map}
use Rattle.replay.specs.TaskStates.{parts_line}
use Rattle.replay.specs.declared.states.task.TaskParts.{TaskParts}
use Rattle.replay.specs.Lines.{IsFresh, Line, fed_all, with_asks}

-- they are as after a playlist of no packets
pub fresh-fed : (ls : List Line) → All IsFresh ls → ls ≡ map (fed_all []) ls
fresh-fed [] h = refl
fresh-fed (l ∷ ls) h =
    ap (λ rs. with_asks l rs ∷ ls) (All-head IsFresh l ls h) ∙ ap (λ ks. fed_all [] l ∷ ks) (fresh-fed ls (All-tail IsFresh l ls h))

-- the feeders of tasks whose threads were not started are such feeders
fresh-all_parts : {W : Type 0} (all_parts : List (TaskParts W)) → All IsFresh (map parts_line all_parts)
fresh-all_parts [] = All-nil IsFresh
fresh-all_parts (s ∷ ss) = All-cons IsFresh (parts_line s) (map parts_line ss) refl (fresh-all_parts ss)

pub fresh-lines : {W : Type 0} (ls : List Line) (all_parts : List (TaskParts W)) → ls ≡ map parts_line all_parts → All IsFresh ls
fresh-lines ls all_parts e = subst (λ (ks : List Line). All IsFresh ks) (sym e) (fresh-all_parts all_parts)

-- lists of which the images are the same are as long
pub as-long : {X Y V : Type 0} (f : X → V) (g : Y → V) (xs : List X) (ys : List Y) → map f xs ≡ map g ys → length xs ≡ length ys
as-long f g xs ys e = let same = ap length e in let a = length-map xs f in let b = length-map ys g in omega (arith, same, a, b)
