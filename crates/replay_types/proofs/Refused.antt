-- The first task that is refused, and items that are all looked at.
use Rattle.std.proofs.Common.{◌≡◌, ◌≤◌, ℕ, List, All, Some, length, slice_get, subst, sym, refl, take}
use Rattle.std.proofs.lemmas.List.{take_all}
use Rattle.replay_types.specs.Refusals.{AreFew, InterfaceIsRight, IsFirst, RefusesTasks}
use Rattle.replay_types.specs.declared.fault.RunFault.{RunFault}
use Rattle.replay_types.specs.declared.fault.RunFault.TheVariants.{TooMany, Open, NoStart}
use Rattle.replay_types.specs.declared.task.Interface.{Interface}
use Rattle.replay_types.specs.declared.task.Task.{Task}

-- what refuses a task of interface i is the first fault, where no interface before it is refused
pub first-of-one : {R W : Type 0} (interfaces : List (Interface R W)) (i : ℕ) (interface : Interface R W) (fault : RunFault) → AreFew interfaces
    → slice_get interfaces i ≡ Some interface → RefusesTasks i interface.tasks.items fault → All InterfaceIsRight (take i interfaces) → IsFirst interfaces fault
first-of-one interfaces i interface TooMany few there refused before = absurd refused
first-of-one interfaces i interface NoStart few there refused before = absurd refused
first-of-one interfaces i interface (Open n k fault) few there refused before =
    (few, interface, subst (λ m. slice_get interfaces m ≡ Some interface) (sym refused.0) there, (refl, refused.1, refused.2, refused.3, refused.4), subst (λ m. All InterfaceIsRight (take m interfaces)) (sym refused.0) before)

-- no task is refused with `NoStart`
pub first-started : {W : Type 0} (i : ℕ) (tasks : List (Task W)) (fault : RunFault) → RefusesTasks i tasks fault → fault ≡ NoStart → ⊥
first-started i tasks TooMany refused e = absurd refused
first-started i tasks NoStart refused e = absurd refused
first-started i tasks (Open n k fault) refused e = absurd cc

-- what holds of all items before an index that is none of theirs holds of all
pub all-taken : {X : Type 0} (P : X → Type 0) (xs : List X) (i : ℕ) → length xs ≤ i → All P (take i xs) → All P xs
all-taken P xs i past h = subst (λ ys. All P ys) (take_all i xs past) h
