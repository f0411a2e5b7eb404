-- How many signs may still be open.
use Rattle.std.proofs.Common.{◌≡◌, ℕ, zero, suc, ◌<◌, ◌-◌, Bool, true, false, Some, None, refl, arith, ap}
use Rattle.std.specs.Prelude.{◌&&◌}
use Rattle.filter_print.specs.Parentheses.{behind}

-- after the last one none is
pub behind_none : (levels : ℕ) → levels ≡ 0 → behind true levels ≡ None
behind_none zero e = refl
behind_none (suc levels) e = absurd (omega arith)

-- after another one a level less is left
pub behind_less : (levels : ℕ) → 0 < levels → behind true levels ≡ Some (levels - 1)
behind_less zero h = absurd (omega arith)
behind_less (suc levels) h = ap Some (omega arith)

-- what never fits on the right never fits
pub never : (b : Bool) → (b && false) ≡ false
never true = refl
never false = refl
