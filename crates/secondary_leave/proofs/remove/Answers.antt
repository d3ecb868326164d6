-- `secondary_leave::remove` meets its contract: the slot that is left is one of the arrays.
use mathlib.Core.Path.{sym}
use native.Mathlib.Omega.{arith}
use Rattle.map.proofs.Stands.{leaves}
use Rattle.secondary_leave.proofs.remove.Goals as goal

pub offset_bounds-values-i : goal.offset_bounds-values-i
offset_bounds-values-i c = omega (arith, leaves _ _ _ (sym c.in-Ok.ensures))

pub bounds-values-i : goal.bounds-values-i
bounds-values-i c = omega (arith, leaves _ _ _ (sym c.in-Ok.ensures))

pub vacate-g-requires : goal.vacate-g-requires
vacate-g-requires c = omega (arith, leaves _ _ _ (sym c.in-Ok.ensures))
