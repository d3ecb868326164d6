-- `secondary_put::put` meets its contract: the slot of a key that is there is one of the arrays.
use mathlib.Core.Path.{sym}
use native.Mathlib.Omega.{arith}
use Rattle.map.proofs.Stands.{stands}
use Rattle.secondary_put.proofs.put.Goals as goal

pub offset_bounds-values-i : goal.offset_bounds-values-i
offset_bounds-values-i c = omega (arith, stands _ _ _ (sym c.in_ok-i.ensures))

pub bounds-values-i : goal.bounds-values-i
bounds-values-i c = omega (arith, stands _ _ _ (sym c.in_ok-i.ensures))

pub offset_bounds-values-i-2 : goal.offset_bounds-values-i-2
offset_bounds-values-i-2 c = omega (arith, stands _ _ _ (sym c.in_ok-i.ensures))

pub bounds-values-i-2 : goal.bounds-values-i-2
bounds-values-i-2 c = omega (arith, stands _ _ _ (sym c.in_ok-i.ensures))
