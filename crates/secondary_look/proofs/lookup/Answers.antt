-- `secondary_look::lookup` meets its contract: the slot of a key that is there is one of the arrays.
use mathlib.Core.Path.{sym}
use native.Mathlib.Omega.{arith}
use Rattle.map.proofs.Stands.{stands}
use Rattle.secondary_look.proofs.lookup.Goals as goal

pub offset_bounds-view-i : goal.offset_bounds-view-i
offset_bounds-view-i c = omega (arith, stands _ _ _ (sym c.in_ok-i.ensures))

pub bounds-view-i : goal.bounds-view-i
bounds-view-i c = omega (arith, stands _ _ _ (sym c.in_ok-i.ensures))
