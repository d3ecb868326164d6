-- `secondary_look::is_there` meets its contract: the shape tells that the slots are within the arrays.
use native.Mathlib.Omega.{arith}
use Rattle.map.proofs.Shaped.{shaped}
use Rattle.secondary_look.proofs.is_there.Goals as goal

pub bounds-versions-i : goal.bounds-versions-i
bounds-versions-i c = omega (arith, shaped _ c.args.map.shape)
