-- `secondary_put::fresh` meets its contract: the lengths tell that there is a slot 0.
use native.Mathlib.Omega.{arith}
use Rattle.lists.proofs.Tests.{confirmed}
use Rattle.map.proofs.Shaped.{fits}
use Rattle.secondary_put.proofs.fresh.Goals as goal

pub bounds-versions-0 : goal.bounds-versions-0
bounds-versions-0 c = omega (arith, fits _ _ (confirmed c.lengths_fit.ensures c.if-not-lengths_fit.false))
