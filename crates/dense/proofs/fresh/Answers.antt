-- `dense::fresh` meets its contract.
use native.Mathlib.Omega.{arith}
use Rattle.lists.proofs.Tests.{refuted, confirmed}
use Rattle.table.specs.Calls.{fresh}
use Rattle.table.proofs.Shape.{lengths}
use Rattle.dense.proofs.fresh.Goals as goal

pub returns-then-not-lengths_fit : goal.returns-then-not-lengths_fit
unfolding fresh
returns-then-not-lengths_fit c = simp (refuted c.lengths_fit.ensures c.if-not-lengths_fit.true)

pub bounds-versions-0 : goal.bounds-versions-0
bounds-versions-0 c = omega (arith, lengths _ _ _ _ (confirmed c.lengths_fit.ensures c.if-not-lengths_fit.false))

pub bounds-links-0 : goal.bounds-links-0
bounds-links-0 c = omega (arith, lengths _ _ _ _ (confirmed c.lengths_fit.ensures c.if-not-lengths_fit.false))

pub returns : goal.returns
unfolding fresh
returns c = simp (confirmed c.lengths_fit.ensures c.if-not-lengths_fit.false)
