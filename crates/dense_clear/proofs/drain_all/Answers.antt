-- `dense_clear::drain_all` meets its contract.
use mathlib.Core.Path.{ap}
use native.Mathlib.Omega.{arith}
use Rattle.table.specs.Calls.{Out}
use Rattle.dense_clear.proofs.Draining.{draining_begins, draining_less, draining_goes, draining_ends}
use Rattle.dense_clear.proofs.drain_all.Goals as goal

pub loop-g-init : goal.loop-g-init
loop-g-init c = draining_begins _ c.requires

pub loop-g-smaller : goal.loop-g-smaller
loop-g-smaller c =
    draining_less _ _ _ c.loop-g.invariant (omega (arith, c.loop-g-test.true))
    (ap (λ (o : Out). o.1) c.drain_step-step.ensures)

pub loop-g-preserved : goal.loop-g-preserved
loop-g-preserved c =
    draining_goes _ _ _ c.loop-g.invariant (omega (arith, c.loop-g-test.true))
    (ap (λ (o : Out). o.1) c.drain_step-step.ensures)

pub returns : goal.returns
returns c = draining_ends _ _ c.loop-g.invariant c.loop-g-test.false
