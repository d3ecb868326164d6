-- `secondary_sweep::sieve_all` meets its contract: the slots that are left to be looked at give the run's result.
use native.Mathlib.Omega.{arith}
use Rattle.secondary_sweep.proofs.Turns.{sieving_start, sieving_turn, sieving_end}
use Rattle.secondary_sweep.proofs.sieve_all.Goals as goal

pub loop-i-init : goal.loop-i-init
loop-i-init c = sieving_start _ _ c.requires

pub sieve-g-requires : goal.sieve-g-requires
sieve-g-requires c = (c.loop-i.invariant.whole, omega (arith, c.loop-i.invariant.slots))

pub loop-i-preserved : goal.loop-i-preserved
loop-i-preserved c = sieving_turn _ _ _ _ _ _ c.loop-i.invariant c.loop-i-test.true
    c.sieve-g.ensures

pub shape_of-versions : goal.shape_of-versions
shape_of-versions c = c.loop-i.invariant.same

pub returns : goal.returns
returns c = sieving_end _ _ _ _ _ c.loop-i.invariant c.loop-i-test.false
