-- `dense_clear::drain_all` meets its contract.
use Rattle.dense.specs.Lent.{table}
use Rattle.dense_clear.proofs.Draining.{Draining}
use Rattle.dense_clear.proofs.drain_all.Given as goal

abbrev pub invariant-loop-g : goal.invariant-loop-g
invariant-loop-g l = Draining (table l.initial.versions l.initial.links l.keys l.values l.initial.g) (table l.versions l.links l.keys l.values l.g)

abbrev pub decreases-loop-g : goal.decreases-loop-g
decreases-loop-g l = l.g.n
