-- `secondary_sweep::drain_all` meets its contract: each step goes on past vacant slots, so it is a step from the front.
use Rattle.secondary_sweep.proofs.Turns.{Draining}
use Rattle.secondary_sweep.proofs.drain_all.Given as goal

abbrev pub invariant-loop-element : goal.invariant-loop-element
invariant-loop-element l = Draining (record { versions = l.initial.versions; values = l.values; head = l.initial.g })
    (record { versions = l.versions; values = l.values; head = l.g }) l.place

abbrev pub decreases-loop-element : goal.decreases-loop-element
decreases-loop-element l = l.g.count
