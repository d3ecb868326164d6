-- `secondary_disjoint::mark` meets its contract: each turn marks one key more, or stops at the first that is not there.
use Rattle.secondary_disjoint.proofs.Runs.{Run}
use Rattle.secondary_disjoint.proofs.mark.Given as goal

abbrev pub invariant-loop-n : goal.invariant-loop-n
invariant-loop-n l = Run (record { versions = l.initial.versions; values = l.values; head = l.h }) l.keys l.versions l.n
