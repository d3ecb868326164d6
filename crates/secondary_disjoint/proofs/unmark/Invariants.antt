-- `secondary_disjoint::unmark` meets its contract: each turn gives one slot its version back.
use mathlib.Core.Path.{◌≡◌}
use Rattle.secondary_disjoint.specs.Marks.{unmarked}
use Rattle.secondary_disjoint.proofs.unmark.Given as goal

abbrev pub invariant-loop-j : goal.invariant-loop-j
invariant-loop-j l = unmarked l.versions l.keys l.j ≡ unmarked l.initial.versions l.keys l.n
