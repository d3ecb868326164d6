-- `marks::mark_all` meets its contract: what is left to mark gives the same whole at every turn.
use mathlib.Core.Path.{◌≡◌}
use lib.ListN.{drop}
use Rattle.marks.specs.Marks.{marked}
use Rattle.marks.proofs.mark_all.Given as goal

abbrev pub invariant-loop-k : goal.invariant-loop-k
invariant-loop-k l = marked l.versions (drop l.k-index l.wanted) ≡ marked l.initial.versions l.wanted
