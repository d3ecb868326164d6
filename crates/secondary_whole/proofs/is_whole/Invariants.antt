-- `secondary_whole::is_whole` meets its contract: the slots passed are counted and each is fit.
use Rattle.secondary.specs.Answers.{seen_map}
use Rattle.map.proofs.Whole.{Scanned}
use Rattle.secondary_whole.proofs.is_whole.Given as goal

abbrev pub invariant-loop-i : goal.invariant-loop-i
invariant-loop-i l = Scanned (seen_map l.view) l.n l.i
