-- `secondary_disjoint::fill` meets its contract: each turn puts one slot into the output.
use mathlib.Core.Path.{◌≡◌}
use Prim.Native.Nat.{◌+◌}
use lib.ListN.{drop}
use Rattle.lists.specs.Put.{put}
use Rattle.map.specs.Refused.{indexes}
use Rattle.secondary_disjoint.proofs.fill.Given as goal

abbrev pub invariant-loop-n : goal.invariant-loop-n
invariant-loop-n l = put l.out (0 + l.n) (drop l.n (indexes l.keys)) ≡ put l.initial.out 0 (indexes l.keys)
