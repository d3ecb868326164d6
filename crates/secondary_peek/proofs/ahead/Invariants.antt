-- `secondary_peek::ahead` meets its contract: what is left of the search is the whole search.
use mathlib.Core.Path.{◌≡◌}
use Prim.Native.Nat.{◌-◌}
use Rattle.map.specs.Calls.{seek}
use Rattle.secondary_peek.proofs.ahead.Given as goal

abbrev pub invariant-loop-i : goal.invariant-loop-i
invariant-loop-i l = seek l.versions (l.s - l.i) l.i ≡ seek l.versions (l.s - l.from) l.from
