-- `dense_free::is_free_list` meets its contract. The loop's invariant: what is ahead of slot g, after met steps, is what was ahead at first.
-- The measure is what is left of s steps.
use mathlib.Core.Path.{◌≡◌}
use mathlib.Core.Bool.{◌&&◌}
use Prim.Native.Nat.{◌-◌, ◌≤◌}
use lib.Dec.{eqb}
use Rattle.table.specs.Sound.{leads, steps}
use Rattle.table.proofs.Checking.{ahead}
use Rattle.dense.specs.Lent.{seen}
use Rattle.dense_free.proofs.is_free_list.Given as goal

abbrev pub invariant-loop-g : goal.invariant-loop-g
invariant-loop-g l =
    (l.met ≤ l.h.s)
    × (ahead (seen l.table.view) l.m l.met l.g
    ≡ (leads (seen l.table.view) l.h.s l.h.f && eqb (steps (seen l.table.view) l.h.s l.h.f) l.m))

abbrev pub decreases-loop-g : goal.decreases-loop-g
decreases-loop-g l = l.h.s - l.met
