-- `number_at` reads digit by digit: the value so far, read on, is the value of all digits. A value above the limit is seen before it is made,
-- and values only grow.
use Prim.Native.Nat.{◌-◌}
use lib.ListN.{length}
use Rattle.fields.proofs.Numbers.{Reading}
use Rattle.fields.proofs.number_at.Given as goal

abbrev pub invariant-loop-d : goal.invariant-loop-d
invariant-loop-d l = Reading l.limit l.line l.at l.d l.i l.v

abbrev pub decreases-loop-d : goal.decreases-loop-d
decreases-loop-d l = length l.line - l.i
