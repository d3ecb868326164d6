-- `secondary_leave::drain_step` meets its contract: the element that a look finds is removed.
use mathlib.Core.Path.{sym}
use native.Mathlib.Omega.{arith}
use Rattle.map.proofs.Drains.{seen, seen_high, drain_empty, drain_takes, drain-done, drain-refused}
use Rattle.secondary_leave.proofs.drain_step.Goals as goal

pub returns-then-h-eq0 : goal.returns-then-h-eq0
returns-then-h-eq0 c = sym (drain_empty _ _ _ _ _ (seen _ _ _ _ _ (rw c.in-Ok-Some.field-0-is at c.in-Ok-Some.ensures)) c.if-h-eq0.true)

pub overflow_sub-i : goal.overflow_sub-i
overflow_sub-i c = (seen _ _ _ _ _ (rw c.in-Ok-Some.field-0-is at c.in-Ok-Some.ensures)).one

pub vacate-g-requires : goal.vacate-g-requires
vacate-g-requires c = omega (arith, seen_high _ _ _ _ _ (seen _ _ _ _ _ (rw c.in-Ok-Some.field-0-is at c.in-Ok-Some.ensures)))

pub returns-else-h-eq0 : goal.returns-else-h-eq0
returns-else-h-eq0 c =
    rw c.vacate-g.ensures (sym (drain_takes _ _ _ _ _ (seen _ _ _ _ _ (rw c.in-Ok-Some.field-0-is at c.in-Ok-Some.ensures)) c.if-h-eq0.false))

pub returns-in-Ok-None : goal.returns-in-Ok-None
returns-in-Ok-None c = sym (drain-done _ _ (rw c.in-Ok-None.field-0-is at c.in-Ok-None.ensures))

pub returns-in-Err : goal.returns-in-Err
returns-in-Err c = sym (drain-refused _ _ _ c.in-Err.ensures)
