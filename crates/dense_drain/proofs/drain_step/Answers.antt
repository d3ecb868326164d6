-- `dense_drain::drain_step` meets its contract: shape, done, then the last slot.
use native.Mathlib.Omega.{arith}
use mathlib.Core.Path.{refl, ◌∙◌, sym}
use Rattle.table.specs.Table.{freed}
use Rattle.table.specs.Calls.{drain}
use Rattle.table.proofs.Shape.{shape}
use Rattle.table.proofs.Storing.{due_at, drain-done, drain_damaged, drain-took}
use Rattle.dense.proofs.Shape.{shape_of_view}
use Rattle.dense_drain.proofs.drain_step.Goals as goal

pub returns-in-Err : goal.returns-in-Err
unfolding drain
returns-in-Err c = simp (c.in-Err.ensures.0, c.in-Err.ensures.1)

pub returns-then-h-eq0 : goal.returns-then-h-eq0
returns-then-h-eq0 c = drain-done _ (shape_of_view c.in-Ok.table c.in-Ok.ensures) c.if-h-eq0.true

pub take_last-requires : goal.take_last-requires
take_last-requires c =
    let sh = shape _ (shape_of_view c.in-Ok.table c.in-Ok.ensures) in
    let d = due_at _ _ (sym (rw c.in-Ok.ensures at c.in-Ok-last_slot.ensures)) in
    (sh, (omega arith, omega (arith, d.0, d.1)))

pub returns-in-Ok-last_slot : goal.returns-in-Ok-last_slot
unfolding freed
returns-in-Ok-last_slot c =
    c.take_last.ensures ∙ drain-took _ (shape_of_view c.in-Ok.table c.in-Ok.ensures) c.if-h-eq0.false _ (sym (rw c.in-Ok.ensures at c.in-Ok-last_slot.ensures)) _ _ refl refl

pub returns-in-Err-last_slot : goal.returns-in-Err-last_slot
returns-in-Err-last_slot c = drain_damaged _ (shape_of_view c.in-Ok.table c.in-Ok.ensures) c.if-h-eq0.false _ (rw c.in-Ok.ensures at c.in-Err-last_slot.ensures)
