-- `dense_disjoint::disjoint` meets its contract: the marks are undone, and the first key without a place is the first that is refused.
use mathlib.Core.Path.{sym}
use Rattle.std.proofs.lemmas.Result.{err_from_is_err_and}
use Rattle.table.specs.Sweeps.{disjoint}
use Rattle.dense.proofs.Shape.{shape_of_view}
use Rattle.dense_disjoint.proofs.Leaves.{leaves_barred, leaves_short, leaves-given}
use Rattle.dense_disjoint.proofs.disjoint.Goals as goal

pub returns-in_err-with_shape : goal.returns-in_err-with_shape
unfolding disjoint
returns-in_err-with_shape c =
    let p = err_from_is_err_and c.from_residual.result c.from_residual.ensures.1 in
    rw (p.1, p.2) (simp (c.in_err-with_shape.ensures.0, c.in_err-with_shape.ensures.1))

pub returns-in_err-place : goal.returns-in_err-place
returns-in_err-place c =
    let p = err_from_is_err_and c.from_residual-in_err-place.result c.from_residual-in_err-place.ensures.1 in
    rw (p.1, p.2) (leaves_barred _ _ _ _ _ _ c.mark_placed-m.ensures
    c.mark_all.ensures
    (shape_of_view c.in_ok-with_shape.field-0 c.in_ok-with_shape.ensures)
    c.if-m-wanted.true _
    (sym c.in_err-place.ensures))

pub returns-then-m-wanted : goal.returns-then-m-wanted
returns-then-m-wanted c =
    leaves_barred _ _ _ _ _ _ c.mark_placed-m.ensures
    c.mark_all.ensures
    (shape_of_view c.in_ok-with_shape.field-0 c.in_ok-with_shape.ensures)
    c.if-m-wanted.true _
    (sym c.in_ok-place.ensures)

pub returns-then-out-wanted : goal.returns-then-out-wanted
returns-then-out-wanted c =
    leaves_short _ _ _ _ _ _ c.mark_placed-m.ensures
    c.mark_all.ensures
    (shape_of_view c.in_ok-with_shape.field-0 c.in_ok-with_shape.ensures)
    c.if-m-wanted.false c.if-out-wanted.true

pub returns : goal.returns
returns c =
    leaves-given _ _ _ _ _ _ c.mark_placed-m.ensures
    c.mark_all.ensures
    (shape_of_view c.in_ok-with_shape.field-0 c.in_ok-with_shape.ensures)
    c.if-m-wanted.false c.if-out-wanted.false _
    c.write_places.ensures
