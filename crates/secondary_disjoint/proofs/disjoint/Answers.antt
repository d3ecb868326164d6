-- `secondary_disjoint::disjoint` meets its contract: the keys are marked and unmarked, and their slots put out.
use Rattle.std.proofs.lemmas.Result.{err_from_is_err_and}
use Rattle.map.specs.Sweeps.{disjoint}
use Rattle.secondary.proofs.Seen.{shape_of_view}
use Rattle.secondary_disjoint.proofs.Gives.{gives_short, gives_done, gives_stopped}
use Rattle.secondary_disjoint.proofs.disjoint.Goals as goal

pub returns-in_err-with_shape : goal.returns-in_err-with_shape
unfolding disjoint
returns-in_err-with_shape c =
    let p = err_from_is_err_and c.from_residual.result c.from_residual.ensures.1 in
    rw (p.1, p.2) (simp (c.in_err-with_shape.ensures.0, c.in_err-with_shape.ensures.1))

pub mark-marked-requires : goal.mark-marked-requires
mark-marked-requires c = shape_of_view c.in_ok-with_shape.field-0 c.in_ok-with_shape.ensures

pub unmark-requires : goal.unmark-requires
unmark-requires c = (c.mark-marked.ensures.few, c.mark-marked.ensures.within)

pub returns-in_err-marked : goal.returns-in_err-marked
returns-in_err-marked c =
    let p = err_from_is_err_and c.from_residual-in_err-marked.result c.from_residual-in_err-marked.ensures.1 in
    rw (p.1, p.2)
    (gives_stopped _ _ _ (shape_of_view c.in_ok-with_shape.field-0 c.in_ok-with_shape.ensures) _ _ _ c.mark-marked.ensures c.unmark.ensures _ c.in_err-marked.was)

pub returns-then-out-keys : goal.returns-then-out-keys
returns-then-out-keys c =
    gives_short _ _ _ (shape_of_view c.in_ok-with_shape.field-0 c.in_ok-with_shape.ensures) _ _ _ c.mark-marked.ensures c.unmark.ensures c.in_ok-marked.was c.if-out-keys.true

pub returns : goal.returns
returns c =
    gives_done _ _ _ (shape_of_view c.in_ok-with_shape.field-0 c.in_ok-with_shape.ensures) _ _ _ c.mark-marked.ensures c.unmark.ensures c.in_ok-marked.was _ c.if-out-keys.false c.fill.ensures
