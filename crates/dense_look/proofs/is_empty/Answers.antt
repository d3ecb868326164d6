-- `dense_look::is_empty` meets its contract.
use Rattle.std.proofs.lemmas.Result.{err_from_is_err_and}
use Rattle.table.specs.Calls.{is_empty}
use Rattle.dense.proofs.Shape.{shape_of_view}
use Rattle.dense_look.proofs.is_empty.Goals as goal

pub returns-in_err-table : goal.returns-in_err-table
unfolding is_empty
returns-in_err-table c =
    let p = err_from_is_err_and c.from_residual.result c.from_residual.ensures.1 in
    rw (p.1, p.2) (simp (c.in_err-table.ensures.0, c.in_err-table.ensures.1))

pub returns : goal.returns
unfolding is_empty
returns c = simp (shape_of_view c.in_ok-table.table c.in_ok-table.ensures, c.in_ok-table.ensures)
