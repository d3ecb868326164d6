-- `dense::place` meets its contract.
use Rattle.std.proofs.lemmas.Result.{err_from_is_err_and}
use Rattle.table.specs.Calls.{place}
use Rattle.dense.proofs.Shape.{shape_of_view}
use Rattle.dense.proofs.place.Goals as goal

pub returns-in_err-table : goal.returns-in_err-table
unfolding place
returns-in_err-table c =
    let p = err_from_is_err_and c.from_residual.result c.from_residual.ensures.1 in
    rw (p.1, p.2) (simp (c.in_err-table.ensures.0, c.in_err-table.ensures.1))

pub returns : goal.returns
unfolding place
returns c = simp (shape_of_view c.in_ok-table.table c.in_ok-table.ensures, c.place_in.ensures, c.from_ffi.ensures, c.in_ok-table.ensures)
