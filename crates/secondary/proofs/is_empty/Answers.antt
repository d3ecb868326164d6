-- `secondary::is_empty` meets its contract.
use Rattle.std.proofs.lemmas.Result.{err_from_is_err_and}
use Rattle.map.specs.Calls.{is_empty}
use Rattle.secondary.proofs.Seen.{shape_of_view}
use Rattle.secondary.proofs.is_empty.Goals as goal

pub returns-in_err-map : goal.returns-in_err-map
unfolding is_empty
returns-in_err-map c =
    let p = err_from_is_err_and c.from_residual.result c.from_residual.ensures.1 in
    rw (p.1, p.2) (simp (c.in_err-map.ensures.0, c.in_err-map.ensures.1))

pub returns : goal.returns
unfolding is_empty
returns c = simp (shape_of_view c.in_ok-map.map c.in_ok-map.ensures, c.in_ok-map.ensures)
