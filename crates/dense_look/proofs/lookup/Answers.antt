-- `dense_look::lookup` meets its contract: the value at the judged place.
use Rattle.std.proofs.lemmas.Result.{err_from_is_err_and}
use native.Mathlib.Omega.{arith}
use Rattle.table.specs.Calls.{lookup}
use Rattle.table.proofs.Judged.{standing}
use Rattle.dense.proofs.Answers.{judged-ok}
use Rattle.dense_look.proofs.lookup.Goals as goal

pub returns-in_err-p : goal.returns-in_err-p
unfolding lookup
returns-in_err-p c =
    let p = err_from_is_err_and c.from_residual.result c.from_residual.ensures.1 in
    rw (p.1, p.2) (simp (← c.in_err-p.ensures))

pub offset_bounds-view-p : goal.offset_bounds-view-p
offset_bounds-view-p c = omega (arith, standing _ _ _ (judged-ok c.place.ensures c.in_ok-p.was))

pub bounds-view-p : goal.bounds-view-p
bounds-view-p c = omega (arith, standing _ _ _ (judged-ok c.place.ensures c.in_ok-p.was))

pub returns : goal.returns
unfolding lookup
returns c = simp (← c.in_ok-p.ensures)
