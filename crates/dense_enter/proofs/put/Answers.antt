-- `dense_enter::put` meets its contract: the value at the judged place is overwritten.
use Rattle.std.proofs.lemmas.Result.{err_from_is_err_and}
use native.Mathlib.Omega.{arith}
use Rattle.table.specs.Table.{with_value}
use Rattle.table.specs.Calls.{put}
use Rattle.table.proofs.Judged.{standing}
use Rattle.dense.proofs.Answers.{judged-ok}
use Rattle.dense_enter.proofs.put.Goals as goal

pub returns-in_err-p : goal.returns-in_err-p
unfolding put
returns-in_err-p c =
    let p = err_from_is_err_and c.from_residual.result c.from_residual.ensures.1 in
    rw (p.1, p.2) (simp (← c.in_err-p.ensures))

pub offset_bounds-values-p : goal.offset_bounds-values-p
offset_bounds-values-p c = omega (arith, standing _ _ _ (judged-ok c.place.ensures c.in_ok-p.was))

pub bounds-values-p : goal.bounds-values-p
bounds-values-p c = omega (arith, standing _ _ _ (judged-ok c.place.ensures c.in_ok-p.was))

pub offset_bounds-values-p-2 : goal.offset_bounds-values-p-2
offset_bounds-values-p-2 c = omega (arith, standing _ _ _ (judged-ok c.place.ensures c.in_ok-p.was))

pub bounds-values-p-2 : goal.bounds-values-p-2
bounds-values-p-2 c = omega (arith, standing _ _ _ (judged-ok c.place.ensures c.in_ok-p.was))

pub returns : goal.returns
unfolding put with_value
returns c = simp (← c.in_ok-p.ensures)
