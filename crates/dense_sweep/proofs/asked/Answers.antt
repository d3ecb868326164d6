-- `dense_sweep::asked` meets its contract.
use Rattle.std.proofs.lemmas.Result.{err_from_is_err_and}
use Rattle.lists.proofs.Tests.{refuted, confirmed}
use Rattle.dense.proofs.Shape.{shape_of_view}
use Rattle.dense_sweep.specs.Asked.{asked_said}
use Rattle.dense_sweep.proofs.asked.Goals as goal

pub returns-in_err-table : goal.returns-in_err-table
unfolding asked_said
returns-in_err-table c =
    let p = err_from_is_err_and c.from_residual.result c.from_residual.ensures.1 in
    rw (p.1, p.2) (simp (c.in_err-table.ensures.0, c.in_err-table.ensures.1))

pub returns-then-not-is_sound : goal.returns-then-not-is_sound
unfolding asked_said
returns-then-not-is_sound c = simp (shape_of_view c.in_ok-table.table c.in_ok-table.ensures, ← c.in_ok-table.ensures, refuted c.is_sound.ensures c.if-not-is_sound.true)

pub returns : goal.returns
unfolding asked_said
returns c = simp (shape_of_view c.in_ok-table.table c.in_ok-table.ensures, ← c.in_ok-table.ensures, confirmed c.is_sound.ensures c.if-not-is_sound.false)
