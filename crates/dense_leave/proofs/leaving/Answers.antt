-- `dense_leave::leaving` meets its contract: the place first, then the last key.
use native.Mathlib.Omega.{arith}
use mathlib.Core.Path.{sym}
use Rattle.std.proofs.lemmas.Result.{err_from_is_err_and}
use Rattle.table.specs.Calls.{leaving}
use Rattle.table.proofs.Judged.{standing}
use Rattle.table.proofs.Judging.{range_low, range_high, range_yes}
use Rattle.dense_leave.proofs.leaving.Goals as goal

pub returns-in_err-p : goal.returns-in_err-p
unfolding leaving
returns-in_err-p c =
    let p = err_from_is_err_and c.from_residual.result c.from_residual.ensures.1 in
    rw (p.1, p.2) (simp (← c.in_err-p.ensures))

pub overflow_sub-last : goal.overflow_sub-last
overflow_sub-last c = omega (arith, standing _ _ _ (sym c.in_ok-p.ensures))

pub bounds-keys-last : goal.bounds-keys-last
bounds-keys-last c = omega (arith, standing _ _ _ (sym c.in_ok-p.ensures))

pub returns-then-j-lt1 : goal.returns-then-j-lt1
unfolding leaving
returns-then-j-lt1 c = simp (← c.in_ok-p.ensures) (range_low _ _ (rw c.from_ffi-j.ensures at c.if-j-lt1.true))

pub returns-then-h-j : goal.returns-then-h-j
unfolding leaving
returns-then-h-j c = simp (← c.in_ok-p.ensures) (range_high _ _ (rw c.from_ffi-j.ensures at c.if-j-lt1.false) (rw c.from_ffi-j.ensures at c.if-h-j.true))

pub returns : goal.returns
unfolding leaving
returns c = simp (← c.in_ok-p.ensures) (range_yes _ _ (rw c.from_ffi-j.ensures at c.if-j-lt1.false) (rw c.from_ffi-j.ensures at c.if-h-j.false))
