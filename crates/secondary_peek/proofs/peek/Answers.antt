-- `secondary_peek::peek` meets its contract: the shape tells that the slots are within the arrays.
use Rattle.std.proofs.lemmas.Result.{err_from_is_err_and}
use native.Mathlib.Omega.{arith}
use Rattle.map.specs.Calls.{met, peek}
use Rattle.map.proofs.Shaped.{shaped}
use Rattle.secondary_peek.proofs.peek.Goals as goal

pub returns-in_err-map : goal.returns-in_err-map
unfolding met peek
returns-in_err-map c =
    let p = err_from_is_err_and c.from_residual.result c.from_residual.ensures.1 in
    rw (p.1, p.2) (simp (c.in_err-map.ensures.0, c.in_err-map.ensures.1))

pub bounds-versions-i : goal.bounds-versions-i
bounds-versions-i c = omega (arith, shaped _ c.in_ok-map.map.shape)

pub bounds-values-i : goal.bounds-values-i
bounds-values-i c = omega (arith, shaped _ c.in_ok-map.map.shape)
