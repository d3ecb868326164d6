-- `dense_look::values_as_slice` meets its contract: the part is the front of the lent array.
use native.Mathlib.Omega.{arith}
use Rattle.lists.proofs.Tests.{refuted, confirmed}
use mathlib.Core.Path.{refl}
use lib.ListN.{length-take}
use Rattle.table.specs.Calls.{listed_values}
use Rattle.table.proofs.Shape.{shape}
use Rattle.dense_look.proofs.values_as_slice.Goals as goal

pub returns-then-not-has_shape : goal.returns-then-not-has_shape
unfolding listed_values
returns-then-not-has_shape c = (rw (refuted c.has_shape.ensures c.if-not-has_shape.true), refl)

pub slice_bounds-result-end-2 : goal.slice_bounds-result-end-2
slice_bounds-result-end-2 c = let h = shape _ (confirmed c.has_shape.ensures c.if-not-has_shape.false) in simp length-take (omega (arith, h))

pub returns : goal.returns
unfolding listed_values
returns c = (rw (confirmed c.has_shape.ensures c.if-not-has_shape.false), refl)
