-- `dense::with_shape` meets its contract: what passes the test has the shape.
use Rattle.lists.proofs.Tests.{confirmed}
use Rattle.table.proofs.Shape.{shape}
use Rattle.dense.proofs.with_shape.Goals as goal

pub invariant_of-result : goal.invariant_of-result
invariant_of-result c = record { shape = shape _ (confirmed c.has_shape.ensures c.if-not-has_shape.false) }
