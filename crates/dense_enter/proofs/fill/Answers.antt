-- `dense_enter::fill` meets its contract: the free head is taken, else a slot is added.
use Rattle.table.specs.Table.{entered}
use Rattle.table.proofs.Storing.{insert_free, insert-grown}
use Rattle.dense_enter.proofs.fill.Goals as goal

pub returns-then-h : goal.returns-then-h
unfolding entered
returns-then-h c = insert_free _ _ _ _ c.if-h.true c.odd_version.ensures

pub returns : goal.returns
unfolding entered
returns c = insert-grown _ _ _ c.if-h.false
