-- `dense::has_shape` meets its contract: a return for each test.
use Rattle.lists.proofs.Tests.{refuted, confirmed}
use Rattle.table.specs.Table.{has_shape}
use Rattle.dense.proofs.Shape.{shape_no_slot, shape_too_many, shape_crowded, shape-head-low, shape_by_head}
use Rattle.dense.proofs.has_shape.Goals as goal

pub returns-then-not-lengths_fit : goal.returns-then-not-lengths_fit
unfolding has_shape
returns-then-not-lengths_fit c = simp (refuted c.lengths_fit.ensures c.if-not-lengths_fit.true)

pub returns-then-s-lt1 : goal.returns-then-s-lt1
returns-then-s-lt1 c = shape_no_slot _ (confirmed c.lengths_fit.ensures c.if-not-lengths_fit.false) c.if-s-lt1.true

pub returns-then-view-s : goal.returns-then-view-s
returns-then-view-s c = shape_too_many _ (confirmed c.lengths_fit.ensures c.if-not-lengths_fit.false) c.if-s-lt1.false c.if-view-s.true

pub returns-then-h : goal.returns-then-h
returns-then-h c = shape_crowded _ (confirmed c.lengths_fit.ensures c.if-not-lengths_fit.false) c.if-s-lt1.false c.if-view-s.false c.if-h.true

pub returns-then-h-lt1 : goal.returns-then-h-lt1
returns-then-h-lt1 c = shape-head-low _ (confirmed c.lengths_fit.ensures c.if-not-lengths_fit.false) c.if-s-lt1.false c.if-view-s.false c.if-h.false c.if-h-lt1.true

pub returns : goal.returns
returns c = shape_by_head _ (confirmed c.lengths_fit.ensures c.if-not-lengths_fit.false) c.if-s-lt1.false c.if-view-s.false c.if-h.false c.if-h-lt1.false
