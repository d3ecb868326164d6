-- `secondary_whole::is_whole` meets its contract: the slots passed are counted and each is fit.
use mathlib.Core.Path.{sym}
use native.Mathlib.Omega.{arith}
use Rattle.lists.proofs.Tests.{refuted, confirmed}
use Rattle.map.proofs.Shaped.{shaped}
use Rattle.map.proofs.Whole.{scanned_start, scanned_few, scanned_vacant, scanned_odd, scanned_all, unfit, used}
use Rattle.secondary_whole.proofs.is_whole.Goals as goal
use Rattle.secondary_whole.proofs.is_whole.Goals.{then-v-ne0+else-not-is_odd, else-v-ne0}

pub bounds-view-0 : goal.bounds-view-0
bounds-view-0 c = omega (arith, shaped _ (confirmed c.shape.ensures c.if-not-shape.false))

pub returns-then-view-ne0 : goal.returns-then-view-ne0
returns-then-view-ne0 c = sym (used _ c.if-view-ne0.true)

pub loop-i-init : goal.loop-i-init
loop-i-init c = scanned_start _

pub bounds-view-i : goal.bounds-view-i
bounds-view-i c = omega (arith, shaped _ (confirmed c.shape.ensures c.if-not-shape.false))

pub returns-then-not-is_odd : goal.returns-then-not-is_odd
returns-then-not-is_odd c = sym (unfit _ _ c.loop-i-test.true c.if-v-ne0.true (refuted c.is_odd.ensures c.if-not-is_odd.true))

pub overflow_add-n : goal.overflow_add-n
overflow_add-n c = omega (arith, scanned_few _ _ _ c.loop-i.invariant, shaped _ (confirmed c.shape.ensures c.if-not-shape.false))

pub loop-i-preserved : goal.loop-i-preserved
loop-i-preserved c =
    elim c.if-v-ne0.branch [
      | then-v-ne0+else-not-is_odd w ↦ rw w.n-is (scanned_odd _ _ _ c.loop-i.invariant w.if-v-ne0.true (confirmed w.is_odd.ensures w.if-not-is_odd.false))
      | else-v-ne0 w ↦ rw w.n-is (scanned_vacant _ _ _ c.loop-i.invariant w.if-v-ne0.false)
    ]

pub returns : goal.returns
returns c = scanned_all _ _ _ c.loop-i.invariant (omega arith) (confirmed c.shape.ensures c.if-not-shape.false) c.if-view-ne0.false
