-- `dense_free::waiting_slots` meets its contract. The loop's invariant: m of the slots below i have to be on the free list.
use mathlib.Core.Path.{sym, ◌∙◌}
use Rattle.lists.proofs.Count.{tally_none, tally_yes, tally_no}
use Rattle.dense_free.proofs.waiting_slots.Goals as goal
use Rattle.dense_free.proofs.waiting_slots.Goals.{then-is_waiting, else-is_waiting}

pub loop-i-init : goal.loop-i-init
loop-i-init c = tally_none _

pub loop-i-preserved : goal.loop-i-preserved
loop-i-preserved c =
    elim c.if-is_waiting.branch [
      | then-is_waiting w ↦ tally_yes _ _ c.loop-i.invariant (sym c.is_waiting.ensures ∙ w.if-is_waiting.true) w.m-is
      | else-is_waiting w ↦ tally_no _ _ c.loop-i.invariant (sym c.is_waiting.ensures ∙ w.if-is_waiting.false) w.m-is
    ]
