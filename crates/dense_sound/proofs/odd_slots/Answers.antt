-- `dense_sound::odd_slots` meets its contract. The loop's invariant: m of the slots below i have odd versions.
use mathlib.Core.Path.{sym, ◌∙◌}
use Rattle.lists.proofs.Count.{tally_none, tally_yes, tally_no}
use Rattle.dense_sound.proofs.odd_slots.Goals as goal
use Rattle.dense_sound.proofs.odd_slots.Goals.{then-is_odd, else-is_odd}

pub loop-i-init : goal.loop-i-init
loop-i-init c = tally_none _

pub loop-i-preserved : goal.loop-i-preserved
loop-i-preserved c =
    elim c.if-is_odd.branch [
      | then-is_odd w ↦ tally_yes _ _ c.loop-i.invariant (sym c.is_odd.ensures ∙ w.if-is_odd.true) w.m-is
      | else-is_odd w ↦ tally_no _ _ c.loop-i.invariant (sym c.is_odd.ensures ∙ w.if-is_odd.false) w.m-is
    ]
