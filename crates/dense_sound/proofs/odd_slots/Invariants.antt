-- `dense_sound::odd_slots` meets its contract. The loop's invariant: m of the slots below i have odd versions.
use Rattle.lists.proofs.Count.{Tally}
use Rattle.table.specs.Sound.{is_odd}
use Rattle.dense.specs.Lent.{seen}
use Rattle.dense_sound.proofs.odd_slots.Given as goal

abbrev pub invariant-loop-i : goal.invariant-loop-i
invariant-loop-i l = Tally (is_odd (seen l.table.view)) l.i l.m
