-- `dense_free::waiting_slots` meets its contract. The loop's invariant: m of the slots below i have to be on the free list.
use Rattle.lists.proofs.Count.{Tally}
use Rattle.table.specs.Sound.{is_waiting}
use Rattle.dense.specs.Lent.{seen}
use Rattle.dense_free.proofs.waiting_slots.Given as goal

abbrev pub invariant-loop-i : goal.invariant-loop-i
invariant-loop-i l = Tally (is_waiting (seen l.table.view)) l.i l.m
