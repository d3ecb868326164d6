-- `put_image` meets its contract. The loop's invariant: the slot count and the records of the slots below i stand at the buffer's front.
use Rattle.dense.specs.Lent.{seen}
use Rattle.image.proofs.Writing.{Front}
use Rattle.image_write.proofs.put_image.Given as goal

abbrev pub invariant-loop-i : goal.invariant-loop-i
invariant-loop-i l = Front (seen l.table.view) l.fn.out l.i l.out l.at
