-- `bytes_in` meets its contract. The loop's invariant: the total is the length of what is written of the slots below i.
use mathlib.Core.Path.{◌≡◌}
use Prim.Native.Nat.{◌+◌, ◌*◌, ◌≤◌}
use lib.ListN.{length}
use Rattle.dense.specs.Lent.{seen}
use Rattle.image.proofs.Writing.{so_far}
use Rattle.image_write.proofs.bytes_in.Given as goal

abbrev pub invariant-loop-i : goal.invariant-loop-i
invariant-loop-i l = (l.total ≡ length (so_far (seen l.table.view) l.i)) × (l.total ≤ 10 + 16 * l.i)
