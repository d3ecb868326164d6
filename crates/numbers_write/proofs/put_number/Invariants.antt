-- `put_number` meets its contract. The loop's invariant: putting what is left from `place` on leaves what putting n from `at` on leaves.
use Prim.Native.Nat.{◌+◌}
use mathlib.Core.Path.{◌≡◌}
use lib.ListN.{length}
use Rattle.lists.specs.Put.{put}
use Rattle.numbers.specs.Numbers.{encoded}
use Rattle.numbers_write.proofs.put_number.Given as goal

abbrev pub invariant-loop-rest : goal.invariant-loop-rest
invariant-loop-rest l =
    (put l.out l.place (encoded l.rest) ≡ put l.initial.out l.at (encoded l.n)) × (l.place + length (encoded l.rest) ≡ l.at + length (encoded l.n)) × (length l.out ≡ length l.initial.out)

abbrev pub decreases-loop-rest : goal.decreases-loop-rest
decreases-loop-rest l = l.rest
