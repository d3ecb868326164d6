-- `encoded_len` meets its contract: the groups counted and those of what is left are those of n, one counted twice.
use Prim.Native.Nat.{◌+◌, ◌≤◌}
use mathlib.Core.Path.{◌≡◌}
use lib.ListN.{length}
use Rattle.numbers.specs.Numbers.{encoded}
use Rattle.numbers_write.proofs.encoded_len.Given as goal

abbrev pub invariant-loop-rest : goal.invariant-loop-rest
invariant-loop-rest l = (length (encoded l.rest) + l.count ≡ length (encoded l.n) + 1) × (l.rest + l.count ≤ l.n + 1)

abbrev pub decreases-loop-rest : goal.decreases-loop-rest
decreases-loop-rest l = l.rest
