-- `put_decimal` puts the digits in from the back: the digits of the rest, put in, give the same whole at every turn.
use mathlib.Core.Path.{◌≡◌}
use Prim.Native.Nat.{◌≤◌, ◌+◌}
use lib.ListN.{length}
use Rattle.lists.specs.Put.{put}
use Rattle.text.specs.Text.{digits}
use Rattle.text.proofs.put_decimal.Given as goal

abbrev pub invariant-loop-rest : goal.invariant-loop-rest
invariant-loop-rest l =
    (l.i ≡ l.at + length (digits l.rest)) × ((l.i ≤ length l.out) × ((length l.out ≡ length l.initial.out) × (put l.out l.at (digits l.rest) ≡ put l.initial.out l.at (digits l.initial.rest))))

abbrev pub decreases-loop-rest : goal.decreases-loop-rest
decreases-loop-rest l = l.rest
