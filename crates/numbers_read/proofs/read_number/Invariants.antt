-- `read_number` meets its contract. The loop's invariant: what stands at `at` is what the rest says after the groups so far.
use mathlib.Core.Path.{◌≡◌}
use lib.ListN.{drop}
use Rattle.numbers.specs.Numbers.{read_from, unread}
use Rattle.numbers_read.proofs.read_number.Given as goal

abbrev pub invariant-loop-place : goal.invariant-loop-place
invariant-loop-place l =
    read_from l.limit (drop l.at l.bytes) l.at unread ≡ read_from l.limit (drop l.place l.bytes) l.place l.state
