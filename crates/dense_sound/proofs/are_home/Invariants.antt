-- `dense_sound::are_home` meets its contract. The loop's invariant: every place below p is at home.
use mathlib.Core.Path.{◌≡◌}
use mathlib.Core.Bool.{true}
use Rattle.lists.specs.Count.{every}
use Rattle.table.specs.Sound.{is_home}
use Rattle.dense.specs.Lent.{seen}
use Rattle.dense_sound.proofs.are_home.Given as goal

abbrev pub invariant-loop-p : goal.invariant-loop-p
invariant-loop-p l = every (is_home (seen l.table.view)) l.p ≡ true
