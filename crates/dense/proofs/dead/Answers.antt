-- `dense::dead` meets its contract.
use Rattle.table.specs.Table.{dead}
use mathlib.Core.Path.{refl}
use Rattle.dense.proofs.dead.Goals as goal

pub returns : goal.returns
unfolding dead
returns c = refl
