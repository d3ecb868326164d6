-- `dense_drain::take_last` meets its contract.
use mathlib.Core.Path.{refl}
use Rattle.table.specs.Table.{freed}
use Rattle.dense_drain.proofs.take_last.Goals as goal

pub returns : goal.returns
unfolding freed
returns c = rw c.version_up.ensures refl
