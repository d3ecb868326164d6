-- `dense_reattach::rejoin` meets its contract.
use Rattle.table.specs.Table.{entered}
use Rattle.dense_reattach.proofs.rejoin.Goals as goal

pub returns : goal.returns
unfolding entered
returns c = rw c.version_down.ensures
