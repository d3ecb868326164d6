-- `dense_retain::retain` meets its contract.
use Rattle.std.proofs.Common.{rules}
use Rattle.table.specs.Sweeps.{retain}
use Rattle.dense_sweep.proofs.Asking.{asked-refused, asked-done, asked-sound}
use Rattle.dense_retain.proofs.retain.Goals as goal

pub sift-requires : goal.sift-requires
sift-requires c = asked-sound _ c.in-Ok.ensures (λ i. search rules)

pub returns-in-Ok : goal.returns-in-Ok
unfolding retain
returns-in-Ok c = asked-done _ c.in-Ok.ensures _ _ c.sift.ensures

pub returns-in-Err : goal.returns-in-Err
unfolding retain
returns-in-Err c = asked-refused _ _ _ c.in-Err.ensures
