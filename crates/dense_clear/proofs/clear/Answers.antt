-- `dense_clear::clear` meets its contract.
use Rattle.std.proofs.Common.{rules}
use Rattle.table.specs.Sweeps.{clear}
use Rattle.dense_sweep.proofs.Asking.{asked-refused, asked-done, asked-sound}
use Rattle.dense_clear.proofs.clear.Goals as goal

pub drain_all-requires : goal.drain_all-requires
drain_all-requires c = asked-sound _ c.in-Ok.ensures (λ i. search rules)

pub returns-in-Ok : goal.returns-in-Ok
unfolding clear
returns-in-Ok c = asked-done _ c.in-Ok.ensures _ _ c.drain_all.ensures

pub returns-in-Err : goal.returns-in-Err
unfolding clear
returns-in-Err c = asked-refused _ _ _ c.in-Err.ensures
