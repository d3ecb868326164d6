-- `dense_leave::remove` meets its contract.
use mathlib.Core.Path.{◌∙◌}
use Rattle.dense_leave.proofs.Taken.{remove-taken}
use Rattle.dense_leave.proofs.remove.Goals as goal

pub returns : goal.returns
returns c = (rw c.from_ffi-i.ensures at c.take.ensures) ∙ remove-taken _ _
