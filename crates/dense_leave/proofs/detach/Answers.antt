-- `dense_leave::detach` meets its contract.
use mathlib.Core.Path.{◌∙◌}
use Rattle.dense_leave.proofs.Taken.{detach-taken}
use Rattle.dense_leave.proofs.detach.Goals as goal

pub returns : goal.returns
returns c = c.take.ensures ∙ detach-taken _ _
