-- `dense_leave::free_slot` meets its contract.
use mathlib.Core.Path.{refl}
use Rattle.dense_leave.proofs.free_slot.Goals as goal

pub returns : goal.returns
returns c = record { place = refl; versions = rw c.version_up.ensures; links = refl }
