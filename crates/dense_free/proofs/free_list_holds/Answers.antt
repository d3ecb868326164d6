-- `dense_free::free_list_holds` meets its contract: the shape is judged, and the list is held against the waiting slots.
use mathlib.Core.Path.{◌∙◌, ap}
use Rattle.dense.specs.Lent.{seen}
use Rattle.dense_free.proofs.Holds.{holds_shape, holds_list}
use Rattle.dense_free.specs.Holds.{free_list_holds}
use Rattle.dense_free.proofs.free_list_holds.Goals as goal

pub returns-in-Ok : goal.returns-in-Ok
returns-in-Ok c =
    c.is_free_list.ensures ∙ holds_list _ c.in-Ok.table.shape c.waiting_slots.ensures
    ∙ ap (λ v. free_list_holds (seen v)) c.in-Ok.ensures

pub returns-in-Err : goal.returns-in-Err
returns-in-Err c = holds_shape _ c.in-Err.ensures.1
