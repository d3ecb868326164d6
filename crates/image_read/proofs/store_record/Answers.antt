-- `store_record` meets its contract, by the record's kind.
use mathlib.Core.Path.{ap, ◌∙◌}
use Rattle.keys.specs.Keys.{number_of}
use Rattle.image.proofs.Storing.{stored-first, stored_vacant, stored-occupied}
use Rattle.image_read.proofs.store_record.Goals as goal

pub returns-then-h-eq0 : goal.returns-then-h-eq0
returns-then-h-eq0 c = stored-first _ _ c.if-h-eq0.true

pub returns-in-Vacant : goal.returns-in-Vacant
returns-in-Vacant c = stored_vacant _ _ c.if-h-eq0.false _ c.in-Vacant.is

pub returns-in-Occupied : goal.returns-in-Occupied
returns-in-Occupied c = stored-occupied _ _ c.if-h-eq0.false _ _ _ c.in-Occupied.is (c.as_ffi.ensures ∙ ap number_of c.new.ensures)
