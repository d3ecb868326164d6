-- `store_records` meets its contract. The loop's invariant: the slots of the header have been stored, and the records of the others stand
-- from `at` on. So no record is refused.
use mathlib.Core.Path.{refl, sym, ap, ◌∙◌}
use native.Mathlib.Omega.{arith}
use Rattle.table.specs.Table.{Table}
use Rattle.image.proofs.Storing.{stored-slots}
use Rattle.image.proofs.Building.{built_none, built_room, built_read, built_more, built_all}
use Rattle.image_read.proofs.store_records.Goals as goal

pub loop-init : goal.loop-init
loop-init c = (refl, λ a. built_none _ _ _ _ _ _ _ a)

pub store_record-h-requires : goal.store_record-h-requires
store_record-h-requires c = built_room _ _ _ _ _ _ _ c.requires _ _ (c.loop.invariant.1 c.requires) (omega (arith, c.requires.total_is))

pub returns-in-Err : goal.returns-in-Err
returns-in-Err c =
    built_read _ _ _ _ _ _ _ c.requires _ _ (c.loop.invariant.1 c.requires) (omega (arith, c.requires.total_is)) _ (sym c.in-Err.ensures)

pub loop-preserved : goal.loop-preserved
loop-preserved c = (
  omega (arith, ap (λ (t : Table). t.head.s) c.store_record-h.ensures ∙ stored-slots _ _),
  λ a. built_more _ _ _ _ _ _ _ a _ _ (c.loop.invariant.1 a) (omega (arith, a.total_is)) _ _ _ (sym c.in-Ok.ensures) c.store_record-h.ensures,
)

pub returns : goal.returns
returns c = built_all _ _ _ _ _ _ _ c.requires _ _ (c.loop.invariant.1 c.requires) (omega (arith, c.requires.total_is))
