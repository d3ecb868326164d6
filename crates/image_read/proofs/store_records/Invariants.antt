-- `store_records` meets its contract. The loop's invariant: the slots of the header have been stored, and the records of the others stand
-- from `at` on. So no record is refused.
use Rattle.std.proofs.Common.{◌≡◌}
use Rattle.dense.specs.Lent.{table}
use Rattle.image.proofs.Building.{Starts, Built}
use Rattle.image_read.proofs.store_records.Given as goal

abbrev pub invariant-loop : goal.invariant-loop
invariant-loop l =
    (l.h.s ≡ l.counter) × ((a : Starts l.initial.versions l.initial.links l.initial.keys l.initial.values l.bytes l.from l.total) → Built l.initial.versions l.initial.links l.initial.keys l.initial.values l.bytes a.list (table l.versions l.links l.keys l.values l.h) l.at)
