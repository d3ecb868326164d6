-- `dense_leave::remove_from_slot` meets its contract: the slot is freed, then the last element moves.
use native.Mathlib.Omega.{arith}
use mathlib.Core.Path.{ap, ◌∙◌}
use lib.ListN.{length-set}
use Rattle.keys.specs.declared.KeyData.{KeyData}
use Rattle.table.proofs.Storing.{left-last, left-moved}
use Rattle.dense_leave.proofs.remove_from_slot.Goals as goal

pub returns-then-p-last : goal.returns-then-p-last
returns-then-p-last c = left-last _ _ _ _ _ _ _ c.free_slot-p.ensures.place c.free_slot-p.ensures.versions c.free_slot-p.ensures.links c.if-p-last.true

pub overflow_cast-j : goal.overflow_cast-j
overflow_cast-j c = omega (arith, ap (λ (k : KeyData). k.idx) c.from_ffi-j.ensures)

pub offset_bounds-links-j : goal.offset_bounds-links-j
offset_bounds-links-j c = omega (arith, ap (λ (k : KeyData). k.idx) c.from_ffi-j.ensures)

pub bounds-links-j : goal.bounds-links-j
bounds-links-j c = omega (arith, ap (λ (k : KeyData). k.idx) c.from_ffi-j.ensures)

pub shape_of-links : goal.shape_of-links
shape_of-links c = length-set c.free_slot-p.new.links _ _ ∙ c.free_slot-p.auto.links

pub shape_of-keys : goal.shape_of-keys
shape_of-keys c = length-set c.args.keys.now _ _

pub shape_of-values : goal.shape_of-values
shape_of-values c = length-set c.args.values.now _ _

pub returns : goal.returns
returns c = left-moved _ _ _ _ _ _ _ c.free_slot-p.ensures.place c.free_slot-p.ensures.versions c.free_slot-p.ensures.links c.if-p-last.false _ (ap (λ (k : KeyData). k.idx) c.from_ffi-j.ensures)
