-- `dense_leave::take` meets its contract.
use native.Mathlib.Omega.{arith}
use mathlib.Core.Path.{◌≡◌, ap}
use Prim.Native.Nat.{ℕ}
use Rattle.keys.specs.declared.KeyData.{KeyData}
use Rattle.table.specs.Table.{Table, link}
use Rattle.table.proofs.Judged.{Leaving, leaves}
use Rattle.dense.proofs.Answers.{judged-ok, judged-err}
use Rattle.dense_leave.specs.Taken.{taken}
use Rattle.dense_leave.proofs.Taken.{taken-found}
use Rattle.dense_leave.proofs.take.Goals as goal

asked : (t : Table) (i p j : ℕ) → Leaving t i p → j ≡ i → Leaving t j (link t j)
asked t i p j a e = rw (e, a.linked) a

pub offset_bounds-values-p : goal.offset_bounds-values-p
offset_bounds-values-p c = omega (arith, leaves _ _ _ (judged-ok c.leaving.ensures c.in-Ok.is))

pub bounds-values-p : goal.bounds-values-p
bounds-values-p c = omega (arith, leaves _ _ _ (judged-ok c.leaving.ensures c.in-Ok.is))

pub remove_from_slot-requires : goal.remove_from_slot-requires
remove_from_slot-requires c = asked _ _ _ _ (leaves _ _ _ (judged-ok c.leaving.ensures c.in-Ok.is)) (ap (λ (k : KeyData). k.idx) c.from_ffi-i.ensures)

pub overflow_sub-result : goal.overflow_sub-result
overflow_sub-result c = omega (arith, leaves _ _ _ (judged-ok c.leaving.ensures c.in-Ok.is))

pub returns-in-Ok : goal.returns-in-Ok
returns-in-Ok c = taken-found _ _ _ _ _ _ _ (judged-ok c.leaving.ensures c.in-Ok.is) (ap (λ (k : KeyData). k.idx) c.from_ffi-i.ensures) c.remove_from_slot.ensures

pub returns-in-Err : goal.returns-in-Err
unfolding taken
returns-in-Err c = simp (judged-err c.leaving.ensures c.in-Err.is)
