-- `secondary_disjoint::unmark` meets its contract: each turn gives one slot its version back.
use mathlib.Core.Path.{sym, ap, ◌∙◌}
use Prim.Native.Nat.{◌-◌}
use native.Mathlib.Omega.{arith}
use Rattle.keys.specs.declared.KeyData.{KeyData}
use Rattle.secondary_disjoint.proofs.Runs.{unmarked-turn, unmarked-end}
use Rattle.secondary_disjoint.proofs.unmark.Goals as goal

pub offset_bounds-versions-i : goal.offset_bounds-versions-i
offset_bounds-versions-i c = omega (arith, c.requires.1 (c.loop-j.j - 1) (omega arith), ap (λ (q : KeyData). q.idx) c.from_ffi-key.ensures)

pub bounds-versions-i : goal.bounds-versions-i
bounds-versions-i c = omega (arith, c.requires.1 (c.loop-j.j - 1) (omega arith), ap (λ (q : KeyData). q.idx) c.from_ffi-key.ensures)

pub loop-j-preserved : goal.loop-j-preserved
loop-j-preserved c = unmarked-turn _ _ _ _ c.loop-j-test.true c.from_ffi-key.ensures ∙ c.loop-j.invariant

pub returns : goal.returns
returns c = sym (unmarked-end _ _ _ c.loop-j-test.false) ∙ c.loop-j.invariant
