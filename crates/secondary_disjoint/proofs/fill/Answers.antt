-- `secondary_disjoint::fill` meets its contract: each turn puts one slot into the output.
use mathlib.Core.Path.{ap}
use native.Mathlib.Omega.{arith}
use Rattle.keys.specs.declared.KeyData.{KeyData}
use Rattle.secondary_disjoint.proofs.Runs.{fill-turn, fill_end}
use Rattle.secondary_disjoint.proofs.fill.Goals as goal

pub loop-n-preserved : goal.loop-n-preserved
loop-n-preserved c =
    fill-turn _ _ _ _ c.loop-n.invariant _ (omega arith) (omega arith) (ap (λ (q : KeyData). q.idx) c.from_ffi-key.ensures)

pub returns : goal.returns
returns c = fill_end _ _ _ _ c.loop-n.invariant (omega arith)
