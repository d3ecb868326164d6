-- `secondary_disjoint::mark` meets its contract: each turn marks one key more, or stops at the first that is not there.
use mathlib.Core.Path.{sym}
use native.Mathlib.Omega.{arith}
use Rattle.map.proofs.Stands.{stands}
use Rattle.secondary_disjoint.proofs.Runs.{run-start, run-turn, marking_stopped, marking_all}
use Rattle.secondary_disjoint.proofs.mark.Goals as goal

pub loop-n-init : goal.loop-n-init
loop-n-init c = run-start _ _

pub offset_bounds-versions-i : goal.offset_bounds-versions-i
offset_bounds-versions-i c = omega (arith, stands _ _ _ (sym c.in-Ok.ensures))

pub bounds-versions-i : goal.bounds-versions-i
bounds-versions-i c = omega (arith, stands _ _ _ (sym c.in-Ok.ensures))

pub returns-in-Err : goal.returns-in-Err
returns-in-Err c = marking_stopped _ _ _ _ _ c.loop-n.invariant (omega arith) c.requires (sym c.in-Err.ensures)

pub loop-n-preserved : goal.loop-n-preserved
loop-n-preserved c = run-turn _ _ _ _ c.loop-n.invariant (omega arith) _ (stands _ _ _ (sym c.in-Ok.ensures))

pub returns : goal.returns
returns c = marking_all _ _ _ _ c.loop-n.invariant (omega arith)
