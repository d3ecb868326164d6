-- `dense_disjoint::write_places` meets its contract: what is left to write gives the same whole at every turn.
use mathlib.Core.Path.{ap}
use native.Mathlib.Omega.{arith}
use lib.ListN.{get_or}
use Rattle.keys.specs.declared.KeyData.{KeyData}
use Rattle.table.proofs.Marking.{places-turn, places-end}
use Rattle.dense_disjoint.proofs.write_places.Goals as goal

pub bounds-links-i : goal.bounds-links-i
bounds-links-i c = rw c.from_ffi-i.ensures (c.requires.1 c.loop-j.j c.loop-j-test.true)

pub loop-j-preserved : goal.loop-j-preserved
loop-j-preserved c = places-turn _ _ _ _ c.loop-j.j c.loop-j.invariant (omega arith) (omega arith) _ (ap (λ (k : KeyData). get_or c.args.links.now k.idx 0) c.from_ffi-i.ensures)

pub returns : goal.returns
returns c = places-end _ _ _ _ _ c.loop-j.invariant c.loop-j-test.false
