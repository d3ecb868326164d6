-- `dense::place_in` meets its contract: live first, then held.
use native.Mathlib.Omega.{arith}
use Rattle.lists.proofs.Tests.{refuted, confirmed}
use Rattle.table.specs.Calls.{place_in}
use Rattle.table.proofs.Judged.{live}
use Rattle.table.proofs.Judging.{place-beyond}
use Rattle.dense.proofs.place_in.Goals as goal

pub returns-then-not-is_live : goal.returns-then-not-is_live
unfolding place_in
returns-then-not-is_live c = simp (refuted c.is_live.ensures c.if-not-is_live.true, c.dead.ensures)

pub bounds-links-key : goal.bounds-links-key
bounds-links-key c = omega (arith, live _ _ _ (confirmed c.is_live.ensures c.if-not-is_live.false))

pub returns-then-h-p : goal.returns-then-h-p
returns-then-h-p c = place-beyond _ _ _ (confirmed c.is_live.ensures c.if-not-is_live.false) c.if-h-p.true
