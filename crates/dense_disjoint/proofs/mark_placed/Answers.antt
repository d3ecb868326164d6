-- `dense_disjoint::mark_placed` meets its contract: the keys so far are marked, and what is left to test gives the same refusal.
use Rattle.std.proofs.Common.{◌≡◌, length, arith}
use mathlib.Core.Path.{sym, subst}
use Rattle.table.proofs.Marking.{Marked, marking_begins, marking_goes, marking_stops, marking_ends}
use Rattle.dense_disjoint.proofs.mark_placed.Goals as goal

pub loop-m-init : goal.loop-m-init
loop-m-init c = marking_begins _ _

pub returns-in-Err : goal.returns-in-Err
returns-in-Err c = marking_stops _ _ _ _ c.loop-m.invariant c.requires c.loop-m-test.true _ (sym c.in-Err.ensures)

pub loop-m-preserved : goal.loop-m-preserved
loop-m-preserved c = marking_goes _ _ _ _ c.loop-m.invariant c.requires c.loop-m-test.true _ _ (sym c.in-Ok.ensures) c.mark.ensures

pub returns : goal.returns
returns c =
    let all : c.loop-m.m ≡ length c.args.wanted.now = omega arith in
    subst (Marked _ _ _) all (marking_ends _ _ _ _ c.loop-m.invariant c.loop-m-test.false)
