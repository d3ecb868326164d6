-- `dense_disjoint::mark_placed` meets its contract: the keys so far are marked, and what is left to test gives the same refusal.
use Rattle.table.proofs.Marking.{Marking}
use Rattle.dense.specs.Lent.{table}
use Rattle.dense_disjoint.proofs.mark_placed.Given as goal

abbrev pub invariant-loop-m : goal.invariant-loop-m
invariant-loop-m l = Marking (table l.initial.versions l.links l.keys l.values l.h) l.wanted l.versions l.m
