-- `dense_retain::sift` meets its contract.
use Prim.Native.Nat.{◌-◌}
use Rattle.rules.specs.Rules.{keeps_of}
use Rattle.dense.specs.Lent.{table}
use Rattle.dense_retain.proofs.Sifting.{Sifting}
use Rattle.dense_retain.proofs.sift.Given as goal

abbrev pub invariant-loop-p : goal.invariant-loop-p
invariant-loop-p l =
    Sifting (keeps_of l.rule) (table l.initial.versions l.initial.links l.initial.keys l.initial.values l.initial.g) (table l.versions l.links l.keys l.values l.g) l.p

abbrev pub decreases-loop-p : goal.decreases-loop-p
decreases-loop-p l = l.g.n - l.p
