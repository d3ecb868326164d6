-- `dense_retain::sift` meets its contract.
use mathlib.Core.Path.{ap}
use native.Mathlib.Omega.{arith}
use Rattle.table.specs.Calls.{Out}
use Rattle.table.proofs.Shape.{shape}
use Rattle.dense_retain.proofs.Sifting.{sifting_begins, sifting_keeps, sifting_less, sifting_drops, sifting_ends, rule_told}
use Rattle.dense_retain.proofs.sift.Goals as goal

pub loop-p-init : goal.loop-p-init
loop-p-init c = sifting_begins _ _ c.requires

pub bounds-keys-p : goal.bounds-keys-p
bounds-keys-p c = omega (arith, shape _ c.loop-p.invariant.swept.sound.shape)

pub bounds-values-p : goal.bounds-values-p
bounds-values-p c = omega (arith, shape _ c.loop-p.invariant.swept.sound.shape)

pub loop-p-preserved-then-keeps : goal.loop-p-preserved-then-keeps
loop-p-preserved-then-keeps c =
    sifting_keeps _ _ _ _ c.loop-p.invariant c.loop-p-test.true (rule_told _ _ _ c.from_ffi.ensures c.keeps.ensures c.if-keeps.true)

pub loop-p-smaller : goal.loop-p-smaller
loop-p-smaller c = sifting_less _ _ _ _ c.loop-p.invariant c.loop-p-test.true _ (ap (λ (o : Out). o.1) c.remove-removed.ensures)

pub loop-p-preserved : goal.loop-p-preserved
loop-p-preserved c =
    sifting_drops _ _ _ _ c.loop-p.invariant c.loop-p-test.true _ (ap (λ (o : Out). o.1) c.remove-removed.ensures)
    (rule_told _ _ _ c.from_ffi.ensures c.keeps.ensures c.if-keeps.false)

pub returns : goal.returns
returns c = sifting_ends _ _ _ _ c.loop-p.invariant c.loop-p-test.false
