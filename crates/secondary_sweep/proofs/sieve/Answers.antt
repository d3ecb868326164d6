-- `secondary_sweep::sieve` meets its contract: a vacant slot and a kept element stay, and another is removed by its key.
use Rattle.std.proofs.Common.{rules}
use mathlib.Core.Path.{sym, ap, ◌∙◌}
use native.Mathlib.Omega.{arith}
use Rattle.keys.specs.Keys.{number_of}
use Rattle.map.specs.Calls.{Out, key_at}
use Rattle.map.proofs.Shaped.{shaped}
use Rattle.map.proofs.Sieves.{sieved_vacant, sieved_kept, sieved_removed}
use Rattle.secondary_sweep.proofs.sieve.Goals as goal

pub bounds-versions-i : goal.bounds-versions-i
bounds-versions-i c = omega (arith, shaped _ c.requires.0.shape)

pub returns-then-v-eq0 : goal.returns-then-v-eq0
returns-then-v-eq0 c = sym (sieved_vacant _ _ _ c.if-v-eq0.true)

pub bounds-values-i : goal.bounds-values-i
bounds-values-i c = omega (arith, shaped _ c.requires.0.shape)

pub returns-then-keeps : goal.returns-then-keeps
returns-then-keeps c = sym (sieved_kept _ _ _ (sym (rw c.new-key.ensures at c.keeps.ensures) ∙ c.if-keeps.true))

pub returns : goal.returns
unfolding key_at
returns c =
    ap (λ (o : Out). o.1) c.remove-d.ensures
    ∙ sieved_removed _ _ _ _ c.requires.0 c.requires.1 c.if-v-eq0.false (search rules)
    (sym (rw c.new-key.ensures at c.keeps.ensures) ∙ c.if-keeps.false)
    (c.as_ffi.ensures ∙ ap number_of c.new-key.ensures)
