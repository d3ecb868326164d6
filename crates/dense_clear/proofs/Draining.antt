-- The loop of clear, over variables: what is left of the drain gives the same whole. Assumes nothing.
use mathlib.Core.Path.{◌≡◌, refl, ap, ◌∙◌}
use Prim.Native.Nat.{ℕ, suc, ◌≤◌, ◌<◌}
use native.Mathlib.Omega.{arith}
use Rattle.table.specs.Table.{Table, last}
use Rattle.table.specs.Calls.{Out, drain}
use Rattle.table.specs.Sound.{Sound}
use Rattle.table.specs.Sweeps.{clearing}
use Rattle.table.proofs.Cases.{drain-some}
use Rattle.table.proofs.Sieve.{dropped}
use Rattle.dense_sweep.proofs.Swept.{Swept, swept_none, swept-count, swept-more}

pub record Draining (t u : Table) : Type 0 where
  pub swept : Swept t u
  pub rest : clearing u.head.n u ≡ clearing t.head.n t

pub draining_begins : (t : Table) → Sound t → Draining t t
draining_begins t a = record { swept = swept_none t a; rest = refl }

module _ (t u w : Table) (a : Draining t u) (h : 0 < u.head.n) (e : w ≡ (drain u).1) where
  drained : w ≡ dropped u (last u)
  drained = e ∙ ap (λ (o : Out). o.1) (drain-some u a.swept.sound h)

  falls : suc w.head.n ≡ u.head.n
  falls = swept-count t u w a.swept (last u) (omega arith) drained

  pub draining_less : w.head.n < u.head.n
  draining_less = omega (arith, falls)

  pub draining_goes : Draining t w
  unfolding clearing
  draining_goes =
      record {
        swept = swept-more t u w a.swept (last u) (omega arith) drained;
        rest = ap (clearing w.head.n) e ∙ ap (λ (m : ℕ). clearing m u) falls ∙ a.rest;
      }

pub draining_ends : (t u : Table) → Draining t u → u.head.n ≤ 0 → u ≡ clearing t.head.n t
unfolding clearing
draining_ends t u a h = let z : 0 ≡ u.head.n = omega arith in ap (λ (m : ℕ). clearing m u) z ∙ a.rest
