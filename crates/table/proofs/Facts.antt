-- The tests of the calls as facts: shape after a call, live, detached. Assumes nothing.
use mathlib.Core.Path.{◌≡◌}
use mathlib.Core.Bool.{true, false}
use Prim.Native.Nat.{ℕ, ◌+◌, ◌≤◌, ◌<◌}
use native.Mathlib.Omega.{arith}
use Rattle.lists.proofs.Tests.{and_true, tests, parts, false_if}
use Rattle.keys.specs.Keys.{far, up}
use Rattle.table.specs.Table.{Table, ver, link, cap, is_live, is_detached}
use Rattle.table.specs.Frames.{SameLengths}
use Rattle.table.proofs.Shape.{Shape}
use Rattle.table.proofs.Judged.{Live, live}

-- ---- shape

pub shape_like : (t u : Table) → Shape t → SameLengths t u → 1 ≤ u.head.s → u.head.s ≤ cap t + 1 → u.head.n < u.head.s → 1 ≤ u.head.f
    → u.head.f ≤ u.head.s → Shape u
shape_like t u a c sl sh nh fl fh = omega (arith, a, c)

-- ---- live

pub facts_live : (t : Table) (i v : ℕ) → Live t i v → is_live t i v ≡ true
unfolding is_live
facts_live t i v a = search (and_true, tests)

pub not_live : (t : Table) (i v : ℕ) → (Live t i v → ⊥) → is_live t i v ≡ false
not_live t i v h = false_if _ (λ e. h (live t i v e))

-- ---- detached

pub record Detached (t : Table) (i v : ℕ) : Type 0 where
  pub low : 1 ≤ i
  pub high : i < t.head.s
  pub same : ver t i ≡ up v
  pub away : link t i ≡ far

pub detached_facts : (t : Table) (i v : ℕ) → is_detached t i v ≡ true → Detached t i v
unfolding is_detached
detached_facts t i v h = search parts

pub facts_detached : (t : Table) (i v : ℕ) → Detached t i v → is_detached t i v ≡ true
unfolding is_detached
facts_detached t i v a = search (and_true, tests)

pub not_detached : (t : Table) (i v : ℕ) → (Detached t i v → ⊥) → is_detached t i v ≡ false
not_detached t i v h = false_if _ (λ e. h (detached_facts t i v e))
