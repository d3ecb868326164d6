-- Retain and clear: a relation between the table before and the table after that holds where nothing is dropped, and is handed on over one removal,
-- holds of the whole sweep. Assumes nothing.
use mathlib.Core.Path.{◌≡◌, refl, sym, ap, subst}
use mathlib.Core.Logic.{by_cases}
use mathlib.Core.Bool.{Bool, true, false}
use Prim.Native.Nat.{ℕ, zero, suc, ◌+◌, ◌≤◌, ◌<◌}
use native.Mathlib.Omega.{arith}
use native.Mathlib.Decide.{ℕ_discrete}
use lib.Dec.{ltb}
use borrow.Author.Tests.{ltb-true, ltb-false}
use Rattle.lists.proofs.Tests.{split}
use Rattle.keys.specs.Keys.{idx}
use Rattle.table.specs.Table.{Table, link, key, val, last}
use Rattle.table.specs.Calls.{Out, remove, drain}
use Rattle.table.specs.Sound.{Sound}
use Rattle.table.specs.Sweeps.{retaining, clearing}
use Rattle.table.proofs.Orderly.{orderly, sound}
use Rattle.table.proofs.Leave.{Leaves, without, without-leaves, without_orderly}
use Rattle.table.proofs.Cases.{stored-occupied, stored-live, remove-live, drain-some}

-- the element of the place p is dropped
abbrev pub dropped : Table → ℕ → Table
dropped u p = without u (idx (key u p))

module _ (u : Table) (a : Sound u) (p : ℕ) (h : p < u.head.n) where
  pub dropped_leaves : Leaves u (dropped u p) (idx (key u p))
  dropped_leaves = without-leaves u (orderly u a) _ (stored-occupied u a p h)

  pub dropped_sound : Sound (dropped u p)
  dropped_sound = sound _ (without_orderly u (orderly u a) _ (stored-occupied u a p h))

  -- "a drop is remove of that key"
  pub drop-removes : (remove u (key u p)).1 ≡ dropped u p
  drop-removes = ap (λ (o : Out). o.1) (remove-live u a (key u p) (stored-live u a p h))

-- ---- retain

module _ (keeps : ℕ → ℕ → Bool) (Rel : Table → Table → Type 0)
    (same : (u : Table) → Sound u → ((q : ℕ) → q < u.head.n → keeps (idx (key u q)) (val u q) ≡ true) → Rel u u)
    (drop : (u w : Table) (p : ℕ) → Sound u → p < u.head.n → keeps (idx (key u p)) (val u p) ≡ false → Rel (dropped u p) w → Rel u w) where
  -- the places before p have been looked at
  walked : (m p : ℕ) (u : Table) → Sound u → u.head.n ≤ p + m → ((q : ℕ) → q < p → q < u.head.n → keeps (idx (key u q)) (val u q) ≡ true)
      → Rel u (retaining keeps m p u)
  unfolding retaining
  walked zero p u a h k = same u a (λ q l. k q (omega arith) l)
  walked (suc m) p u a h k =
      split (ltb p u.head.n)
      (λ e.
      let l : p < u.head.n = ltb-true _ _ e in
      split (keeps (idx (key u p)) (val u p))
      (λ y. rw (e, y) (walked m (p + 1) u a (omega arith)
      (λ q lq ln. by_cases (ℕ_discrete q p) (λ z. rw z y) (λ ne. k q (omega arith) ln))))
      (λ n. rw (e, n, drop-removes u a p l)
      (let c = dropped_leaves u a p l in
      let b : link u (idx (key u p)) ≡ p = (a.homes p l).back in
      drop u _ p a l n (walked m p (dropped u p) (dropped_sound u a p l) (omega (arith, c.count))
      (λ q lq ln. rw (c.key_off q (λ z. omega (arith, z, b)), c.val_off q (λ z. omega (arith, z, b))) (k q lq (omega (arith, c.count))))))))
      (λ e. rw e (same u a (λ q l. k q (omega (arith, ltb-false p u.head.n e)) l)))

  pub retained : (t : Table) → Sound t → Rel t (retaining keeps t.head.n 0 t)
  retained t a = walked t.head.n 0 t a (omega arith) (λ q l. absurd (omega arith))

-- ---- clear

module _ (Rel : Table → Table → Type 0)
    (same : (u : Table) → Sound u → u.head.n ≡ 0 → Rel u u)
    (drop : (u w : Table) (p : ℕ) → Sound u → p < u.head.n → Rel (dropped u p) w → Rel u w) where
  drained : (m : ℕ) (u : Table) → Sound u → u.head.n ≡ m → Rel u (clearing m u)
  unfolding clearing
  drained zero u a h = same u a h
  drained (suc m) u a h =
      let l : last u < u.head.n = omega arith in
      let e : (drain u).1 ≡ dropped u (last u) = ap (λ (o : Out). o.1) (drain-some u a (omega arith)) in
      let c = dropped_leaves u a (last u) l in
      drop u _ (last u) a l
      (subst (λ (z : Table). Rel (dropped u (last u)) (clearing m z)) (sym e)
      (drained m (dropped u (last u)) (dropped_sound u a (last u) l) (omega (arith, c.count))))

  pub cleared : (t : Table) → Sound t → Rel t (clearing t.head.n t)
  cleared t a = drained t.head.n t a refl
