-- The threading is right: where the joining slots are vacant and linked as it says, the links from f lead over exactly these slots, the last one
-- first, to s. Assumes nothing.
use mathlib.Core.Path.{◌≡◌, refl, sym, ap, ◌∙◌}
use mathlib.Core.Logic.{by_cases, ⊎_elim}
use mathlib.Core.Bool.{Bool, true, false}
use mathlib.Core.List.{◌∷◌, Memᴰ}
use Prim.Native.Nat.{ℕ, zero, suc, ◌+◌, ◌≤◌, ◌<◌}
use native.Mathlib.Omega.{arith}
use native.Mathlib.Numerals.{add-one}
use native.Mathlib.Decide.{ℕ_discrete}
use Rattle.lists.proofs.Tests.{split}
use Rattle.table.specs.Table.{Table, link}
use Rattle.table.specs.Sound.{Vacant}
use Rattle.table.specs.Thread.{next_free, joined}
use Rattle.table.proofs.Chains.{Chain}

module _ (joins : ℕ → Bool) (s : ℕ) where
  pub next_yes : (i : ℕ) → joins i ≡ true → next_free joins s (i + 1) ≡ i
  unfolding next_free
  next_yes i e = rw (add-one i, e)

  pub next_no : (i : ℕ) → joins i ≡ false → next_free joins s (i + 1) ≡ next_free joins s i
  unfolding next_free
  next_no i e = rw (add-one i, e)

  -- it is s, or a slot that has been passed
  pub next-high : (i : ℕ) → i ≤ s → next_free joins s i ≤ s
  unfolding next_free
  next-high zero h = omega arith
  next-high (suc i) h = split (joins i) (λ e. rw e (omega arith)) (λ e. rw e (next-high i (omega arith)))

  pub next_low : joins 0 ≡ false → 1 ≤ s → (i : ℕ) → 1 ≤ next_free joins s i
  unfolding next_free
  next_low z h zero = h
  next_low z h (suc zero) = rw z h
  next_low z h (suc (suc i)) = split (joins (suc i)) (λ e. rw e (omega arith)) (λ e. rw e (next_low z h (suc i)))

  -- the slots that join are those listed
  pub joined_joins : (i k : ℕ) → Memᴰ k (joined joins i) → (k < i) × (joins k ≡ true)
  unfolding joined
  joined_joins zero k m = absurd (mathlib.Core.List.Memᴰ.not-nil m)
  joined_joins (suc i) k m =
      split (joins i)
      (λ e.
      let n : Memᴰ k (i ∷ joined joins i) = rw e at m in
      ⊎_elim (λ q. (omega arith, ap joins q ∙ e)) (λ r. let w = joined_joins i k r in (omega (arith, w.0), w.1)) (mathlib.Core.List.Memᴰ.cases_cons n))
      (λ e. let w = joined_joins i k (rw e at m) in (omega (arith, w.0), w.1))

  pub joins_joined : (i k : ℕ) → k < i → joins k ≡ true → Memᴰ k (joined joins i)
  unfolding joined
  joins_joined zero k h j = absurd (omega arith)
  joins_joined (suc i) k h j =
      by_cases (ℕ_discrete k i)
      (λ q. let e : joins i ≡ true = ap joins (sym q) ∙ j in rw e (mathlib.Core.List.Memᴰ.head q))
      (λ ne.
      let r = joins_joined i k (omega arith) j in
      split (joins i) (λ e. rw e (mathlib.Core.List.Memᴰ.tail r)) (λ e. rw e r))

-- the soundness of the threading
module _ (t : Table) (joins : ℕ → Bool) (linked : (i : ℕ) → i < t.head.s → joins i ≡ true → Vacant t i × (link t i ≡ next_free joins t.head.s i)) where
  pub thread_chain : (i : ℕ) → i ≤ t.head.s → Chain t (next_free joins t.head.s i) (joined joins i)
  unfolding next_free joined
  thread_chain zero h = refl
  thread_chain (suc i) h =
      let r = thread_chain i (omega arith) in
      split (joins i)
      (λ e.
      let l = linked i (omega arith) e in
      rw e
      (record {
        here = refl;
        vacant = l.0;
        once = λ m. let w = joined_joins joins t.head.s i i m in omega (arith, w.0);
        rest = rw l.1 r;
      }))
      (λ e. rw e r)
