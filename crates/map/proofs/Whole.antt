-- The yes-or-no check decides what a whole map is. Assumes nothing.
use mathlib.Core.Path.{◌≡◌, refl, sym, ◌∙◌}
use mathlib.Core.Logic.{◌≢◌, ◌⊎◌, inl, inr, ⊎_elim}
use mathlib.Core.Bool.{true, false, cond}
use Prim.Native.Nat.{ℕ, ◌+◌, ◌%◌, ◌≤◌, ◌<◌}
use native.Mathlib.Numerals.{add-one}
use native.Mathlib.Omega.{arith}
use lib.Dec.{eqb}
use borrow.Author.Tests.{eqb-true, eq-eqb, ne_eqb}
use Rattle.lists.specs.Count.{count, every}
use Rattle.lists.proofs.Tests.{split, true_false, false_if, and_true, and_left, and_right}
use Rattle.lists.proofs.Count.{count_yes, count_no, every_at, at_every}
use Rattle.lists.proofs.Changes.{count_le}
use Rattle.map.specs.Map.{Map, ver, is_occupied, has_shape}
use Rattle.map.specs.Whole.{Whole, is_fit, is_whole}

-- ---- one version

zero_or_odd : (v : ℕ) → cond (eqb v 0) true (eqb (v % 2) 1) ≡ true → (v ≡ 0) ⊎ (v % 2 ≡ 1)
zero_or_odd v e = split (eqb v 0) (λ z. inl (eqb-true v 0 z)) (λ z. inr (eqb-true (v % 2) 1 (rw z at e)))

fit_zero : (v : ℕ) → v ≡ 0 → cond (eqb v 0) true (eqb (v % 2) 1) ≡ true
fit_zero v e = rw (eq-eqb v 0 e)

fit-odd : (v : ℕ) → v % 2 ≡ 1 → cond (eqb v 0) true (eqb (v % 2) 1) ≡ true
fit-odd v e = split (eqb v 0) (λ z. rw z) (λ z. rw (z, eq-eqb (v % 2) 1 e))

pub fit : (v : ℕ) → (v ≡ 0) ⊎ (v % 2 ≡ 1) → cond (eqb v 0) true (eqb (v % 2) 1) ≡ true
fit v (inl e) = fit_zero v e
fit v (inr e) = fit-odd v e

-- ---- the check

pub passes_whole : (m : Map) → is_whole m ≡ true → Whole m
unfolding is_whole
passes_whole m e =
    let a = and_right (has_shape m) _ e in
    let b = and_right (eqb (ver m 0) 0) _ a in
    record {
      shape = and_left (has_shape m) _ e;
      first = eqb-true _ _ (and_left (eqb (ver m 0) 0) _ a);
      each = λ i l. zero_or_odd (ver m i) (every_at (is_fit m) m.head.s (and_left (every (is_fit m) m.head.s) _ b) i l);
      counted = eqb-true _ _ (and_right (every (is_fit m) m.head.s) _ b);
    }

pub whole_passes : (m : Map) → Whole m → is_whole m ≡ true
unfolding is_whole
whole_passes m w =
    and_true w.shape
    (and_true (eq-eqb (ver m 0) 0 w.first)
    (and_true (at_every (is_fit m) m.head.s (λ i l. fit (ver m i) (w.each i l)))
    (eq-eqb (count (is_occupied m) m.head.s) m.head.count w.counted)))

-- ---- the check's loop: the slots below i are fit, and n of them are occupied

pub record Scanned (m : Map) (n i : ℕ) : Type 0 where
  pub fits : every (is_fit m) i ≡ true
  pub counted : n ≡ count (is_occupied m) i

pub scanned_start : (m : Map) → Scanned m 0 0
unfolding every count
scanned_start m = record { fits = refl; counted = refl }

module _ (m : Map) (n i : ℕ) (h : Scanned m n i) where
  pub scanned_few : n ≤ i
  scanned_few = omega (arith, h.counted, count_le (is_occupied m) i)

  next_fits : is_fit m i ≡ true → every (is_fit m) (i + 1) ≡ true
  unfolding every
  next_fits e = rw add-one (and_true e h.fits)

  pub scanned_vacant : ver m i ≡ 0 → Scanned m n (i + 1)
  scanned_vacant e =
      record {
        fits = next_fits (fit_zero (ver m i) e);
        counted = h.counted ∙ rw add-one (sym (count_no (is_occupied m) i (rw (eq-eqb (ver m i) 0 e))));
      }

  pub scanned_odd : ver m i ≢ 0 → eqb (ver m i % 2) 1 ≡ true → Scanned m (n + 1) (i + 1)
  scanned_odd ne e =
      record {
        fits = next_fits (fit-odd (ver m i) (eqb-true _ _ e));
        counted = rw (add-one n, add-one i, h.counted) (sym (count_yes (is_occupied m) i (rw (ne_eqb (ver m i) 0 ne))));
      }

  pub scanned_all : i ≡ m.head.s → has_shape m ≡ true → ver m 0 ≡ 0 → eqb n m.head.count ≡ is_whole m
  unfolding is_whole
  scanned_all e sh z =
      let f : every (is_fit m) m.head.s ≡ true = rw e at h.fits in
      let q : count (is_occupied m) m.head.s ≡ n = sym (rw e at h.counted) in
      rw (sh, eq-eqb (ver m 0) 0 z, f, q)

-- a slot below s that is neither vacant nor odd
pub unfit : (m : Map) (i : ℕ) → i < m.head.s → ver m i ≢ 0 → eqb (ver m i % 2) 1 ≡ false → is_whole m ≡ false
unfit m i l ne e =
    false_if (is_whole m) (λ p. ⊎_elim ne (λ o. true_false (eq-eqb (ver m i % 2) 1 o) e) ((passes_whole m p).each i l))

-- an occupied slot 0
pub used : (m : Map) → ver m 0 ≢ 0 → is_whole m ≡ false
used m ne = false_if (is_whole m) (λ p. ne (passes_whole m p).first)
