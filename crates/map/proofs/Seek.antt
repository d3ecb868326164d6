-- The search for an occupied slot, turn by turn. Assumes nothing.
use mathlib.Core.Path.{◌≡◌, ap, ◌∙◌}
use mathlib.Core.Logic.{◌≢◌, by_cases}
use mathlib.Core.List.{List}
use Prim.Native.Nat.{ℕ, zero, suc, ◌+◌, ◌-◌, ◌≤◌, ◌<◌, max}
use native.Mathlib.Omega.{arith}
use lib.ListN.{get_or}
use native.Mathlib.Decide.{ℕ_discrete}
use lib.Dec.{eqb}
use borrow.Author.Tests.{eqb-true, eqb-false, eq-eqb, ne_eqb}
use Rattle.lists.proofs.Tests.{split}
use Rattle.map.specs.Map.{Map, ver}
use Rattle.map.specs.Calls.{seek, ahead}

module _ (vs : List ℕ) (s i : ℕ) where
  -- one slot is looked at, and then the rest
  more : i < s → s - i ≡ suc (s - (i + 1))
  more l = omega arith

  pub seek-occupied : i < s → get_or vs i 0 ≢ 0 → seek vs (s - i) i ≡ i
  unfolding seek
  seek-occupied l ne = rw (more l, ne_eqb (get_or vs i 0) 0 ne)

  pub seek_vacant : i < s → get_or vs i 0 ≡ 0 → seek vs (s - i) i ≡ seek vs (s - (i + 1)) (i + 1)
  unfolding seek
  seek_vacant l e = rw (more l, eq-eqb (get_or vs i 0) 0 e)

  pub seek-end : s ≤ i → seek vs (s - i) i ≡ i
  unfolding seek
  seek-end l = let none : s - i ≡ 0 = omega arith in rw none

-- ---- what the search finds

module _ (vs : List ℕ) where
  pub seek_from : (n i : ℕ) → i ≤ seek vs n i
  unfolding seek
  seek_from zero i = omega arith
  seek_from (suc n) i =
      split (eqb (get_or vs i 0) 0) (λ h. rw h (omega (arith, seek_from n (i + 1)))) (λ h. rw h (omega arith))

  pub seek_passed : (n i j : ℕ) → i ≤ j → j < seek vs n i → get_or vs j 0 ≡ 0
  unfolding seek
  seek_passed zero i j l b = absurd (omega arith)
  seek_passed (suc n) i j l b =
      split (eqb (get_or vs i 0) 0)
      (λ h. by_cases (ℕ_discrete j i) (λ e. ap (λ (k : ℕ). get_or vs k 0) e ∙ eqb-true _ _ h) (λ ne. seek_passed n (i + 1) j (omega arith) (rw h at b)))
      (λ h. let c : j < i = rw h at b in absurd (omega arith))

  pub seek_found : (n i : ℕ) → seek vs n i < i + n → get_or vs (seek vs n i) 0 ≢ 0
  unfolding seek
  seek_found zero i b = absurd (omega arith)
  seek_found (suc n) i b =
      split (eqb (get_or vs i 0) 0)
      (λ h. rw h (seek_found n (i + 1) (let c : seek vs n (i + 1) < i + suc n = rw h at b in omega arith)))
      (λ h. rw h (eqb-false _ _ h))

-- ---- from a place on: 0 reads as 1

pub ahead_from : (m : Map) (p i : ℕ) → i ≡ max p 1 → seek m.versions (m.head.s - i) i ≡ ahead m p
unfolding ahead
ahead_from m p i e = ap (λ (j : ℕ). seek m.versions (m.head.s - j) j) e

pub ahead_after : (m : Map) (p : ℕ) → (p ≤ ahead m p) × (1 ≤ ahead m p)
unfolding ahead
ahead_after m p = omega (arith, seek_from m.versions (m.head.s - max p 1) (max p 1))

-- every slot that it passes is vacant
pub ahead_passed : (m : Map) (p j : ℕ) → p ≤ j → 1 ≤ j → j < ahead m p → ver m j ≡ 0
unfolding ahead
ahead_passed m p j l o b = seek_passed m.versions (m.head.s - max p 1) (max p 1) j (omega arith) b

pub ahead-occupied : (m : Map) (p : ℕ) → ahead m p < m.head.s → ver m (ahead m p) ≢ 0
unfolding ahead
ahead-occupied m p l = seek_found m.versions (m.head.s - max p 1) (max p 1) (omega (arith, seek_from m.versions (m.head.s - max p 1) (max p 1)))
