-- Disjoint's marks: a marked slot is one that an earlier key has, so a key that is not there in the marked map is not there or repeated.
-- Assumes nothing.
use mathlib.Core.Path.{◌≡◌, refl, sym, ap, ◌∙◌}
use mathlib.Core.Logic.{◌≢◌, by_cases, ⊎_elim}
use mathlib.Core.Bool.{true, false}
use mathlib.Core.List.{List, [], ◌∷◌}
use Prim.Native.Nat.{ℕ, ◌<◌}
use native.Mathlib.Omega.{arith}
use native.Mathlib.Decide.{ℕ_discrete}
use lib.ListN.{length, get_or, set}
use lib.Seq.{get_or-set_same, get_or-set_other}
use Rattle.lists.proofs.Tests.{true_false, false_if}
use Rattle.keys.specs.Keys.{idx, version, as_read, pack}
use Rattle.keys.proofs.Keys.{idx-read, is_read, version-odd}
use Rattle.map.specs.Map.{Map, ver}
use Rattle.lists.specs.Among.{among}
use Rattle.lists.proofs.Among.{among_none, among_same, among_there, among_cases}

-- ---- one slot of the marked map: it stands as it was, and no earlier key has its index; or it is marked, and an earlier key has it

pub data Spot (m : Map) (vs earlier : List ℕ) (j : ℕ) : Type 0 where
  free : get_or vs j 0 ≡ ver m j → ((k : ℕ) → among k earlier ≡ true → idx k ≢ j) → Spot m vs earlier j
  held : get_or vs j 0 ≡ 2 → among (pack j (ver m j)) earlier ≡ true → Spot m vs earlier j

-- before the first key
pub spot_free : (m : Map) (j : ℕ) → Spot m m.versions [] j
spot_free m j = free refl (λ k a. true_false a (among_none k))

odd-two : (k : ℕ) → version k ≢ 2
odd-two k e = omega (arith, version-odd k)

module _ (m : Map) (vs earlier : List ℕ) (k : ℕ) where
  -- a key that is there in the marked map is there in the map, and is not repeated
  pub spot_there : Spot m vs earlier (idx k) → get_or vs (idx k) 0 ≡ version k → (ver m (idx k) ≡ version k) × (among (as_read k) earlier ≡ false)
  spot_there (free s n) e =
      (sym s ∙ e, false_if (among (as_read k) earlier) (λ a. n (as_read k) a (idx-read k)))
  spot_there (held s a) e = absurd (odd-two k (sym e ∙ s))

  -- one that is there in the map and not in the marked map is repeated
  pub spot_repeated : Spot m vs earlier (idx k) → get_or vs (idx k) 0 ≢ version k → ver m (idx k) ≡ version k → among (as_read k) earlier ≡ true
  spot_repeated (free s n) ne e = absurd (ne (s ∙ e))
  spot_repeated (held s a) ne e = ap (λ (j : ℕ). among j earlier) (is_read k (idx k) (ver m (idx k)) refl (sym e)) ∙ a

  -- a slot after the key's slot is marked
  pub spot_marked : (j : ℕ) → idx k < length vs → ver m (idx k) ≡ version k → Spot m vs earlier j → Spot m (set vs (idx k) 2) (as_read k ∷ earlier) j
  spot_marked j l e s =
      by_cases (ℕ_discrete j (idx k))
      (λ h. held (ap (λ (n : ℕ). get_or (set vs (idx k) 2) n 0) h ∙ get_or-set_same vs (idx k) 2 0 l)
      (among_same _ _ earlier (ap (λ (n : ℕ). pack n (ver m n)) h ∙ sym (is_read k (idx k) (ver m (idx k)) refl (sym e)))))
      (λ ne. go s ne)
    where
      go : Spot m vs earlier j → j ≢ idx k → Spot m (set vs (idx k) 2) (as_read k ∷ earlier) j
      go (free q n) ne =
          free (get_or-set_other vs (idx k) j 2 0 ne ∙ q)
          (λ i a. ⊎_elim (λ h z. ne (sym z ∙ ap idx h ∙ idx-read k)) (λ b. n i b) (among_cases i (as_read k) earlier a))
      go (held q a) ne = held (get_or-set_other vs (idx k) j 2 0 ne ∙ q) (among_there _ (as_read k) earlier a)
