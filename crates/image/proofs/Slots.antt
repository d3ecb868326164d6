-- What a list of records says of one slot: it is slot 0, or it has a value or none; and in an accepted list its version is odd exactly if it has one.
-- Assumes nothing.
use mathlib.Core.Path.{◌≡◌, refl, sym, ap, ◌∙◌}
use mathlib.Core.Bool.{true, false}
use mathlib.Core.List.{List, [], ◌∷◌}
use Prim.Native.Nat.{ℕ, zero, suc, ◌%◌, ◌^◌, ◌≤◌, ◌<◌}
use native.Mathlib.Omega.{arith}
use lib.Dec.{eqb}
use lib.ListN.{length, get_or}
use borrow.Author.Tests.{eqb-true, eq-eqb, ne_eqb, le-leb, lt-leb}
use Rattle.lists.proofs.Tests.{split, parts, true_false}
use Rattle.lists.specs.Count.{count}
use Rattle.writing.specs.Told.{tells}
use Rattle.writing.proofs.Told.{never}
use Rattle.records.specs.declared.Record.{Record}
use Rattle.records.specs.declared.Record.TheVariants.{Vacant, Occupied}
use Rattle.records.specs.Records.{version_of, presence_of, Fit, FitAll}
use Rattle.summaries.specs.Summaries.{wrong_of, wrongs}
use Rattle.table.specs.Thread.{next_free}
use Rattle.image.specs.Rebuild.{first_wrong, fitting, slot_in, is_full, is_bare, ver_in, link_in}

pub by_record {ℓ} : {C : Type ℓ} (r : Record) → ((v : ℕ) → r ≡ Vacant v → C) → ((v x : ℕ) → r ≡ Occupied v x → C) → C
by_record (Vacant v) f g = f v refl
by_record (Occupied v x) f g = g v x refl

module _ (l : List Record) where
  -- ---- slot 0

  pub first-full : is_full l 0 ≡ false
  unfolding is_full
  first-full = rw (lt-leb 1 0 (omega arith))

  pub first_bare : is_bare l 0 ≡ false
  unfolding is_bare
  first_bare = rw (lt-leb 1 0 (omega arith))

  pub first-version : ver_in l 0 ≡ 0
  unfolding ver_in
  first-version = refl

  pub first-link : link_in l 0 ≡ 0
  unfolding link_in
  first-link = rw (first-full, first_bare)

  -- ---- a slot from 1 up

  module _ (i : ℕ) (low : 1 ≤ i) where
    pub version-is : ver_in l i ≡ version_of (slot_in l i)
    unfolding ver_in
    version-is = rw (ne_eqb i 0 (λ z. omega arith))

    module _ (v : ℕ) (e : slot_in l i ≡ Vacant v) where
      pub vacant_full : is_full l i ≡ false
      unfolding is_full
      vacant_full = rw (le-leb 1 i low, ap presence_of e, ne_eqb 0 1 (λ z. omega arith))

      pub vacant_bare : is_bare l i ≡ true
      unfolding is_bare
      vacant_bare = rw (le-leb 1 i low, ap presence_of e, eq-eqb 0 0 refl)

      pub vacant_link : link_in l i ≡ next_free (is_bare l) (length l) i
      unfolding link_in
      vacant_link = rw (vacant_full, vacant_bare)

      pub vacant_version : ver_in l i ≡ v
      vacant_version = version-is ∙ ap version_of e

    module _ (v x : ℕ) (e : slot_in l i ≡ Occupied v x) where
      pub occupied-full : is_full l i ≡ true
      unfolding is_full
      occupied-full = rw (le-leb 1 i low, ap presence_of e, eq-eqb 1 1 refl)

      pub occupied_bare : is_bare l i ≡ false
      unfolding is_bare
      occupied_bare = rw (le-leb 1 i low, ap presence_of e, ne_eqb 1 0 (λ z. omega arith))

      pub occupied-link : link_in l i ≡ count (is_full l) i
      unfolding link_in
      occupied-link = rw occupied-full

      pub occupied-version : ver_in l i ≡ v
      occupied-version = version-is ∙ ap version_of e

  -- ---- back from the tests

  pub full-low : (i : ℕ) → is_full l i ≡ true → 1 ≤ i
  unfolding is_full
  full-low i h = search parts

  pub bare_low : (i : ℕ) → is_bare l i ≡ true → 1 ≤ i
  unfolding is_bare
  bare_low i h = search parts

  pub full_is : {C : Type 0} (i : ℕ) → is_full l i ≡ true → ((v x : ℕ) → slot_in l i ≡ Occupied v x → C) → C
  full_is i h go = by_record (slot_in l i) (λ v e. true_false h (vacant_full i (full-low i h) v e)) go

  pub bare_is : {C : Type 0} (i : ℕ) → is_bare l i ≡ true → ((v : ℕ) → slot_in l i ≡ Vacant v → C) → C
  bare_is i h go = by_record (slot_in l i) go (λ v x e. true_false h (occupied_bare i (bare_low i h) v x e))

-- ---- accepted lists

none_wrong : (l : List Record) → wrongs l ≡ 0 → (i : ℕ) → i < length l → wrong_of (get_or l i (Vacant 0)) ≡ 0
unfolding wrongs
none_wrong [] e i h = absurd (omega arith)
none_wrong (r ∷ l) e zero h = omega (arith, e)
none_wrong (r ∷ l) e (suc i) h = none_wrong l (omega (arith, e)) i (omega arith)

pub fitting-some : (l : List Record) → fitting l ≡ tells l → 1 ≤ length l
unfolding fitting
fitting-some [] e = never e
fitting-some (r ∷ l) e = omega arith

fitting_right : (l : List Record) → fitting l ≡ tells l → (i : ℕ) → 1 ≤ i → i < length l → wrong_of (slot_in l i) ≡ 0
unfolding fitting
fitting_right [] e i h b = never e
fitting_right (r ∷ l) e zero h b = absurd (omega arith)
fitting_right (r ∷ l) e (suc i) h b =
    split (first_wrong (version_of r) (presence_of r))
    (λ f. never (rw f at e))
    (λ f. split (eqb (wrongs l) 0) (λ g. none_wrong l (eqb-true _ _ g) i (omega arith)) (λ g. never (rw (f, g) at e)))

all_right : (l : List Record) → ((i : ℕ) → i < length l → wrong_of (get_or l i (Vacant 0)) ≡ 0) → wrongs l ≡ 0
unfolding wrongs
all_right [] h = refl
all_right (r ∷ l) h = omega (arith, h 0 (omega arith), all_right l (λ i b. h (suc i) (omega arith)))

-- a list fits that begins well and whose other records are not wrong
pub fits_from : (l : List Record) → 1 ≤ length l → first_wrong (version_of (slot_in l 0)) (presence_of (slot_in l 0)) ≡ false
    → ((i : ℕ) → 1 ≤ i → i < length l → wrong_of (slot_in l i) ≡ 0) → fitting l ≡ tells l
unfolding fitting
fits_from [] h f w = absurd (omega arith)
fits_from (r ∷ l) h f w = rw (f, eq-eqb (wrongs l) 0 (all_right l (λ i b. w (suc i) (omega arith) (omega arith))))

module _ (l : List Record) (fits : fitting l ≡ tells l) (i : ℕ) (low : 1 ≤ i) (high : i < length l) where
  pub vacant_even : (v : ℕ) → slot_in l i ≡ Vacant v → v % 2 ≡ 0
  vacant_even v e = sym (ap wrong_of e) ∙ fitting_right l fits i low high

  pub occupied-odd : (v x : ℕ) → slot_in l i ≡ Occupied v x → v % 2 ≡ 1
  occupied-odd v x e = let w = sym (ap wrong_of e) ∙ fitting_right l fits i low high in omega (arith, w)

-- ---- machine numbers

pub fit_at : (l : List Record) → FitAll l → (i : ℕ) → i < length l → Fit (slot_in l i)
unfolding FitAll
fit_at [] f i h = absurd (omega arith)
fit_at (r ∷ l) f zero h = f.0
fit_at (r ∷ l) f (suc i) h = fit_at l f.1 i (omega arith)

pub fit_all : (l : List Record) → ((i : ℕ) → i < length l → Fit (slot_in l i)) → FitAll l
unfolding FitAll
fit_all [] h = tt
fit_all (r ∷ l) h = (h 0 (omega arith), fit_all l (λ i b. h (suc i) (omega arith)))

pub version-fits : (r : Record) → Fit r → version_of r < 2 ^ 32
version-fits (Vacant v) f = f
version-fits (Occupied v x) f = f.0
