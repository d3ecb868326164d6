-- Retain, slot by slot: an element stays where the rule keeps it and is removed where not, and the map stays whole. Assumes nothing.
use mathlib.Core.Path.{◌≡◌, refl, sym, ap, subst, ◌∙◌}
use mathlib.Core.Logic.{◌≢◌, by_cases}
use mathlib.Core.Bool.{Bool, true, false, cond}
use Prim.Native.Nat.{ℕ, zero, suc, ◌+◌, ◌≤◌, ◌<◌}
use native.Mathlib.Omega.{arith}
use native.Mathlib.Decide.{ℕ_discrete}
use lib.Dec.{eqb}
use lib.ListN.{length}
use borrow.Author.Tests.{eq-eqb, ne_eqb}
use Rattle.lists.proofs.Tests.{split}
use Rattle.keys.specs.Keys.{W}
use Rattle.map.specs.Map.{Map, ver, val, emptied}
use Rattle.map.specs.Calls.{Out, remove, key_at}
use Rattle.map.specs.Whole.{Whole}
use Rattle.map.specs.Sweeps.{sieved, retaining}
use Rattle.map.proofs.Shaped.{shaped}
use Rattle.map.proofs.Slots.{emptied_at, emptied_off, emptied-values, emptied-slots, emptied-length}
use Rattle.map.proofs.Keeps.{whole-emptied}
use Rattle.map.proofs.Elements.{remove-element}

-- the version that a slot has afterwards
abbrev pub sifted : (ℕ → ℕ → Bool) → ℕ → Map → ℕ
sifted keeps j m = cond (keeps j (val m j)) (ver m j) 0

module _ (keeps : ℕ → ℕ → Bool) where
  -- ---- one slot, one equation for each outcome

  pub sieved_vacant : (i : ℕ) (m : Map) → ver m i ≡ 0 → sieved keeps i m ≡ m
  unfolding sieved
  sieved_vacant i m e = rw (eq-eqb (ver m i) 0 e)

  pub sieved_kept : (i : ℕ) (m : Map) → keeps i (val m i) ≡ true → sieved keeps i m ≡ m
  unfolding sieved
  sieved_kept i m k = split (eqb (ver m i) 0) (λ h. rw h) (λ h. rw (h, k))

  pub sieved_dropped : (i : ℕ) (m : Map) → ver m i ≢ 0 → keeps i (val m i) ≡ false → sieved keeps i m ≡ emptied m i
  unfolding sieved
  sieved_dropped i m ne k = rw (ne_eqb (ver m i) 0 ne, k)

  -- the three things that can be of a slot
  by_sieve {ℓ} : {A : Type ℓ} (i : ℕ) (m : Map) → (ver m i ≡ 0 → A) → (keeps i (val m i) ≡ true → A) → (ver m i ≢ 0 → keeps i (val m i) ≡ false → A) → A
  by_sieve i m a b d =
      by_cases (ℕ_discrete (ver m i) 0) a (λ ne. split (keeps i (val m i)) b (d ne))

  pub whole-sieved : (i : ℕ) (m : Map) → i < m.head.s → Whole m → Whole (sieved keeps i m)
  whole-sieved i m l w =
      by_sieve i m
      (λ z. subst Whole (sym (sieved_vacant i m z)) w)
      (λ k. subst Whole (sym (sieved_kept i m k)) w)
      (λ ne k. subst Whole (sym (sieved_dropped i m ne k)) (whole-emptied m w i l ne))

  pub sieved-slots : (i : ℕ) (m : Map) → (sieved keeps i m).head.s ≡ m.head.s
  sieved-slots i m =
      by_sieve i m
      (λ z. ap (λ (u : Map). u.head.s) (sieved_vacant i m z))
      (λ k. ap (λ (u : Map). u.head.s) (sieved_kept i m k))
      (λ ne k. ap (λ (u : Map). u.head.s) (sieved_dropped i m ne k) ∙ emptied-slots m i)

  pub sieved-values : (i : ℕ) (m : Map) → (sieved keeps i m).values ≡ m.values
  sieved-values i m =
      by_sieve i m
      (λ z. ap (λ (u : Map). u.values) (sieved_vacant i m z))
      (λ k. ap (λ (u : Map). u.values) (sieved_kept i m k))
      (λ ne k. ap (λ (u : Map). u.values) (sieved_dropped i m ne k) ∙ emptied-values m i)

  pub sieved-length : (i : ℕ) (m : Map) → length (sieved keeps i m).versions ≡ length m.versions
  sieved-length i m =
      by_sieve i m
      (λ z. ap (λ (u : Map). length u.versions) (sieved_vacant i m z))
      (λ k. ap (λ (u : Map). length u.versions) (sieved_kept i m k))
      (λ ne k. ap (λ (u : Map). length u.versions) (sieved_dropped i m ne k) ∙ emptied-length m i)

  sieved_at : (i : ℕ) (m : Map) → i < length m.versions → ver (sieved keeps i m) i ≡ sifted keeps i m
  sieved_at i m l =
      by_sieve i m
      (λ z. ap (λ (u : Map). ver u i) (sieved_vacant i m z) ∙ split (keeps i (val m i)) (λ k. rw k) (λ k. rw k z))
      (λ k. ap (λ (u : Map). ver u i) (sieved_kept i m k) ∙ rw k)
      (λ ne k. ap (λ (u : Map). ver u i) (sieved_dropped i m ne k) ∙ emptied_at m i l ∙ rw k)

  sieved_off : (i : ℕ) (m : Map) (j : ℕ) → j ≢ i → ver (sieved keeps i m) j ≡ ver m j
  sieved_off i m j off =
      by_sieve i m
      (λ z. ap (λ (u : Map). ver u j) (sieved_vacant i m z))
      (λ k. ap (λ (u : Map). ver u j) (sieved_kept i m k))
      (λ ne k. ap (λ (u : Map). ver u j) (sieved_dropped i m ne k) ∙ emptied_off m i j off)

  -- a dropped element is removed by its key
  pub sieved_removed : (i : ℕ) (m : Map) (k : ℕ) → Whole m → i < m.head.s → ver m i ≢ 0 → ver m i < W → keeps i (val m i) ≡ false → k ≡ key_at m i
      → (remove m k).1 ≡ sieved keeps i m
  sieved_removed i m k w l ne word d e =
      ap (λ (j : ℕ). (remove m j).1) e ∙ ap (λ (o : Out). o.1) (remove-element m w i l ne word) ∙ sym (sieved_dropped i m ne d)

  -- ---- n slots, from slot i on

  pub whole-retaining : (n i : ℕ) (m : Map) → i + n ≤ m.head.s → Whole m → Whole (retaining keeps n i m)
  unfolding retaining
  whole-retaining zero i m l w = w
  whole-retaining (suc n) i m l w =
      whole-retaining n (i + 1) (sieved keeps i m) (omega (arith, sieved-slots i m)) (whole-sieved i m (omega arith) w)

  pub retaining-slots : (n i : ℕ) (m : Map) → (retaining keeps n i m).head.s ≡ m.head.s
  unfolding retaining
  retaining-slots zero i m = refl
  retaining-slots (suc n) i m = retaining-slots n (i + 1) (sieved keeps i m) ∙ sieved-slots i m

  pub retaining-values : (n i : ℕ) (m : Map) → (retaining keeps n i m).values ≡ m.values
  unfolding retaining
  retaining-values zero i m = refl
  retaining-values (suc n) i m = retaining-values n (i + 1) (sieved keeps i m) ∙ sieved-values i m

  retaining-before : (n i : ℕ) (m : Map) (j : ℕ) → j < i → ver (retaining keeps n i m) j ≡ ver m j
  unfolding retaining
  retaining-before zero i m j l = refl
  retaining-before (suc n) i m j l = retaining-before n (i + 1) (sieved keeps i m) j (omega arith) ∙ sieved_off i m j (omega arith)

  pub retaining_past : (n i : ℕ) (m : Map) (j : ℕ) → i + n ≤ j → ver (retaining keeps n i m) j ≡ ver m j
  unfolding retaining
  retaining_past zero i m j l = refl
  retaining_past (suc n) i m j l = retaining_past n (i + 1) (sieved keeps i m) j (omega arith) ∙ sieved_off i m j (omega arith)

  pub retaining_at : (n i : ℕ) (m : Map) (j : ℕ) → i + n ≤ m.head.s → Whole m → i ≤ j → j < i + n → ver (retaining keeps n i m) j ≡ sifted keeps j m
  unfolding retaining
  retaining_at zero i m j h w l b = absurd (omega arith)
  retaining_at (suc n) i m j h w l b =
      by_cases (ℕ_discrete j i)
      (λ e.
      retaining-before n (i + 1) (sieved keeps i m) j (omega arith)
      ∙ ap (ver (sieved keeps i m)) e
      ∙ sieved_at i m (omega (arith, shaped m w.shape))
      ∙ ap (λ (k : ℕ). sifted keeps k m) (sym e))
      (λ ne.
      retaining_at n (i + 1) (sieved keeps i m) j (omega (arith, sieved-slots i m)) (whole-sieved i m (omega arith) w) (omega arith) (omega arith)
      ∙ rw (sieved_off i m j ne, sieved-values i m))
