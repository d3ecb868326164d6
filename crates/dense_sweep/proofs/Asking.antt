-- What a sweep was told before its first step: a refusal is the call's own, and an acceptance says that the table is sound. Assumes nothing.
use mathlib.Core.Path.{◌≡◌, ap, ◌∙◌}
use mathlib.Core.Bool.{true, false}
use Prim.Native.Nat.{ℕ, ◌<◌}
use native.Mathlib.Omega.{arith}
use Rattle.lists.proofs.Tests.{split}
use Rattle.keys.specs.Keys.{W}
use Rattle.table.specs.Table.{Table, ver, has_shape}
use Rattle.table.specs.Calls.{Said, said_done, refused}
use Rattle.table.specs.Sound.{Sound, is_sound}
use Rattle.table.specs.Sweeps.{asked}
use Rattle.table.proofs.Decides.{passes_sound}
use Rattle.dense_sweep.specs.Asked.{asked_said}

module _ (t : Table) where
  -- the cases of the two tests
  ways {ℓ} : {A : Type ℓ} → (has_shape t ≡ false → asked_said t ≡ refused 1 → A) → (has_shape t ≡ true → is_sound t ≡ false → asked_said t ≡ refused 5 → A)
      → (has_shape t ≡ true → is_sound t ≡ true → asked_said t ≡ said_done → A) → A
  unfolding asked_said
  ways one five done =
      split (has_shape t) (λ a. split (is_sound t) (λ b. done a b (rw (a, b))) (λ b. five a b (rw (a, b)))) (λ a. one a (rw a))

  pub asked-refused : (u : Table) (r : ℕ) → refused r ≡ asked_said t → (refused r, t) ≡ asked t u
  asked-refused u r e =
      ways
      (λ a q. rw a (ap (λ (x : Said). (x, t)) (e ∙ q)))
      (λ a b q. rw (a, b) (ap (λ (x : Said). (x, t)) (e ∙ q)))
      (λ a b q. let z : ◌≡◌ {A = ℕ} 0 1 = cc in absurd (omega arith))

  module _ (e : said_done ≡ asked_said t) where
    passed : (has_shape t ≡ true) × (is_sound t ≡ true)
    passed =
        ways
        (λ a q. let z : ◌≡◌ {A = ℕ} 0 1 = cc in absurd (omega arith))
        (λ a b q. let z : ◌≡◌ {A = ℕ} 0 1 = cc in absurd (omega arith))
        (λ a b q. (a, b))

    pub asked-done : (u w : Table) → u ≡ w → (said_done, u) ≡ asked t w
    asked-done u w q = rw (passed.0, passed.1, q)

    -- versions in lent arrays are 32-bit numbers
    pub asked-sound : ((i : ℕ) → ver t i < W) → Sound t
    asked-sound words = passes_sound t (λ i l. words i) passed.1
