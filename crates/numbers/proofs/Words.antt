-- The rules' words for reading a number say what `number_at` says, at any width. Assumes nothing.
use Prim.Native.Nat.{ℕ, zero, suc, ◌+◌, ◌-◌, ◌*◌, ◌%◌, ◌^◌, ◌≤◌, ◌<◌}
use mathlib.Core.Path.{◌≡◌, refl}
use mathlib.Core.Bool.{Bool, true, false, ◌||◌, or-true}
use mathlib.Core.List.{List, [], ◌∷◌}
use mathlib.Core.Logic.{◌⊎◌, inl, inr, ⊎_elim}
use native.Mathlib.Nat.{mul-le-mul_right}
use native.Mathlib.Omega.{arith}
use lib.Dec.{leb, eqb}
use lib.ListN.{drop}
use lib.Seq.{get_or-drop}
use lib.Pow.{pow_pos, pow_mono, pow-add}
use borrow.Author.Tests.{lt-ltb, le-ltb, le-leb, eq-eqb, ne_eqb, leb-true, eqb-true}
use Rattle.lists.proofs.Tests.{lt_or_le, and_true, and_left, and_right, false_if}
use Rattle.numbers.specs.Numbers.{worth, least, read_from, number_at, Bytes}
use Rattle.numbers.specs.Words.{zero_last, last_byte, last_wrong, by_words}
use Rattle.numbers.proofs.Numbers.{part, worth-next, by_byte}

-- ---- the tests

or_cases : (a b : Bool) → (a || b) ≡ true → (a ≡ true) ⊎ (b ≡ true)
or_cases true b e = inl refl
or_cases false b e = inr e

zero_last_lem : (g b : ℕ) → b < least g → zero_last g b ≡ true
zero_last_lem zero b h = absurd (omega arith)
zero_last_lem (suc g) b h = rw (lt-ltb 0 (suc g) (omega arith), eq-eqb b 0 (omega arith))

no_zero_last : (g b : ℕ) → least g ≤ b → zero_last g b ≡ false
no_zero_last zero b h = refl
no_zero_last (suc g) b h = rw (lt-ltb 0 (suc g) (omega arith), ne_eqb b 0 (λ z. absurd (omega arith)))

-- ---- the byte that is the last one a width allows; v is below the worth of the groups before it

module _ (bits v g b : ℕ) (below : v < worth g) (inside : 7 * g < bits) where
  -- before it, nothing overflows
  room : g + 1 < last_byte bits → b < 256 → v + b * worth g < 2 ^ bits
  room h f =
      let two : 2 ^ (7 * g + 8) ≡ worth g * 256 = pow-add 2 (7 * g) 8 in
      omega (arith, two, mul-le-mul_right {m = b} {n = 255} (worth g) (omega arith), pow_mono {i = 7 * g + 8} {j = bits} (omega arith))

  -- there, what goes on overflows
  full : g + 1 ≡ last_byte bits → 128 ≤ b → 2 ^ bits ≤ v + b * worth g
  full h i =
      let seven : 2 ^ (7 * g + 7) ≡ worth g * 128 = pow-add 2 (7 * g) 7 in
      omega (arith, seven, mul-le-mul_right {m = 128} {n = b} (worth g) i, pow_mono {i = bits} {j = 7 * g + 7} (omega arith))

  wrong : b < 256 → 2 ^ bits ≤ v + b * worth g → last_wrong bits v g b ≡ true
  wrong f h =
      ⊎_elim (λ i. absurd (omega (arith, room i f))) (λ i.
      and_true (eq-eqb (g + 1) (last_byte bits) (omega arith)) (rw (le-leb (2 ^ bits) (v + b * worth g) h) (or-true (leb 128 b))))
      (lt_or_le (g + 1) (last_byte bits))

  right : v + b * worth g < 2 ^ bits → last_wrong bits v g b ≡ false
  right h =
      false_if (last_wrong bits v g b) (λ e.
      ⊎_elim (λ i. omega (arith, full (eqb-true (g + 1) (last_byte bits) (and_left _ _ e)) (leb-true 128 b i)))
      (λ i. omega (arith, leb-true (2 ^ bits) (v + b * worth g) i))
      (or_cases (leb 128 b) (leb (2 ^ bits) (v + b * worth g)) (and_right (eqb (g + 1) (last_byte bits)) _ e)))

  -- what goes on within the width leaves bits for another group
  onwards : v + b * worth g < 2 ^ bits → 128 ≤ b → 7 * (g + 1) < bits
  onwards h i =
      ⊎_elim (λ j. omega arith) (λ j. absurd (omega (arith, full (omega arith) i))) (lt_or_le (g + 1) (last_byte bits))

  -- the groups so far stay below the worth of the next one
  grows : v + b % 128 * worth g < worth (g + 1)
  grows = omega (arith, worth-next g, mul-le-mul_right {m = b % 128} {n = 127} (worth g) (omega arith))

-- ---- the same reading

same : (bits : ℕ) (s : List ℕ) (at v g : ℕ) → Bytes s → v < worth g → 7 * g < bits → by_words bits s at v g ≡ read_from (2 ^ bits - 1) s at (part v g)
unfolding by_words read_from
same bits [] at v g f below inside = refl
same bits (b ∷ s) at v g f below inside =
    by_byte (2 ^ bits - 1) v g b at s (λ r. by_words bits (b ∷ s) at v g ≡ r) (λ l. rw (zero_last_lem g b l))
    (λ l h. rw (no_zero_last g b l, wrong bits v g b below inside (f 0) (omega arith)))
    (λ l h i. rw (no_zero_last g b l, right bits v g b below inside (omega (arith, pow_pos bits)), lt-ltb b 128 i)) (λ l h i.
    rw (no_zero_last g b l, right bits v g b below inside (omega (arith, pow_pos bits)), le-ltb b 128 i)
    (same bits s (at + 1) (v + b % 128 * worth g) (g + 1) (λ j. f (suc j)) (grows bits v g b below inside)
    (onwards bits v g b below inside (omega (arith, pow_pos bits)) i)))

-- what the rules' words say is what `number_at` says
pub worded : (bits : ℕ) (s : List ℕ) (at : ℕ) → 0 < bits → Bytes s → by_words bits (drop at s) at 0 0 ≡ number_at bits s at
unfolding number_at
worded bits s at h f = same bits (drop at s) at 0 0 (λ i. rw get_or-drop (f (at + i))) (omega arith) (omega arith)
