-- What one byte decides, after any groups and for any largest number. Assumes nothing.
use Prim.Native.Nat.{ℕ, zero, suc, ◌+◌, ◌*◌, ◌/◌, ◌%◌, ◌^◌, ◌≤◌, ◌<◌}
use mathlib.Core.Path.{◌≡◌, refl, sym, ap, ◌∙◌}
use mathlib.Core.List.{List, ◌∷◌}
use mathlib.Core.Logic.{⊎_elim}
use native.Mathlib.Nat.{add-mul, mul-add, mul_assoc, mul_comm}
use native.Mathlib.Numerals.{add-one}
use native.Mathlib.Omega.{arith}
use lib.Pow.{pow-add}
use borrow.Author.Tests.{lt-ltb, le-ltb}
use Rattle.lists.proofs.Tests.{lt_or_le}
use Rattle.writing.specs.Told.{Told, tells, refused}
use Rattle.numbers.specs.declared.Partial.{Partial}
use Rattle.numbers.specs.Numbers.{Step, whole, more, worth, least, take_of, stepped, read_from}

-- ---- worth and least

abbrev pub part : ℕ → ℕ → Partial
part v g = record { value = v; groups = g }

pub worth-next : (g : ℕ) → worth (g + 1) ≡ worth g * 128
worth-next g = ap (λ (n : ℕ). 2 ^ n) (mul-add 7 g 1) ∙ pow-add 2 (7 * g) 7

pub least-small : (g : ℕ) → least g ≤ 1
least-small zero = omega arith
least-small (suc g) = omega arith

pub least-next : (g : ℕ) → least (g + 1) ≡ 1
least-next g = ap least (add-one g)

pub least_pos : (g : ℕ) → 0 < g → least g ≡ 1
least_pos zero h = absurd (omega arith)
least_pos (suc g) h = refl

pub least-none : (g b : ℕ) → g ≤ 0 → least g ≤ b
least-none zero b h = omega arith
least-none (suc g) b h = absurd (omega arith)

pub least-some : (g b : ℕ) → (b ≡ 0 → ⊥) → least g ≤ b
least-some g zero h = absurd (h refl)
least-some g (suc b) h = omega (arith, least-small g)

-- the first group of x and the others, each at its worth, are x
pub regroup : (x k : ℕ) → x % 128 * k + x / 128 * (k * 128) ≡ x * k
regroup x k = sym (ap (λ (y : ℕ). y * k) whole_x ∙ add-mul (x % 128) (x / 128 * 128) k ∙ ap (λ (y : ℕ). x % 128 * k + y) (mul_assoc (x / 128) 128 k ∙ ap (λ (y : ℕ). x / 128 * y) (mul_comm 128 k)))
  where
    whole_x : x ≡ x % 128 + x / 128 * 128
    whole_x = omega arith

-- ---- one byte

module _ (limit v g b : ℕ) where
  pub take-low : b < least g → take_of limit (part v g) b ≡ refused 11
  unfolding take_of
  take-low h = simp (lt-ltb b (least g) h)

  module _ (l : least g ≤ b) where
    pub take-high : limit < v + b * worth g → take_of limit (part v g) b ≡ refused 11
    unfolding take_of
    take-high h = simp (le-ltb b (least g) l, lt-ltb limit (v + b * worth g) h)

    pub take_last : v + b * worth g ≤ limit → b < 128 → take_of limit (part v g) b ≡ tells (whole (v + b * worth g))
    unfolding take_of
    take_last h i = simp (le-ltb b (least g) l, le-ltb limit (v + b * worth g) h, lt-ltb b 128 i)

    pub take_more : v + b * worth g ≤ limit → 128 ≤ b → take_of limit (part v g) b ≡ tells (more (part (v + b % 128 * worth g) (g + 1)))
    unfolding take_of
    take_more h i = simp (le-ltb b (least g) l, le-ltb limit (v + b * worth g) h, le-ltb b 128 i)

-- ---- the number from that byte on

module _ (limit v g b at : ℕ) (s : List ℕ) where
  after : {r : Told Step} → take_of limit (part v g) b ≡ r → read_from limit (b ∷ s) at (part v g) ≡ stepped (at + 1) r (λ q. read_from limit s (at + 1) q)
  unfolding read_from
  after e = ap (λ (x : Told Step). stepped (at + 1) x (λ q. read_from limit s (at + 1) q)) e

  module _ (l : least g ≤ b) (h : v + b * worth g ≤ limit) where
    pub read-last : b < 128 → read_from limit (b ∷ s) at (part v g) ≡ tells (v + b * worth g, at + 1)
    read-last i = after (take_last limit v g b l h i)

    pub read_more : 128 ≤ b → read_from limit (b ∷ s) at (part v g) ≡ read_from limit s (at + 1) (part (v + b % 128 * worth g) (g + 1))
    read_more i = after (take_more limit v g b l h i)

  -- what holds of the number in each of the four cases of the byte holds of it
  pub by_byte : (P : Told (ℕ × ℕ) → Type 0)
      → (b < least g → P (refused 11))
      → (least g ≤ b → limit < v + b * worth g → P (refused 11))
      → (least g ≤ b → v + b * worth g ≤ limit → b < 128 → P (tells (v + b * worth g, at + 1)))
      → (least g ≤ b → v + b * worth g ≤ limit → 128 ≤ b → P (read_from limit s (at + 1) (part (v + b % 128 * worth g) (g + 1))))
      → P (read_from limit (b ∷ s) at (part v g))
  by_byte P low high last goes_on =
      ⊎_elim (λ l. rw (after (take-low limit v g b l)) (low l)) (λ l.
      ⊎_elim (λ h. rw (after (take-high limit v g b l h)) (high l h)) (λ h.
      ⊎_elim (λ i. rw (read-last l h i) (last l h i)) (λ i. rw (read_more l h i) (goes_on l h i))
      (lt_or_le b 128)) (lt_or_le limit (v + b * worth g))) (lt_or_le b (least g))
