-- Laws of decimal text: its length, by a step from a number to a tenth of it, and its digits put into a buffer from the last on. Assumes nothing.
use mathlib.Core.Path.{◌≡◌, refl, sym, ap, ◌∙◌, subst}
use mathlib.Core.Logic.{⊎_elim}
use mathlib.Core.List.{List, [], ◌∷◌, ◌++◌, append_assoc}
use Prim.Native.Nat.{ℕ, zero, suc, ◌+◌, ◌*◌, ◌-◌, ◌/◌, ◌%◌, ◌^◌, ◌≤◌, ◌<◌, zero-le, suc-le-suc}
use native.Mathlib.Nat.{pow-suc, not-suc-le-zero, eq-zero-or-pos, le_refl}
use native.Mathlib.Decide.{le_ind}
use native.Mathlib.Omega.{arith}
use lib.ListN.{length, set, length-append}
use lib.Arith.{lt-one, le-zero}
use Rattle.lists.specs.Put.{put}
use Rattle.lists.proofs.Put.{put_nil, put_snoc}
use Rattle.keys.specs.Keys.{W}
use Rattle.text.specs.Text.{last_digits, digits, decimal}

-- ---- digits, a step at a time

more : (f n : ℕ) → n ≤ f → last_digits (suc f) n ≡ last_digits f n
more zero zero h = refl
more zero (suc n) h = absurd (not-suc-le-zero h)
more (suc f) zero h = refl
more (suc f) (suc n) h = ap (λ (l : List ℕ). l ++ ((48 + suc n % 10) ∷ [])) (more f (suc n / 10) (omega arith))

enough : (f n : ℕ) → n ≤ f → last_digits f n ≡ last_digits n n
enough f n h = le_ind (λ (m : ℕ). last_digits m n ≡ last_digits n n) refl (λ m k e. more m n k ∙ e) f h

-- the digits of a number above 0 are its decimal text
pub digits_step : (n : ℕ) → 0 < n → digits n ≡ decimal n
unfolding digits
digits_step zero h = absurd (not-suc-le-zero h)
digits_step (suc n) h = ap (λ (l : List ℕ). l ++ ((48 + suc n % 10) ∷ [])) (enough n (suc n / 10) (omega arith))

pub digits_zero : digits 0 ≡ []
unfolding digits
digits_zero = refl

pub digits-none : (n : ℕ) → n ≤ 0 → length (digits n) ≡ 0
digits-none n h = ap (λ (m : ℕ). length (digits m)) (le-zero h) ∙ ap length digits_zero

-- the digits of a number before a text: those of a tenth, and then the last
pub digits_then : (n : ℕ) (t : List ℕ) → 0 < n → digits n ++ t ≡ digits (n / 10) ++ ((48 + n % 10) ∷ t)
digits_then n t h = ap (λ (l : List ℕ). l ++ t) (digits_step n h) ∙ append_assoc (digits (n / 10)) ((48 + n % 10) ∷ []) t

below : (P : ℕ → Type 0) → P 0 → ((n : ℕ) → 0 < n → P (n / 10) → P n) → (f n : ℕ) → n ≤ f → P n
below P none step zero n h = subst P (sym (le-zero h)) none
below P none step (suc f) n h =
    ⊎_elim (λ e. subst P (sym e) none) (λ p. step n p (below P none step f (n / 10) (omega arith))) (eq-zero-or-pos n)

-- what holds of 0, and of a number where it holds of its tenth, holds of all
pub by_tens : (P : ℕ → Type 0) → P 0 → ((n : ℕ) → 0 < n → P (n / 10) → P n) → (n : ℕ) → P n
by_tens P none step n = below P none step n n (le_refl n)

-- ---- how long a decimal text is

pub length-decimal : (n : ℕ) → length (decimal n) ≡ length (digits (n / 10)) + 1
length-decimal n = simp length-append

short_step : (k : ℕ) → ((m : ℕ) → m < 10 ^ k → length (digits m) ≤ k) → (n : ℕ) → n < 10 ^ suc k → length (digits n) ≤ suc k
short_step k ih zero h = rw digits_zero zero-le
short_step k ih (suc n) h =
    let g : suc n < 10 ^ k * 10 = rw pow-suc at h in
    let i : length (digits (suc n / 10)) ≤ k = ih (suc n / 10) (omega arith) in
    rw (digits_step (suc n) (suc-le-suc zero-le)) (omega (arith, length-decimal (suc n)))

-- so many digits hold a number below so great a power of ten
pub digits_short : (k n : ℕ) → n < 10 ^ k → length (digits n) ≤ k
digits_short zero n h = rw (lt-one h, digits_zero) zero-le
digits_short (suc k) n h = short_step k (digits_short k) n h

pub length-decimal_32 : (n : ℕ) → n < W → length (decimal n) ≤ 10
length-decimal_32 n h = omega (arith, length-decimal n, digits_short 9 (n / 10) (omega arith))

pub length-decimal_64 : (n : ℕ) → n < 2 ^ 64 → length (decimal n) ≤ 20
length-decimal_64 n h = omega (arith, length-decimal n, digits_short 19 (n / 10) (omega arith))

-- ---- digits put into a buffer from the last on

-- a turn of the loop that puts a number's digits in from the back, and its end; whole is what comes out
module _ (out whole : List ℕ) (at i rest : ℕ) (e : put out at (digits rest) ≡ whole) where
  pub back-turn : 0 < rest → i ≡ at + length (digits rest) → i ≤ length out
      → (i - 1 ≡ at + length (digits (rest / 10))) × (put (set out (i - 1) (48 + rest % 10)) at (digits (rest / 10)) ≡ whole)
  back-turn h p l = (there, rw there (put_snoc out at (48 + rest % 10) (digits (rest / 10)) room ∙ ap (put out at) (sym (digits_step rest h)) ∙ e))
    where
      long : length (digits rest) ≡ length (digits (rest / 10)) + 1
      long = ap length (digits_step rest h) ∙ length-decimal rest

      there : i - 1 ≡ at + length (digits (rest / 10))
      there = omega (arith, long)

      room : at + length (digits (rest / 10)) < length out
      room = omega (arith, long)

  pub back_end : rest ≤ 0 → out ≡ whole
  back_end h = sym (ap (put out at) (ap digits (le-zero h) ∙ digits_zero) ∙ put_nil out at) ∙ e

pub back_start : (out : List ℕ) (at n end : ℕ) → end ≡ at + length (decimal n) → end ≤ length out
    → put (set out (end - 1) (48 + n % 10)) at (digits (n / 10)) ≡ put out at (decimal n)
back_start out at n end p l = rw there (put_snoc out at (48 + n % 10) (digits (n / 10)) (omega (arith, length-decimal n)))
  where
    there : end - 1 ≡ at + length (digits (n / 10))
    there = omega (arith, length-decimal n)
