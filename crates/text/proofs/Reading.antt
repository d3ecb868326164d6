-- Decimal text reads back as the number it was made from, so it is one-to-one; its bytes are digits, and no zero leads.
-- By steps from a number to a tenth of it, before any text that follows. Assumes nothing.
use mathlib.Core.Path.{◌≡◌, sym, ap, ◌∙◌, subst}
use mathlib.Core.Logic.{⊎_elim}
use mathlib.Core.List.Memᴰ
use mathlib.Core.List.{List, [], ◌∷◌, ◌++◌, append_assoc, append-nil, Memᴰ}
use Prim.Native.Nat.{ℕ, ◌+◌, ◌*◌, ◌/◌, ◌%◌, ◌≤◌, ◌<◌}
use native.Mathlib.Nat.{eq-zero-or-pos}
use native.Mathlib.Omega.{arith}
use lib.ListN.{get_or}
use borrow.Author.Tests.{le-leb, lt-ltb}
use Rattle.text.specs.Text.{digits, decimal, digit_of, value_from, value_of}
use Rattle.text.proofs.Decimal.{digits_zero, digits_step, digits_then, by_tens}

-- ---- what is written is read

pub digit-of : (d : ℕ) → d < 10 → digit_of (48 + d) ≡ d
unfolding digit_of
digit-of d h = rw (le-leb 48 (48 + d) (omega arith), le-leb (48 + d) 57 (omega arith)) (omega arith)

value-digit : (v d : ℕ) (t : List ℕ) → d < 10 → value_from v ((48 + d) ∷ t) ≡ value_from (v * 10 + d) t
value-digit v d t h = rw (digit-of d h, lt-ltb d 10 h)

-- a number's last digit, read after the value of its tenth
value-last : (n : ℕ) (t : List ℕ) → value_from (n / 10) ((48 + n % 10) ∷ t) ≡ value_from n t
value-last n t = value-digit (n / 10) (n % 10) t (omega arith) ∙ ap (λ (v : ℕ). value_from v t) whole
  where
    whole : n / 10 * 10 + n % 10 ≡ n
    whole = omega arith

value-digits : (n : ℕ) (t : List ℕ) → value_from 0 (digits n ++ t) ≡ value_from n t
value-digits =
    by_tens (λ (n : ℕ). (t : List ℕ) → value_from 0 (digits n ++ t) ≡ value_from n t) (λ t. rw digits_zero)
    (λ n h ih t. rw (digits_then n t h) (ih ((48 + n % 10) ∷ t) ∙ value-last n t))

-- a decimal text before any text: what follows is read on from the number
pub value-decimal_then : (n : ℕ) (t : List ℕ) → value_of (decimal n ++ t) ≡ value_from n t
value-decimal_then n t = rw append_assoc (value-digits (n / 10) ((48 + n % 10) ∷ t) ∙ value-last n t)

pub value-decimal : (n : ℕ) → value_of (decimal n) ≡ n
value-decimal n = ap value_of (sym (append-nil (decimal n))) ∙ value-decimal_then n []

pub decimal_one_to_one : (m n : ℕ) → decimal m ≡ decimal n → m ≡ n
decimal_one_to_one m n e = sym (value-decimal m) ∙ ap value_of e ∙ value-decimal n

-- ---- the bytes of a decimal text

-- the digits before the last are those of a tenth
last : (n x : ℕ) → (Memᴰ x (digits (n / 10)) → (48 ≤ x) × (x ≤ 57)) → Memᴰ x (decimal n) → (48 ≤ x) × (x ≤ 57)
last n x ih m = ⊎_elim ih (λ w. let e : x ≡ 48 + n % 10 = Memᴰ.eq_of_singleton w in (omega arith, omega arith)) (Memᴰ.append_cases (digits (n / 10)) m)

digits-bytes : (n x : ℕ) → Memᴰ x (digits n) → (48 ≤ x) × (x ≤ 57)
digits-bytes =
    by_tens (λ (n : ℕ). (x : ℕ) → Memᴰ x (digits n) → (48 ≤ x) × (x ≤ 57)) (λ x m. absurd (Memᴰ.not-nil (rw digits_zero at m)))
    (λ n h ih x m. last n x (ih x) (rw (digits_step n h) at m))

-- every byte is a digit
pub decimal-bytes : (n x : ℕ) → Memᴰ x (decimal n) → (48 ≤ x) × (x ≤ 57)
decimal-bytes n x m = last n x (digits-bytes (n / 10) x) m

first_step : (n : ℕ) (t : List ℕ) → 0 < n → (0 < n / 10 → 48 < get_or (digits (n / 10) ++ ((48 + n % 10) ∷ t)) 0 0) → 48 < get_or (digits n ++ t) 0 0
first_step n t h ih = rw (digits_then n t h) (⊎_elim alone ih (eq-zero-or-pos (n / 10)))
  where
    alone : n / 10 ≡ 0 → 48 < get_or (digits (n / 10) ++ ((48 + n % 10) ∷ t)) 0 0
    alone e = rw (e, digits_zero) (omega arith)

digits-first : (n : ℕ) (t : List ℕ) → 0 < n → 48 < get_or (digits n ++ t) 0 0
digits-first =
    by_tens (λ (n : ℕ). (t : List ℕ) → 0 < n → 48 < get_or (digits n ++ t) 0 0) (λ t h. absurd (omega arith))
    (λ n h ih t _. first_step n t h (ih ((48 + n % 10) ∷ t)))

-- the first is no zero, of any number but 0
pub decimal-first : (n : ℕ) → 0 < n → 48 < get_or (decimal n) 0 0
decimal-first n h = subst (λ (t : List ℕ). 48 < get_or t 0 0) (append-nil (digits n) ∙ digits_step n h) (digits-first n [] h)
