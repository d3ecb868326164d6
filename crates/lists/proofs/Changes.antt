-- How a count changes: with more numbers, and where one number stops or starts to pass. Assumes nothing.
use mathlib.Core.Path.{◌≡◌, sym, ap, ◌∙◌}
use mathlib.Core.Logic.{◌≢◌, by_cases}
use mathlib.Core.Bool.{Bool, true, false}
use Prim.Native.Nat.{ℕ, zero, suc, ◌+◌, ◌≤◌, ◌<◌}
use native.Mathlib.Nat.{add-zero, add-suc}
use native.Mathlib.Omega.{arith}
use native.Mathlib.Decide.{ℕ_discrete}
use Rattle.lists.specs.Count.{count}
use Rattle.lists.proofs.Tests.{true_false}
use Rattle.lists.proofs.Count.{always, always_true, minus, minus_true, minus_off, minus_at, count_zero, count_no, count_always, count_same, count-minus, count_inj}

-- ---- bounds

pub count_le : (P : ℕ → Bool) (n : ℕ) → count P n ≤ n
count_le P n = omega (arith, count_always n, count_inj n P n always (λ k. k) (λ k l p. (l, always_true k)) (λ j k l m p q e. e))

-- one that passes is counted
pub count-some : (P : ℕ → Bool) (n x : ℕ) → x < n → P x ≡ true → 0 < count P n
count-some P n x l p = omega (arith, count-minus P x n l p)

-- one that does not pass is not
pub count_gap : (P : ℕ → Bool) (n x : ℕ) → x < n → P x ≡ false → count P n < n
count_gap P n x l p =
    omega (
      arith,
      count_always n,
      count-minus always x n l (always_true x),
      count_inj n P n (minus always x) (λ k. k) (λ k b q. (b, minus_true always x k (λ e. true_false q (ap P e ∙ p)) (always_true k))) (λ j k b m q r e. e),
    )

-- nor are two
pub count_room : (P : ℕ → Bool) (n x y : ℕ) → x < n → y < n → x ≢ y → P x ≡ false → P y ≡ false → count P n + 2 ≤ n
count_room P n x y lx ly ne px py =
    omega (
      arith,
      count_always n,
      count-minus always x n lx (always_true x),
      count-minus (minus always x) y n ly (minus_true always x y (λ e. ne (sym e)) (always_true y)),
      count_inj n P n (minus (minus always x) y) (λ k. k)
          (λ k l p.
          (l, minus_true (minus always x) y k (λ e. true_false p (ap P e ∙ py)) (minus_true always x k (λ e. true_false p (ap P e ∙ px)) (always_true k))))
          (λ j k l m p q e. e),
    )

-- ---- more numbers

-- none of the next d passes
pub count-more : (P : ℕ → Bool) (n d : ℕ) → ((k : ℕ) → n ≤ k → k < n + d → P k ≡ false) → count P (n + d) ≡ count P n
count-more P n zero h = ap (count P) (add-zero n)
count-more P n (suc d) h =
    ap (count P) (add-suc n d)
    ∙ count_no P (n + d) (h (n + d) (omega arith) (omega arith))
    ∙ count-more P n d (λ k l m. h k l (omega arith))

pub count_none : (P : ℕ → Bool) (n : ℕ) → ((k : ℕ) → k < n → P k ≡ false) → count P n ≡ 0
count_none P n h =
    let e : n ≡ 0 + n = omega arith in
    ap (count P) e ∙ count-more P 0 n (λ k l m. h k (omega arith)) ∙ count_zero P

-- ---- one number changes

-- x passes before and not after
pub count_falls : (P Q : ℕ → Bool) (n x : ℕ) → x < n → P x ≡ true → Q x ≡ false → ((k : ℕ) → k ≢ x → Q k ≡ P k) → suc (count Q n) ≡ count P n
count_falls P Q n x l p q off = ap suc (count_same Q (minus P x) n same) ∙ count-minus P x n l p
  where
    same : (k : ℕ) → k < n → Q k ≡ minus P x k
    same k _ = by_cases (ℕ_discrete k x) (λ e. ap Q e ∙ q ∙ sym (ap (minus P x) e ∙ minus_at P x)) (λ ne. off k ne ∙ sym (minus_off P x k ne))
