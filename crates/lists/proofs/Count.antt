-- Counting, and the pigeonhole. Assumes nothing.
use mathlib.Core.Path.{◌≡◌, refl, sym, ap, ◌∙◌}
use mathlib.Core.Logic.{◌≢◌, ◌⊎◌, inl, inr, by_cases, ⊎_elim}
use mathlib.Core.Bool.{Bool, true, false, cond}
use Prim.Native.Nat.{ℕ, zero, suc, ◌+◌, ◌≤◌, ◌<◌, zero-le}
use native.Mathlib.Numerals.{add-one}
use native.Mathlib.Omega.{arith}
use native.Mathlib.Decide.{ℕ_discrete}
use lib.Dec.{eqb}
use borrow.Author.Tests.{eq-eqb, ne_eqb}
use Rattle.lists.specs.Count.{count, every}
use Rattle.lists.proofs.Tests.{split, true_false, and_true, and_left, and_right, false_if}

pub always : ℕ → Bool
always k = true

unfoldable pub minus : (ℕ → Bool) → ℕ → ℕ → Bool
minus P x k = cond (eqb k x) false (P k)

pub always_true : (k : ℕ) → always k ≡ true
unfolding always
always_true k = refl

pub minus_true : (P : ℕ → Bool) (x k : ℕ) → k ≢ x → P k ≡ true → minus P x k ≡ true
unfolding minus
minus_true P x k ne h = rw (ne_eqb k x ne) h

pub minus_off : (P : ℕ → Bool) (x k : ℕ) → k ≢ x → minus P x k ≡ P k
unfolding minus
minus_off P x k ne = rw (ne_eqb k x ne)

pub minus_at : (P : ℕ → Bool) (x : ℕ) → minus P x x ≡ false
unfolding minus
minus_at P x = rw (eq-eqb x x refl)

pub count_yes : (P : ℕ → Bool) (n : ℕ) → P n ≡ true → count P (suc n) ≡ suc (count P n)
unfolding count
count_yes P n h = rw h

pub count_no : (P : ℕ → Bool) (n : ℕ) → P n ≡ false → count P (suc n) ≡ count P n
unfolding count
count_no P n h = rw h

pub count_zero : (P : ℕ → Bool) → count P 0 ≡ 0
unfolding count
count_zero P = refl

pub count_always : (n : ℕ) → count always n ≡ n
count_always zero = count_zero always
count_always (suc n) = count_yes always n (always_true n) ∙ ap suc (count_always n)

pub count_same : (P Q : ℕ → Bool) (n : ℕ) → ((k : ℕ) → k < n → P k ≡ Q k) → count P n ≡ count Q n
count_same P Q zero h = count_zero P ∙ sym (count_zero Q)
count_same P Q (suc n) h =
    let ih : count P n ≡ count Q n = count_same P Q n (λ k l. h k (omega arith)) in
    split (Q n)
    (λ q. count_yes P n (h n (omega arith) ∙ q) ∙ ap suc ih ∙ sym (count_yes Q n q))
    (λ q. count_no P n (h n (omega arith) ∙ q) ∙ ih ∙ sym (count_no Q n q))

pub count-minus : (P : ℕ → Bool) (x n : ℕ) → x < n → P x ≡ true → suc (count (minus P x) n) ≡ count P n
count-minus P x zero h p = absurd (omega arith)
count-minus P x (suc n) h p =
    by_cases (ℕ_discrete n x)
    (λ e.
    ap suc (count_no (minus P x) n (ap (minus P x) e ∙ minus_at P x) ∙ count_same (minus P x) P n (λ k l. minus_off P x k (omega arith)))
    ∙ sym (count_yes P n (ap P e ∙ p)))
    (λ ne.
    let ih : suc (count (minus P x) n) ≡ count P n = count-minus P x n (omega arith) p in
    split (P n)
    (λ q. ap suc (count_yes (minus P x) n (minus_off P x n ne ∙ q) ∙ ih) ∙ sym (count_yes P n q))
    (λ q. ap suc (count_no (minus P x) n (minus_off P x n ne ∙ q)) ∙ ih ∙ sym (count_no P n q)))

-- a map that sends those below s that pass P to others below n that pass Q, and no two to one
pub count_inj : (s : ℕ) (P : ℕ → Bool) (n : ℕ) (Q : ℕ → Bool) (h : ℕ → ℕ) → ((k : ℕ) → k < s → P k ≡ true → (h k < n) × (Q (h k) ≡ true))
    → ((j k : ℕ) → j < s → k < s → P j ≡ true → P k ≡ true → h j ≡ h k → j ≡ k) → count P s ≤ count Q n
count_inj zero P n Q h into inj = rw (count_zero P) zero-le
count_inj (suc s) P n Q h into inj =
    split (P s)
    (λ p.
    let at = into s (omega arith) p in
    let ih : count P s ≤ count (minus Q (h s)) n =
    count_inj s P n (minus Q (h s)) h
    (λ k l q. ((into k (omega arith) q).0, minus_true Q (h s) (h k) (λ e. omega (arith, inj k s (omega arith) (omega arith) q p e)) (into k (omega arith) q).1))
    (λ j k l m. inj j k (omega arith) (omega arith)) in
    omega (arith, count_yes P s p, count-minus Q (h s) n at.0 at.1))
    (λ p.
    let ih : count P s ≤ count Q n = count_inj s P n Q h (λ k l. into k (omega arith)) (λ j k l m. inj j k (omega arith) (omega arith)) in
    omega (arith, count_no P s p))

pub every_at : (P : ℕ → Bool) (n : ℕ) → every P n ≡ true → (k : ℕ) → k < n → P k ≡ true
unfolding every
every_at P zero e k h = absurd (omega arith)
every_at P (suc n) e k h =
    by_cases (ℕ_discrete k n)
    (λ q. ap P q ∙ and_left (P n) (every P n) e)
    (λ ne. every_at P n (and_right (P n) (every P n) e) k (omega arith))

pub at_every : (P : ℕ → Bool) (n : ℕ) → ((k : ℕ) → k < n → P k ≡ true) → every P n ≡ true
unfolding every
at_every P zero h = refl
at_every P (suc n) h = and_true (h n (omega arith)) (at_every P n (λ k l. h k (omega arith)))

-- the first n values of g are searched for x
pub find-below : (g : ℕ → ℕ) (x n : ℕ) → ((p : ℕ) × (p < n) × (g p ≡ x)) ⊎ ((p : ℕ) → p < n → g p ≢ x)
find-below g x zero = inr (λ p h. absurd (omega arith))
find-below g x (suc n) =
    by_cases (ℕ_discrete (g n) x)
    (λ e. inl (n, omega arith, e))
    (λ ne. ⊎_elim
    (λ q. inl (q.0, omega (arith, q.1), q.2))
    (λ none. inr (λ p h e. by_cases (ℕ_discrete p n) (λ q. ne (ap g (sym q) ∙ e)) (λ nq. none p (omega arith) e)))
    (find-below g x n))

-- ---- a loop upwards: what it knows below i, a turn of it, and its end

pub record Tally (P : ℕ → Bool) (i m : ℕ) : Type 0 where
  pub few : m ≤ i
  pub same : m ≡ count P i

module _ (P : ℕ → Bool) where
  pub tally_none : Tally P 0 0
  tally_none = record { few = omega arith; same = sym (count_zero P) }

  pub tally_yes : (i : ℕ) {m k : ℕ} → Tally P i m → P i ≡ true → k ≡ m + 1 → Tally P (i + 1) k
  tally_yes i w h e = record { few = omega arith; same = rw (add-one i) (omega (arith, count_yes P i h)) }

  pub tally_no : (i : ℕ) {m k : ℕ} → Tally P i m → P i ≡ false → k ≡ m → Tally P (i + 1) k
  tally_no i w h e = record { few = omega arith; same = rw (add-one i) (omega (arith, count_no P i h)) }

  pub tally_all : {n i m : ℕ} → Tally P i m → i ≤ n → n ≤ i → m ≡ count P n
  tally_all {n} {i} w h l = let e : i ≡ n = omega arith in w.same ∙ ap (count P) e

  pub every-none : every P 0 ≡ true
  unfolding every
  every-none = refl

  pub every_yes : (i : ℕ) → every P i ≡ true → P i ≡ true → every P (i + 1) ≡ true
  unfolding every
  every_yes i e h = rw (add-one i) (and_true h e)

  pub every_no : {n i : ℕ} → i < n → P i ≡ false → false ≡ every P n
  every_no {n} {i} l h = sym (false_if (every P n) (λ e. true_false (every_at P n e i l) h))

  pub every_all : {n i : ℕ} → every P i ≡ true → i ≤ n → n ≤ i → true ≡ every P n
  every_all {n} {i} e h l = let q : i ≡ n = omega arith in sym e ∙ ap (every P) q
