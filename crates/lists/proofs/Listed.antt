-- Lists made number by number: their lengths, and what stands where. The numbers that pass stand in order, each at the count of those before it.
-- Assumes nothing.
use mathlib.Core.Path.{◌≡◌, refl, sym, ap, ◌∙◌}
use mathlib.Core.Logic.{by_cases, ⊎_elim}
use mathlib.Core.Bool.{Bool, true, false}
use mathlib.Core.List.{List, [], ◌∷◌, ◌++◌, Memᴰ}
use Prim.Native.Nat.{ℕ, zero, suc, ◌+◌, ◌≤◌, ◌<◌}
use native.Mathlib.Omega.{arith}
use native.Mathlib.Numerals.{add-one}
use native.Mathlib.Decide.{ℕ_discrete}
use lib.ListN.{length, get_or, length-append, get_or-append}
use lib.Seq.{get_or_at, ext_get_or}
use Rattle.lists.specs.Count.{count}
use Rattle.lists.specs.Listed.{listed, picked}
use Rattle.lists.proofs.Tests.{split}
use Rattle.lists.proofs.Count.{count_yes, count_no}
use Rattle.lists.specs.Once.{Once}
use Rattle.lists.proofs.Once.{once_nil, once_cons, once-append, get_or_mem}

-- ---- counts

module _ (P : ℕ → Bool) where
  pub count-few : (n : ℕ) → count P n ≤ n
  unfolding count
  count-few zero = omega arith
  count-few (suc n) = split (P n) (λ e. omega (arith, count_yes P n e, count-few n)) (λ e. omega (arith, count_no P n e, count-few n))

  -- fewer than all, where the first does not pass
  pub count_fewer : P 0 ≡ false → (n : ℕ) → count P (suc n) ≤ n
  unfolding count
  count_fewer h zero = rw h (omega arith)
  count_fewer h (suc n) = split (P (suc n)) (λ e. omega (arith, count_yes P (suc n) e, count_fewer h n)) (λ e. omega (arith, count_no P (suc n) e, count_fewer h n))

  -- a number that passes is counted after it
  pub count-below : (n i : ℕ) → i < n → P i ≡ true → count P i < count P n
  count-below zero i h p = absurd (omega arith)
  count-below (suc n) i h p =
      by_cases (ℕ_discrete i n)
      (λ e. let q : P n ≡ true = ap P (sym e) ∙ p in omega (arith, count_yes P n q, ap (count P) e))
      (λ ne.
      let r = count-below n i (omega arith) p in
      split (P n) (λ e. omega (arith, count_yes P n e)) (λ e. omega (arith, count_no P n e)))

  -- every count below the last belongs to a number that passes
  pub count_reaches : (n p : ℕ) → p < count P n → (i : ℕ) × (i < n) × (P i ≡ true) × (count P i ≡ p)
  unfolding count
  count_reaches zero p h = absurd (omega arith)
  count_reaches (suc n) p h =
      by_cases (ℕ_discrete (count P n) p)
      (λ e. split (P n) (λ q. (n, omega arith, q, e)) (λ q. absurd (omega (arith, h, count_no P n q))))
      (λ ne.
      let less : p < count P n = split (P n) (λ q. omega (arith, h, count_yes P n q)) (λ q. omega (arith, h, count_no P n q)) in
      let r = count_reaches n p less in
      (r.0, omega (arith, r.1), r.2, r.3))

-- ---- all numbers below n

module _ {A : Type 0} (g : ℕ → A) where
  pub listed_more : (n : ℕ) → listed g (n + 1) ≡ listed g n ++ (g n ∷ [])
  unfolding listed
  listed_more n = rw (add-one n)

  pub length-listed : (n : ℕ) → length (listed g n) ≡ n
  unfolding listed
  length-listed zero = refl
  length-listed (suc n) = length-append (listed g n) (g n ∷ []) ∙ omega (arith, length-listed n)

  pub get_or-listed : (n i : ℕ) (d : A) → i < n → get_or (listed g n) i d ≡ g i
  unfolding listed
  get_or-listed zero i d h = absurd (omega arith)
  get_or-listed (suc n) i d h =
      by_cases (ℕ_discrete i n)
      (λ e. get_or_at (listed g n) (g n) [] d i (length-listed n ∙ sym e) ∙ ap g (sym e))
      (λ ne. get_or-append (listed g n) (g n ∷ []) d i (omega (arith, length-listed n)) ∙ get_or-listed n i d (omega arith))

-- a list is made of its own elements
pub listed_same : {A : Type 0} (g : ℕ → A) (l : List A) (d : A) (n : ℕ) → length l ≡ n → ((i : ℕ) → i < n → g i ≡ get_or l i d) → listed g n ≡ l
listed_same g l d n e h =
    ext_get_or d (listed g n) l (length-listed g n ∙ sym e) (λ i b. let q : i < n = omega (arith, length-listed g n) in get_or-listed g n i d q ∙ h i q)

-- ---- those that pass

module _ {A : Type 0} (P : ℕ → Bool) (g : ℕ → A) where
  pub picked_yes : (n : ℕ) → P n ≡ true → picked P g (n + 1) ≡ picked P g n ++ (g n ∷ [])
  unfolding picked
  picked_yes n e = rw (add-one n, e)

  pub picked_no : (n : ℕ) → P n ≡ false → picked P g (n + 1) ≡ picked P g n
  unfolding picked
  picked_no n e = rw (add-one n, e)

  pub length-picked : (n : ℕ) → length (picked P g n) ≡ count P n
  unfolding picked count
  length-picked zero = refl
  length-picked (suc n) =
      split (P n)
      (λ e. rw e (length-append (picked P g n) (g n ∷ []) ∙ omega (arith, length-picked n)))
      (λ e. rw e (length-picked n))

  pub get_or-picked : (n i : ℕ) (d : A) → i < n → P i ≡ true → get_or (picked P g n) (count P i) d ≡ g i
  unfolding picked
  get_or-picked zero i d h p = absurd (omega arith)
  get_or-picked (suc n) i d h p =
      by_cases (ℕ_discrete i n)
      (λ e.
      let q : P n ≡ true = ap P (sym e) ∙ p in
      rw q (get_or_at (picked P g n) (g n) [] d (count P i) (length-picked n ∙ ap (count P) (sym e)) ∙ ap g (sym e)))
      (λ ne.
      let r = get_or-picked n i d (omega arith) p in
      split (P n)
      (λ q. rw q (get_or-append (picked P g n) (g n ∷ []) d (count P i) (omega (arith, length-picked n, count-below P n i (omega arith) p)) ∙ r))
      (λ q. rw q r))

-- ---- members

-- who is picked
pub mem_picked : {A : Type 0} (P : ℕ → Bool) (g : ℕ → A) (n : ℕ) (x : A) → Memᴰ x (picked P g n) → (i : ℕ) × (i < n) × (P i ≡ true) × (x ≡ g i)
unfolding picked
mem_picked P g zero x m = absurd (mathlib.Core.List.Memᴰ.not-nil m)
mem_picked P g (suc n) x m =
    split (P n)
    (λ e.
    let w : Memᴰ x (picked P g n ++ (g n ∷ [])) = rw e at m in
    ⊎_elim
    (λ q. let r = mem_picked P g n x q in (r.0, omega (arith, r.1), r.2, r.3))
    (λ q. (n, omega arith, e, mathlib.Core.List.Memᴰ.eq_of_singleton q))
    (mathlib.Core.List.Memᴰ.append_cases (picked P g n) w))
    (λ e. let r = mem_picked P g n x (rw e at m) in (r.0, omega (arith, r.1), r.2, r.3))

pub picked_mem : (P : ℕ → Bool) (g : ℕ → ℕ) (n i : ℕ) → i < n → P i ≡ true → Memᴰ (g i) (picked P g n)
picked_mem P g n i h p =
    mathlib.Core.List.Memᴰ.cast (sym (get_or-picked P g n i 0 h p)) (get_or_mem (picked P g n) (count P i) (omega (arith, length-picked P g n, count-below P n i h p)))

-- different numbers are picked once
pub once-picked : (P : ℕ → Bool) (g : ℕ → ℕ) (n : ℕ) → ((i j : ℕ) → i < n → j < n → P i ≡ true → P j ≡ true → g i ≡ g j → i ≡ j) → Once (picked P g n)
unfolding picked
once-picked P g zero inj = once_nil
once-picked P g (suc n) inj =
    let r = once-picked P g n (λ i j h k. inj i j (omega arith) (omega arith)) in
    split (P n)
    (λ e. rw e
    (once-append (picked P g n) (g n ∷ []) r (once_cons (g n) [] mathlib.Core.List.Memᴰ.not-nil once_nil) (λ x m q.
    let w = mem_picked P g n x m in
    let z : w.0 ≡ n = inj w.0 n (omega (arith, w.1)) (omega arith) w.2 e (sym w.3 ∙ mathlib.Core.List.Memᴰ.eq_of_singleton q) in
    omega (arith, z, w.1))))
    (λ e. rw e r)
