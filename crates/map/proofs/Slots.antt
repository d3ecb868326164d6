-- What stands in the slots after each change of a map, and that each keeps the shape. Assumes nothing.
use mathlib.Core.Path.{◌≡◌, refl, ap, ◌∙◌}
use mathlib.Core.Logic.{◌≢◌, by_cases}
use mathlib.Core.Bool.{true}
use Prim.Native.Nat.{ℕ, ◌+◌, ◌-◌, ◌<◌}
use native.Mathlib.Omega.{arith}
use native.Mathlib.Decide.{dec_lt}
use lib.ListN.{length, replicate, length-set, length-replicate}
use lib.Seq.{get_or-set_same, get_or-set_other}
use Rattle.lists.proofs.Put.{length-put, get_or-put-before, get_or-put-after}
use Rattle.map.specs.Map.{Map, ver, val, has_shape, grown, with_value, stored, emptied}
use Rattle.map.proofs.Shaped.{shaped, shape_true}
use Rattle.map.proofs.Grown.{grown-below, grown_above}

-- ---- a slot emptied

module _ (m : Map) (i : ℕ) where
  pub emptied_at : i < length m.versions → ver (emptied m i) i ≡ 0
  unfolding emptied
  emptied_at l = get_or-set_same m.versions i 0 0 l

  pub emptied_off : (j : ℕ) → j ≢ i → ver (emptied m i) j ≡ ver m j
  unfolding emptied
  emptied_off j ne = get_or-set_other m.versions i j 0 0 ne

  -- "keeps the stored value"
  pub emptied-values : (emptied m i).values ≡ m.values
  unfolding emptied
  emptied-values = refl

  pub emptied-slots : (emptied m i).head.s ≡ m.head.s
  unfolding emptied
  emptied-slots = refl

  pub emptied-count : (emptied m i).head.count ≡ m.head.count - 1
  unfolding emptied
  emptied-count = refl

  pub emptied-length : length (emptied m i).versions ≡ length m.versions
  unfolding emptied
  emptied-length = length-set m.versions i 0

  pub emptied-shape : has_shape m ≡ true → has_shape (emptied m i) ≡ true
  unfolding emptied
  emptied-shape sh = let h = shaped m sh in shape_true (emptied m i) (omega (arith, h, length-set m.versions i 0))

-- ---- a slot's value overwritten

module _ (m : Map) (i x : ℕ) where
  pub valued_at : i < length m.values → val (with_value m i x) i ≡ x
  unfolding with_value
  valued_at l = get_or-set_same m.values i x 0 l

  pub valued_off : (j : ℕ) → j ≢ i → val (with_value m i x) j ≡ val m j
  unfolding with_value
  valued_off j ne = get_or-set_other m.values i j x 0 ne

  pub valued-versions : (with_value m i x).versions ≡ m.versions
  unfolding with_value
  valued-versions = refl

  pub valued-head : (with_value m i x).head ≡ m.head
  unfolding with_value
  valued-head = refl

  pub valued-shape : has_shape m ≡ true → has_shape (with_value m i x) ≡ true
  unfolding with_value
  valued-shape sh = let h = shaped m sh in shape_true (with_value m i x) (omega (arith, h, length-set m.values i x))

-- ---- an element stored

module _ (m : Map) (i v x n : ℕ) where
  pub stored_at : i < length m.versions → ver (stored m i v x n) i ≡ v
  unfolding stored
  stored_at l = get_or-set_same m.versions i v 0 l

  pub stored_off : (j : ℕ) → j ≢ i → ver (stored m i v x n) j ≡ ver m j
  unfolding stored
  stored_off j ne = get_or-set_other m.versions i j v 0 ne

  pub stored-value : i < length m.values → val (stored m i v x n) i ≡ x
  unfolding stored
  stored-value l = get_or-set_same m.values i x 0 l

  pub stored-others : (j : ℕ) → j ≢ i → val (stored m i v x n) j ≡ val m j
  unfolding stored
  stored-others j ne = get_or-set_other m.values i j x 0 ne

  pub stored-slots : (stored m i v x n).head.s ≡ m.head.s
  unfolding stored
  stored-slots = refl

  pub stored-count : (stored m i v x n).head.count ≡ n
  unfolding stored
  stored-count = refl

  pub stored-shape : has_shape m ≡ true → has_shape (stored m i v x n) ≡ true
  unfolding stored
  stored-shape sh =
      let h = shaped m sh in
      shape_true (stored m i v x n) (omega (arith, h, length-set m.versions i v, length-set m.values i x))

-- ---- a map grown

-- "values untouched"
pub grown-values : (m : Map) (i : ℕ) → (grown m i).values ≡ m.values
grown-values m i =
    by_cases (dec_lt i m.head.s) (λ b. ap (λ (g : Map). g.values) (grown-below m i b)) (λ b. ap (λ (g : Map). g.values) (grown_above m i (omega arith)))

pub grown-count : (m : Map) (i : ℕ) → (grown m i).head.count ≡ m.head.count
grown-count m i =
    by_cases (dec_lt i m.head.s)
    (λ b. ap (λ (g : Map). g.head.count) (grown-below m i b))
    (λ b. ap (λ (g : Map). g.head.count) (grown_above m i (omega arith)))

module _ (m : Map) (i : ℕ) (sh : has_shape m ≡ true) where
  -- the slots that were there stay
  pub grown-old : (j : ℕ) → j < m.head.s → ver (grown m i) j ≡ ver m j
  grown-old j l =
      by_cases (dec_lt i m.head.s)
      (λ b. ap (λ (g : Map). ver g j) (grown-below m i b))
      (λ b. ap (λ (g : Map). ver g j) (grown_above m i (omega arith))
      ∙ get_or-put-before m.versions m.head.s (replicate (i + 1 - m.head.s) 0) j l (shaped m sh).high)

  -- and so do those past the index
  pub grown_past : (j : ℕ) → i < j → ver (grown m i) j ≡ ver m j
  grown_past j l =
      by_cases (dec_lt i m.head.s)
      (λ b. ap (λ (g : Map). ver g j) (grown-below m i b))
      (λ b. ap (λ (g : Map). ver g j) (grown_above m i (omega arith))
      ∙ get_or-put-after m.versions m.head.s (replicate (i + 1 - m.head.s) 0) j (omega (arith, length-replicate {A = ℕ} (i + 1 - m.head.s) 0)) (shaped m sh).high)

  pub grown-length : i < length m.versions → length (grown m i).versions ≡ length m.versions
  grown-length l =
      by_cases (dec_lt i m.head.s)
      (λ b. ap (λ (g : Map). length g.versions) (grown-below m i b))
      (λ b. ap (λ (g : Map). length g.versions) (grown_above m i (omega arith))
      ∙ length-put m.versions m.head.s (replicate (i + 1 - m.head.s) 0) (omega (arith, length-replicate {A = ℕ} (i + 1 - m.head.s) 0, shaped m sh)))

  pub grown-shape : i < length m.versions → has_shape (grown m i) ≡ true
  grown-shape l =
      by_cases (dec_lt i m.head.s)
      (λ b. ap has_shape (grown-below m i b) ∙ sh)
      (λ b.
      let e = grown_above m i (omega arith) in
      shape_true (grown m i)
      (omega (arith, shaped m sh, grown-length l, ap length (grown-values m i), ap (λ (g : Map). g.head.s) e)))
