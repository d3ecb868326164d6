-- What a judgement answers, from the facts that the tests on the way tell. Assumes nothing.
use mathlib.Core.Path.{◌≡◌}
use mathlib.Core.Logic.{◌≢◌}
use mathlib.Core.Bool.{true, cond}
use Prim.Native.Nat.{ℕ, ◌-◌, ◌%◌, ◌≤◌, ◌<◌}
use Rattle.keys.specs.Keys.{far, vsn, pack, odd, up}
use Rattle.lists.proofs.Tests.{tests}
use Rattle.table.specs.Table.{Table, ver, link, key, cap, is_live, is_held, is_detached, last, last_idx, last_in_range, last_is_held, head_is_free}
use Rattle.table.specs.Calls.{Judged, found, fails, place_in, next_in, berth_in}

-- ---- the place of a live key

module _ (t : Table) (i v : ℕ) (lv : is_live t i v ≡ true) where
  pub place-beyond : t.head.n ≤ link t i → fails 5 ≡ place_in t i v
  unfolding place_in is_held
  place-beyond h = simp (lv, tests)

  pub place_other : link t i < t.head.n → key t (link t i) ≢ pack i v → fails 5 ≡ place_in t i v
  unfolding place_in is_held
  place_other h ne = simp (lv, tests)

  pub place-held : link t i < t.head.n → key t (link t i) ≡ pack i v → found (link t i) ≡ place_in t i v
  unfolding place_in is_held
  place-held h e = simp (lv, tests)

-- ---- the key that an insert issues

module _ (t : Table) where
  module _ (a : t.head.f < t.head.s) where
    pub next-odd : ver t t.head.f % 2 ≢ 0 → fails 5 ≡ next_in t
    unfolding next_in head_is_free
    next-odd o = simp tests

    pub next_low : ver t t.head.f % 2 ≡ 0 → link t t.head.f < 1 → fails 5 ≡ next_in t
    unfolding next_in head_is_free
    next_low e l = simp tests

    pub next-high : ver t t.head.f % 2 ≡ 0 → 1 ≤ link t t.head.f → t.head.s < link t t.head.f → fails 5 ≡ next_in t
    unfolding next_in head_is_free
    next-high e l h = simp tests

    pub next_crowded : ver t t.head.f % 2 ≡ 0 → 1 ≤ link t t.head.f → link t t.head.f ≤ t.head.s → t.head.s - 1 ≤ t.head.n → fails 5 ≡ next_in t
    unfolding next_in head_is_free
    next_crowded e l h n = simp tests

    pub next_free_lem : ver t t.head.f % 2 ≡ 0 → 1 ≤ link t t.head.f → link t t.head.f ≤ t.head.s → t.head.n < t.head.s - 1
        → found (pack t.head.f (odd (ver t t.head.f))) ≡ next_in t
    unfolding next_in head_is_free
    next_free_lem e l h n = simp tests

  pub next-full : t.head.s ≤ t.head.f → cap t < t.head.s → fails 3 ≡ next_in t
  unfolding next_in
  next-full a b = simp tests

  pub next-new : t.head.s ≤ t.head.f → t.head.s ≤ cap t → found (pack t.head.s 1) ≡ next_in t
  unfolding next_in
  next-new a b = simp tests

-- ---- the last key

module _ (t : Table) (x : Judged) where
  pub range_low : last_idx t < 1 → fails 5 ≡ cond (last_in_range t) x (fails 5)
  unfolding last_in_range
  range_low l = simp tests

  pub range_high : 1 ≤ last_idx t → t.head.s ≤ last_idx t → fails 5 ≡ cond (last_in_range t) x (fails 5)
  unfolding last_in_range
  range_high l h = simp tests

  pub range_yes : 1 ≤ last_idx t → last_idx t < t.head.s → x ≡ cond (last_in_range t) x (fails 5)
  unfolding last_in_range
  range_yes l h = simp tests

  pub held_low : last_idx t < 1 → fails 5 ≡ cond (last_is_held t) x (fails 5)
  unfolding last_is_held last_in_range
  held_low l = simp tests

  pub held_high : 1 ≤ last_idx t → t.head.s ≤ last_idx t → fails 5 ≡ cond (last_is_held t) x (fails 5)
  unfolding last_is_held last_in_range
  held_high l h = simp tests

  module _ (l : 1 ≤ last_idx t) (h : last_idx t < t.head.s) where
    pub held-version : ver t (last_idx t) ≢ vsn (key t (last t)) → fails 5 ≡ cond (last_is_held t) x (fails 5)
    unfolding last_is_held last_in_range
    held-version ne = simp tests

    pub held_link : ver t (last_idx t) ≡ vsn (key t (last t)) → link t (last_idx t) ≢ last t → fails 5 ≡ cond (last_is_held t) x (fails 5)
    unfolding last_is_held last_in_range
    held_link e ne = simp tests

    pub held_yes : ver t (last_idx t) ≡ vsn (key t (last t)) → link t (last_idx t) ≡ last t → x ≡ cond (last_is_held t) x (fails 5)
    unfolding last_is_held last_in_range
    held_yes e b = simp tests

-- ---- the slot of a detached key

module _ (t : Table) (i v : ℕ) where
  pub berth-low : i < 1 → fails 4 ≡ berth_in t i v
  unfolding berth_in is_detached
  berth-low l = simp tests

  pub berth-high : 1 ≤ i → t.head.s ≤ i → fails 4 ≡ berth_in t i v
  unfolding berth_in is_detached
  berth-high l h = simp tests

  module _ (l : 1 ≤ i) (h : i < t.head.s) where
    pub berth-version : ver t i ≢ up v → fails 4 ≡ berth_in t i v
    unfolding berth_in is_detached
    berth-version ne = simp tests

    pub berth-link : ver t i ≡ up v → link t i ≢ far → fails 4 ≡ berth_in t i v
    unfolding berth_in is_detached
    berth-link e ne = simp tests

    pub berth_crowded : ver t i ≡ up v → link t i ≡ far → t.head.s - 1 ≤ t.head.n → fails 5 ≡ berth_in t i v
    unfolding berth_in is_detached
    berth_crowded e a n = simp tests

    pub berth_yes : ver t i ≡ up v → link t i ≡ far → t.head.n < t.head.s - 1 → found i ≡ berth_in t i v
    unfolding berth_in is_detached
    berth_yes e a n = simp tests
