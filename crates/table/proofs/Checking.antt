-- What the parts of the yes-or-no check answer, from the facts that the tests on the way tell. Assumes nothing.
use mathlib.Core.Path.{◌≡◌, sym, ap}
use mathlib.Core.Logic.{◌≢◌}
use mathlib.Core.Bool.{Bool, true, false, not, ◌&&◌}
use Prim.Native.Nat.{ℕ, zero, suc, ◌+◌, ◌-◌, ◌%◌, ◌≤◌, ◌<◌}
use native.Mathlib.Omega.{arith}
use lib.Dec.{eqb}
use borrow.Author.Tests.{eq-eqb}
use Rattle.keys.specs.Keys.{far, idx, vsn}
use Rattle.lists.specs.Count.{count, every}
use Rattle.lists.proofs.Tests.{tests}
use Rattle.table.specs.Table.{Table, ver, link, key, has_shape}
use Rattle.table.specs.Sound.{is_odd, is_home, is_waiting, leads, steps, is_sound}
use Rattle.table.proofs.Shape.{Shape, has_shape_lem}

-- ---- a place's key at home: i and v are its index and its version

module _ (t : Table) (p : ℕ) {i : ℕ} (ei : i ≡ idx (key t p)) where
  pub home_low : i < 1 → false ≡ is_home t p
  unfolding is_home
  home_low l = simp (← ei, tests)

  pub home_high : 1 ≤ i → t.head.s ≤ i → false ≡ is_home t p
  unfolding is_home
  home_high l h = simp (← ei, tests)

  module _ {v : ℕ} (ev : v ≡ vsn (key t p)) (low : 1 ≤ i) (high : i < t.head.s) where
    pub home_other : ver t i ≢ v → false ≡ is_home t p
    unfolding is_home
    home_other ne = simp (← ei, ← ev, tests)

    pub home_even : ver t i ≡ v → eqb (v % 2) 1 ≡ false → false ≡ is_home t p
    unfolding is_home
    home_even e o = simp (← ei, ← ev, tests, o)

    pub home_back : ver t i ≡ v → eqb (v % 2) 1 ≡ true → eqb (link t i) p ≡ is_home t p
    unfolding is_home
    home_back e o = simp (← ei, ← ev, tests, o)

-- ---- a slot that has to be on the free list

module _ (t : Table) (i : ℕ) where
  pub waiting_low : i < 1 → false ≡ is_waiting t i
  unfolding is_waiting
  waiting_low l = simp tests

  pub waiting_odd : 1 ≤ i → ver t i % 2 ≢ 0 → false ≡ is_waiting t i
  unfolding is_waiting
  waiting_odd l o = simp tests

  pub waiting_link : 1 ≤ i → ver t i % 2 ≡ 0 → not (eqb (link t i) far) ≡ is_waiting t i
  unfolding is_waiting
  waiting_link l e = simp tests

-- ---- the walk along the free list

-- whether a walk that has met m slots and stands at g will end, over vacant slots, with w of them in all
abbrev pub ahead : Table → ℕ → ℕ → ℕ → Bool
ahead t w m g = leads t (t.head.s - m) g && eqb (m + steps t (t.head.s - m) g) w

module _ (t : Table) (w : ℕ) where
  pub walk_start : ahead t w 0 t.head.f ≡ (leads t t.head.s t.head.f && eqb (steps t t.head.s t.head.f) w)
  walk_start =
      let e : t.head.s - 0 ≡ t.head.s = omega arith in
      rw e (ap (λ (k : ℕ). leads t t.head.s t.head.f && eqb k w) (omega arith))

  walk_there : (n m g : ℕ) → g ≡ t.head.s → (leads t n g && eqb (m + steps t n g) w) ≡ eqb m w
  unfolding leads steps
  walk_there zero m g e = rw (eq-eqb g t.head.s e) (ap (λ (k : ℕ). eqb k w) (omega arith))
  walk_there (suc n) m g e = rw (eq-eqb g t.head.s e) (ap (λ (k : ℕ). eqb k w) (omega arith))

  module _ (m g : ℕ) where
    pub walk_end : g ≡ t.head.s → eqb m w ≡ ahead t w m g
    walk_end e = sym (walk_there (t.head.s - m) m g e)

    module _ (on : g ≢ t.head.s) where
      pub walk_round : m ≡ t.head.s → false ≡ ahead t w m g
      unfolding leads
      walk_round e =
          let z : t.head.s - m ≡ 0 = omega arith in
          rw z (simp tests)

      module _ (some : m ≤ t.head.s) (more : m ≢ t.head.s) where
        next : t.head.s - m ≡ suc (t.head.s - (m + 1))
        next = omega (arith, more)

        pub walk_low : g < 1 → false ≡ ahead t w m g
        unfolding leads
        walk_low l = rw next (simp tests)

        pub walk_high : 1 ≤ g → t.head.s ≤ g → false ≡ ahead t w m g
        unfolding leads
        walk_high l h = rw next (simp tests)

        pub walk_odd : 1 ≤ g → g < t.head.s → ver t g % 2 ≢ 0 → false ≡ ahead t w m g
        unfolding leads
        walk_odd l h o = rw next (simp tests)

        pub walk_turn : 1 ≤ g → g < t.head.s → ver t g % 2 ≡ 0 → ahead t w (m + 1) (link t g) ≡ ahead t w m g
        unfolding leads steps
        walk_turn l h e =
            rw next (simp tests (ap (λ (k : ℕ). leads t (t.head.s - (m + 1)) (link t g) && eqb k w) (omega arith)))

-- ---- the whole check: m and w are the numbers of odd and of waiting slots

module _ (t : Table) where
  pub check_shape : has_shape t ≡ false → false ≡ is_sound t
  unfolding is_sound
  check_shape e = simp e

  module _ (sh : Shape t) where
    pub check_version : ver t 0 ≢ 0 → false ≡ is_sound t
    unfolding is_sound
    check_version ne = simp (has_shape_lem t sh, tests)

    pub check_link : ver t 0 ≡ 0 → link t 0 ≢ 0 → false ≡ is_sound t
    unfolding is_sound
    check_link v ne = simp (has_shape_lem t sh, tests)

    module _ (v : ver t 0 ≡ 0) (l : link t 0 ≡ 0) where
      pub check_homes : every (is_home t) t.head.n ≡ false → false ≡ is_sound t
      unfolding is_sound
      check_homes e = simp (has_shape_lem t sh, tests, e)

      module _ (e : every (is_home t) t.head.n ≡ true) {m : ℕ} (em : m ≡ count (is_odd t) t.head.s) where
        pub check_odd : m ≢ t.head.n → false ≡ is_sound t
        unfolding is_sound
        check_odd ne = simp (has_shape_lem t sh, tests, e, ← em)

        pub check_list : {w : ℕ} → m ≡ t.head.n → w ≡ count (is_waiting t) t.head.s
            → (leads t t.head.s t.head.f && eqb (steps t t.head.s t.head.f) w) ≡ is_sound t
        unfolding is_sound
        check_list o ew = simp (has_shape_lem t sh, tests, e, ← em, ← ew)
