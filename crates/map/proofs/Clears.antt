-- Clear: as many drain steps as there are elements take them all, and the map stays whole. Assumes nothing.
use mathlib.Core.Path.{◌≡◌, refl, sym, ap, ◌∙◌}
use mathlib.Core.Logic.{◌≢◌, by_cases}
use Prim.Native.Nat.{ℕ, zero, suc, ◌+◌, ◌-◌, ◌≤◌, ◌<◌}
use native.Mathlib.Omega.{arith}
use native.Mathlib.Decide.{ℕ_discrete, dec_lt}
use Rattle.lists.specs.Count.{count}
use Rattle.lists.proofs.Changes.{count_none}
use Rattle.map.specs.Map.{Map, ver, is_occupied}
use Rattle.map.specs.Calls.{Said, said_element, said_done, refused, drain, ahead}
use Rattle.map.specs.Whole.{Whole}
use Rattle.map.specs.Sweeps.{clearing}
use Rattle.map.proofs.Seek.{ahead_passed}
use Rattle.map.proofs.Slots.{emptied_off, emptied-values, emptied-slots, emptied-count}
use Rattle.map.proofs.Keeps.{unoccupied, whole-some}
use Rattle.map.proofs.Drains.{meets-ahead, by_drain, drain_meets, drain_stays, taken}
use Rattle.map.proofs.Wholes.{whole-drain}

-- ---- one step

module _ (m : Map) (p : ℕ) where
  pub drain_frame_slots : (drain m p).1.head.s ≡ m.head.s
  drain_frame_slots = by_drain (λ (u : Map). u.head.s ≡ m.head.s) m p refl (λ i h. emptied-slots m i)

  pub drain_frame_values : (drain m p).1.values ≡ m.values
  drain_frame_values = by_drain (λ (u : Map). u.values ≡ m.values) m p refl (λ i h. emptied-values m i)

  -- past the slots no version changes
  drain_past : (j : ℕ) → m.head.s ≤ j → ver (drain m p).1 j ≡ ver m j
  drain_past j l = by_drain (λ (u : Map). ver u j ≡ ver m j) m p refl (λ i h. emptied_off m i j (λ e. omega arith))

-- a step that answers an element writes its slot's version and no other; one that answers none writes nothing
module _ (m : Map) (p : ℕ) where
  pub drain_frame_versions : (k x q : ℕ) → (drain m p).0 ≡ said_element k x q → (j : ℕ) → j ≢ q - 1 → ver (drain m p).1 j ≡ ver m j
  drain_frame_versions k x q e j ne =
      let t = taken m p k x q (drain m p).1 (ap (λ (a : Said). (a, (drain m p).1)) e) in
      ap (λ (u : Map). ver u j) t.left ∙ emptied_off m (q - 1) j ne

  pub drain-done-keeps : (drain m p).0 ≡ said_done → (drain m p).1 ≡ m
  drain-done-keeps e = drain_stays m p (λ k x q f. let g = sym e ∙ f in let z : ◌≡◌ {A = ℕ} 0 1 = cc in omega arith)

  pub drain-refused-keeps : (r : ℕ) → (drain m p).0 ≡ refused r → (drain m p).1 ≡ m
  drain-refused-keeps r e = drain_stays m p (λ k x q f. let g = sym e ∙ f in let z : ◌≡◌ {A = ℕ} 0 1 = cc in omega arith)

module _ (m : Map) (w : Whole m) where
  -- a map with elements has one ahead of place 0
  some-ahead : m.head.count ≢ 0 → ahead m 0 < m.head.s
  some-ahead ne =
      by_cases (dec_lt (ahead m 0) m.head.s) (λ l. l)
      (λ l.
      let none : count (is_occupied m) m.head.s ≡ 0 =
      count_none (is_occupied m) m.head.s
      (λ j b. unoccupied m j (by_cases (ℕ_discrete j 0) (λ e. ap (ver m) e ∙ w.first) (λ n. ahead_passed m 0 j (omega arith) (omega arith) (omega arith)))) in
      absurd (omega (arith, w.counted, none, ne)))

  drain-count : m.head.count ≢ 0 → (drain m 0).1.head.count + 1 ≡ m.head.count
  drain-count ne = rw (drain_meets m 0 _ (meets-ahead m 0 w.shape (some-ahead ne)) ne) (omega (arith, emptied-count m (ahead m 0), ne))

-- ---- n steps

pub clearing-slots : (n : ℕ) (m : Map) → (clearing n m).head.s ≡ m.head.s
unfolding clearing
clearing-slots zero m = refl
clearing-slots (suc n) m = clearing-slots n (drain m 0).1 ∙ drain_frame_slots m 0

pub clearing_past : (n : ℕ) (m : Map) (j : ℕ) → m.head.s ≤ j → ver (clearing n m) j ≡ ver m j
unfolding clearing
clearing_past zero m j l = refl
clearing_past (suc n) m j l = clearing_past n (drain m 0).1 j (omega (arith, drain_frame_slots m 0)) ∙ drain_past m 0 j l

pub clearing-values : (n : ℕ) (m : Map) → (clearing n m).values ≡ m.values
unfolding clearing
clearing-values zero m = refl
clearing-values (suc n) m = clearing-values n (drain m 0).1 ∙ drain_frame_values m 0

pub whole-clearing : (n : ℕ) (m : Map) → Whole m → Whole (clearing n m)
unfolding clearing
whole-clearing zero m w = w
whole-clearing (suc n) m w = whole-clearing n (drain m 0).1 (whole-drain m w 0)

clearing-count : (n : ℕ) (m : Map) → Whole m → n ≤ m.head.count → (clearing n m).head.count + n ≡ m.head.count
unfolding clearing
clearing-count zero m w l = omega arith
clearing-count (suc n) m w l =
    let d = drain-count m w (omega arith) in
    omega (arith, clearing-count n (drain m 0).1 (whole-drain m w 0) (omega arith))

-- ---- all of them

module _ (m : Map) (w : Whole m) where
  pub cleared_count : (clearing m.head.count m).head.count ≡ 0
  cleared_count = omega (arith, clearing-count m.head.count m w (omega arith))

  pub cleared_vacant : (i : ℕ) → i < m.head.s → ver (clearing m.head.count m) i ≡ 0
  cleared_vacant i l =
      let u = clearing m.head.count m in
      by_cases (ℕ_discrete (ver u i) 0) (λ e. e)
      (λ ne. absurd (whole-some u (whole-clearing m.head.count m w) i (omega (arith, clearing-slots m.head.count m)) ne cleared_count))
