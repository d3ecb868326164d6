-- Every call keeps a map whole. Each change is seen slot by slot, and the count with it. Assumes nothing.
use mathlib.Core.Path.{◌≡◌, sym, ap, ◌∙◌}
use mathlib.Core.Logic.{◌≢◌, inl, inr, by_cases}
use mathlib.Core.Bool.{true, false, not}
use Prim.Native.Nat.{ℕ, ◌+◌, ◌-◌, ◌%◌, ◌≤◌, ◌<◌}
use native.Mathlib.Omega.{arith}
use native.Mathlib.Decide.{ℕ_discrete, dec_lt}
use lib.Dec.{eqb}
use lib.ListN.{length}
use borrow.Author.Tests.{eq-eqb, ne_eqb}
use Rattle.lists.specs.Count.{count}
use Rattle.lists.proofs.Count.{count_same}
use Rattle.lists.proofs.Changes.{count-some, count_gap, count_room, count-more, count_falls}
use Rattle.map.specs.Map.{Map, ver, is_occupied, grown, with_value, stored, emptied}
use Rattle.map.specs.Whole.{Whole}
use Rattle.map.proofs.Shaped.{shaped}
use Rattle.map.proofs.Grown.{grown-below, grown_above, grown-new}
use Rattle.map.proofs.Slots.{emptied_at, emptied_off, emptied-slots, emptied-count, emptied-shape, valued-shape, stored_at, stored_off, stored-slots, stored-count, stored-shape, grown-old, grown-count, grown-shape}

-- ---- occupied and vacant slots

pub occupied : (m : Map) (i : ℕ) → ver m i ≢ 0 → is_occupied m i ≡ true
occupied m i ne = rw (ne_eqb (ver m i) 0 ne)

pub unoccupied : (m : Map) (i : ℕ) → ver m i ≡ 0 → is_occupied m i ≡ false
unoccupied m i e = rw (eq-eqb (ver m i) 0 e)

occupied-same : (m u : Map) (i : ℕ) → ver u i ≡ ver m i → is_occupied u i ≡ is_occupied m i
occupied-same m u i e = ap (λ (w : ℕ). not (eqb w 0)) e

-- ---- the count of a whole map

module _ (m : Map) (w : Whole m) where
  -- slot 0 is not counted
  pub whole-few : m.head.count < m.head.s
  whole-few = omega (arith, w.counted, count_gap (is_occupied m) m.head.s 0 (shaped m w.shape).low (unoccupied m 0 w.first))

  -- an occupied slot is
  pub whole-some : (i : ℕ) → i < m.head.s → ver m i ≢ 0 → m.head.count ≢ 0
  whole-some i l ne = λ e. omega (arith, w.counted, count-some (is_occupied m) m.head.s i l (occupied m i ne))

  pub whole_above : (i : ℕ) → ver m i ≢ 0 → i ≢ 0
  whole_above i ne e = ne (ap (ver m) e ∙ w.first)

  -- a vacant slot leaves room for an element
  pub whole_room : (i : ℕ) → i < m.head.s → i ≢ 0 → ver m i ≡ 0 → m.head.count < m.head.s - 1
  whole_room i l ne e =
      omega (
        arith,
        w.counted,
        count_room (is_occupied m) m.head.s 0 i (shaped m w.shape).low l (λ z. ne (sym z)) (unoccupied m 0 w.first) (unoccupied m i e),
      )

  -- ---- an element leaves

  pub whole-emptied : (i : ℕ) → i < m.head.s → ver m i ≢ 0 → Whole (emptied m i)
  whole-emptied i l ne =
      let at = emptied_at m i (omega (arith, shaped m w.shape)) in
      record {
        shape = emptied-shape m i w.shape;
        first = emptied_off m i 0 (λ z. whole_above i ne (sym z)) ∙ w.first;
        each =
            λ j b.
            by_cases (ℕ_discrete j i)
            (λ e. inl (ap (ver (emptied m i)) e ∙ at))
            (λ no. rw (emptied_off m i j no) (w.each j (rw (emptied-slots m i) at b)));
        counted =
            omega (
              arith,
              w.counted,
              emptied-count m i,
              ap (count (is_occupied (emptied m i))) (emptied-slots m i),
              count_falls (is_occupied m) (is_occupied (emptied m i)) m.head.s i l (occupied m i ne) (unoccupied (emptied m i) i at)
                  (λ j no. occupied-same m (emptied m i) j (emptied_off m i j no)),
            );
      }

  -- ---- an element enters

  -- a slot from 1 up takes an odd version; the rest is the count's
  stored-whole : (i v x n : ℕ) → i < m.head.s → i ≢ 0 → v % 2 ≡ 1 → count (is_occupied (stored m i v x n)) m.head.s ≡ n → Whole (stored m i v x n)
  stored-whole i v x n l low od c =
      record {
        shape = stored-shape m i v x n w.shape;
        first = stored_off m i v x n 0 (λ z. low (sym z)) ∙ w.first;
        each =
            λ j b.
            by_cases (ℕ_discrete j i)
            (λ e. inr (rw (ap (ver (stored m i v x n)) e, stored_at m i v x n (omega (arith, shaped m w.shape))) od))
            (λ ne. rw (stored_off m i v x n j ne) (w.each j (rw (stored-slots m i v x n) at b)));
        counted = ap (count (is_occupied (stored m i v x n))) (stored-slots m i v x n) ∙ c ∙ sym (stored-count m i v x n);
      }

  odd-some : (v : ℕ) → v % 2 ≡ 1 → v ≢ 0
  odd-some v od e = omega arith

  -- in a vacant slot
  pub whole-filled : (i v x : ℕ) → i < m.head.s → i ≢ 0 → ver m i ≡ 0 → v % 2 ≡ 1 → Whole (stored m i v x (m.head.count + 1))
  whole-filled i v x l low e od =
      let u = stored m i v x (m.head.count + 1) in
      let at : ver u i ≡ v = stored_at m i v x _ (omega (arith, shaped m w.shape)) in
      stored-whole i v x _ l low od
      (omega (
        arith,
        w.counted,
        count_falls (is_occupied u) (is_occupied m) m.head.s i l (occupied u i (λ z. odd-some v od (sym at ∙ z))) (unoccupied m i e)
            (λ j ne. sym (occupied-same m u j (stored_off m i v x _ j ne))),
      ))

  -- over another element
  pub whole_over : (i v x : ℕ) → i < m.head.s → ver m i ≢ 0 → v % 2 ≡ 1 → Whole (stored m i v x m.head.count)
  whole_over i v x l ne od =
      let u = stored m i v x m.head.count in
      let at : ver u i ≡ v = stored_at m i v x _ (omega (arith, shaped m w.shape)) in
      stored-whole i v x _ l (whole_above i ne) od
      (count_same (is_occupied u) (is_occupied m) m.head.s
      (λ j b. by_cases (ℕ_discrete j i)
      (λ e. ap (is_occupied u) e ∙ occupied u i (λ z. odd-some v od (sym at ∙ z)) ∙ sym (ap (is_occupied m) e ∙ occupied m i ne))
      (λ no. occupied-same m u j (stored_off m i v x _ j no)))
      ∙ w.counted)

  -- ---- a value changes

  pub whole-valued : (i x : ℕ) → Whole (with_value m i x)
  unfolding with_value
  whole-valued i x = record { shape = valued-shape m i x w.shape; first = w.first; each = w.each; counted = w.counted }

  -- ---- slots are made

  grown-whole : (i : ℕ) → i < length m.versions → m.head.s ≤ i → Whole (grown m i)
  grown-whole i l b =
      let g = grown m i in
      let sh = shaped m w.shape in
      let slots : g.head.s ≡ i + 1 = ap (λ (u : Map). u.head.s) (grown_above m i b) in
      let more : m.head.s + (i + 1 - m.head.s) ≡ g.head.s = omega arith in
      record {
        shape = grown-shape m i w.shape l;
        first = grown-old m i w.shape 0 sh.low ∙ w.first;
        each =
            λ j h.
            by_cases (dec_lt j m.head.s)
            (λ o. rw (grown-old m i w.shape j o) (w.each j o))
            (λ o. inl (grown-new m i j l (omega arith) (omega arith)));
        counted =
            ap (count (is_occupied g)) (sym more)
            ∙ count-more (is_occupied g) m.head.s (i + 1 - m.head.s) (λ j o h. unoccupied g j (grown-new m i j l o (omega arith)))
            ∙ count_same (is_occupied g) (is_occupied m) m.head.s (λ j o. occupied-same m g j (grown-old m i w.shape j o))
            ∙ w.counted
            ∙ sym (grown-count m i);
      }

  pub whole-grown : (i : ℕ) → i < length m.versions → Whole (grown m i)
  whole-grown i l = by_cases (dec_lt i m.head.s) (λ b. rw (grown-below m i b) w) (λ b. grown-whole i l (omega arith))
