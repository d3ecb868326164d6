-- Theorem B for insert: it is refused with 3 exactly where the live and the detached keys of the reading together are C. Each index has at most one of
-- those keys, so they are C where every index has one. Assumes nothing.
use mathlib.Core.Path.{◌≡◌, refl, sym, ap, ◌∙◌, subst}
use mathlib.Core.Logic.{inl, inr, by_cases, ⊎_elim, ◌↔◌}
use mathlib.Core.Bool.{true, false}
use mathlib.Core.List.Memᴰ
use mathlib.Core.List.{List, ◌++◌, Memᴰ}
use Prim.Native.Nat.{ℕ, suc, ◌+◌, ◌≤◌, ◌<◌}
use native.Mathlib.Omega.{arith}
use native.Mathlib.Decide.{ℕ_discrete}
use borrow.Author.Tests.{eq-eqb}
use lib.ListN.{length, get_or, length-append}
use Rattle.lists.specs.Count.{count}
use Rattle.lists.proofs.Tests.{true_false}
use Rattle.lists.proofs.Count.{always, minus, always_true, minus_true, count_always, count-minus, count_inj}
use Rattle.lists.specs.Once.{Once}
use Rattle.lists.proofs.Once.{once-append, get_or_mem, once_inj, place, place_at, mem_dec}
use Rattle.keys.specs.Keys.{W, idx, version}
use Rattle.keys.proofs.Keys.{idx-pack}
use Rattle.table.specs.Table.{Table, cap, is_detached}
use Rattle.table.specs.Calls.{refused, insert}
use Rattle.table.specs.Steps.{Call, after, history}
use Rattle.history.specs.Reading.{Reading, reading, keys_of}
use Rattle.history.specs.Begins.{Begins}
use Rattle.table.specs.Refused.{Used}
use Rattle.history.proofs.Readings.{length-keys, value_mem, in_mem}
use Rattle.table.proofs.Shape.{Shape, shape}
use Rattle.table.proofs.Judged.{Live, live}
use Rattle.table.proofs.Facts.{facts_live, detached_facts, facts_detached}
use Rattle.table.proofs.Keeps.{cap-after}
use Rattle.history.proofs.Follows.{find-live}
use Rattle.history.proofs.Begins.{base_live, base_detached, begins-after}
use Rattle.history.proofs.Clock.{own, live_own, away_own}
use Rattle.history.proofs.Full.{full_iff}

module _ (t : Table) (base : Reading) (b : Begins t base) where
  s : Shape t
  s = shape t b.sound.shape

  known : List ℕ
  known = keys_of base.live ++ base.detached

  pub live_own_key : (k : ℕ) → Memᴰ k (keys_of base.live) → k ≡ own t (idx k)
  live_own_key k m = sym (b.live_read k m) ∙ live_own t k (base_live t base b k m)

  away_own_key : (k : ℕ) → Memᴰ k base.detached → k ≡ own t (idx k)
  away_own_key k m = sym (b.detached_read k m) ∙ away_own t k (base_detached t base b k m)

  known_own : (k : ℕ) → Memᴰ k known → k ≡ own t (idx k)
  unfolding known
  known_own k m = ⊎_elim (live_own_key k) (away_own_key k) (Memᴰ.append_cases (keys_of base.live) m)

  known-used : (k : ℕ) → Memᴰ k known → Used t (idx k)
  unfolding known
  known-used k m = (k, refl, ⊎_elim (λ l. inl (facts_live t _ _ (base_live t base b k l))) (λ d. inr (facts_detached t _ _ (base_detached t base b k d))) (Memᴰ.append_cases (keys_of base.live) m))

  known_in : (k : ℕ) → Memᴰ k known → (1 ≤ idx k) × (idx k ≤ cap t)
  known_in k m =
      ⊎_elim
      (λ l. let f = live t _ _ l in (f.low, omega (arith, f.high, s)))
      (λ d. let f = detached_facts t _ _ d in (f.low, omega (arith, f.high, s)))
      (known-used k m).2

  -- no key is both
  known-once : Once known
  unfolding known
  known-once =
      once-append (keys_of base.live) base.detached b.live_once b.detached_once
      (λ k l d. let f = base_live t base b k l in let g = base_detached t base b k d in omega (arith, f.same, g.same))

  -- the key of a used index is among them
  used-known : (i : ℕ) → Used t i → Memᴰ (own t i) known
  unfolding known
  used-known i u =
      let k = u.0 in
      ⊎_elim
      (λ e.
      let l : Live t (idx u.0) (version u.0) = live t _ _ (rw u.1 e) in
      Memᴰ.append_left base.detached
      (Memᴰ.cast (ap (own t) (sym u.1) ∙ sym (live_own t u.0 l)) (value_mem base.live _ _ (sym (b.finds u.0) ∙ find-live t u.0 l))))
      (λ e.
      let e' : is_detached t (idx u.0) (version u.0) ≡ true = rw u.1 e in
      Memᴰ.append_right (keys_of base.live)
      (Memᴰ.cast (ap (own t) (sym u.1) ∙ sym (away_own t u.0 (detached_facts t _ _ e'))) (in_mem base.detached _ (sym (b.aways u.0) ∙ e'))))
      u.2

  own_idx : (i : ℕ) → i < W → idx (own t i) ≡ i
  own_idx i h = idx-pack i _ h

  -- ---- counting: the known keys go to different indexes from 1 to C

  indexes : count (minus always 0) (suc (cap t)) ≡ cap t
  indexes = omega (arith, count-minus always 0 (suc (cap t)) (omega arith) (always_true 0), count_always (suc (cap t)))

  positive : (i : ℕ) → minus always 0 i ≡ true → 1 ≤ i
  unfolding minus
  positive i q =
      by_cases (ℕ_discrete i 0)
      (λ e. let z : false ≡ true = rw (eq-eqb i 0 e) at q in true_false refl (sym z))
      (λ ne. omega (arith, ne))

  key-once : (p q : ℕ) → p < length known → q < length known → idx (get_or known p 0) ≡ idx (get_or known q 0) → p ≡ q
  key-once p q hp hq e =
      once_inj known known-once p q hp hq
      (known_own _ (get_or_mem known p hp) ∙ ap (own t) e ∙ sym (known_own _ (get_or_mem known q hq)))

  known-few : length known ≤ cap t
  known-few =
      let c : count always (length known) ≤ count (minus always 0) (suc (cap t)) =
      count_inj (length known) always (suc (cap t)) (minus always 0) (λ (p : ℕ). idx (get_or known p 0))
      (λ p l _.
      let r = known_in _ (get_or_mem known p l) in
      (omega (arith, r), minus_true always 0 _ (λ z. omega (arith, z, r)) (always_true _)))
      (λ p q hp hq _ _ e. key-once p q hp hq e) in
      omega (arith, c, count_always (length known), indexes)

  -- where every index is used, no fewer than C
  known_all : ((i : ℕ) → 1 ≤ i → i ≤ cap t → Used t i) → cap t ≤ length known
  known_all all =
      let c : count (minus always 0) (suc (cap t)) ≤ count always (length known) =
      count_inj (suc (cap t)) (minus always 0) (length known) always (λ (i : ℕ). place known (own t i))
      (λ i h q. ((place_at known _ (used-known i (all i (positive i q) (omega arith)))).0, always_true _))
      (λ i j hi hj p q e.
      let pi = (place_at known _ (used-known i (all i (positive i p) (omega arith)))).1 in
      let pj = (place_at known _ (used-known j (all j (positive j q) (omega arith)))).1 in
      let w : own t i ≡ own t j = sym pi ∙ ap (λ (m : ℕ). get_or known m 0) e ∙ pj in
      sym (own_idx i (omega (arith, s))) ∙ ap idx w ∙ own_idx j (omega (arith, s))) in
      omega (arith, c, count_always (length known), indexes)

  -- where they are C, no index is left out
  all_known : length known ≡ cap t → (i : ℕ) → 1 ≤ i → i ≤ cap t → Used t i
  all_known e i lo hi =
      let w : i < W = omega (arith, s) in
      by_cases (mem_dec (own t i) known)
      (λ m. subst (Used t) (own_idx i w) (known-used (own t i) m))
      (λ nm.
      let c : count always (length known) ≤ count (minus (minus always 0) i) (suc (cap t)) =
      count_inj (length known) always (suc (cap t)) (minus (minus always 0) i) (λ (p : ℕ). idx (get_or known p 0))
      (λ p l _.
      let m = get_or_mem known p l in
      let r = known_in _ m in (
        omega (arith, r),
        minus_true (minus always 0) i _ (λ z. nm (Memᴰ.cast (ap (own t) (sym z) ∙ sym (known_own _ m)) m))
            (minus_true always 0 _ (λ z. omega (arith, z, r)) (always_true _)),
      ))
      (λ p q hp hq _ _ e. key-once p q hp hq e) in
      let d : suc (count (minus (minus always 0) i) (suc (cap t))) ≡ count (minus always 0) (suc (cap t)) =
      count-minus (minus always 0) i (suc (cap t)) (omega arith) (minus_true always 0 i (λ z. omega (arith, z, lo)) (always_true i)) in
      absurd (omega (arith, c, d, e, count_always (length known), indexes)))

  known-length : length known ≡ length base.live + length base.detached
  unfolding known
  known-length = length-append (keys_of base.live) base.detached ∙ ap (λ (m : ℕ). m + length base.detached) (length-keys base.live)

  pub insert-counts : (x : ℕ) → ((insert t x).0 ≡ refused 3) ↔ (length base.live + length base.detached ≡ cap t)
  insert-counts x =
      let f = full_iff t b.sound x in (
        (λ e. omega (arith, known-length, known-few, known_all (f.0 e))),
        λ e. f.1 (all_known (known-length ∙ e)),
      )

pub insert-reads : (t : Table) (base : Reading) → Begins t base → (cs : List Call) (x : ℕ)
    → ((insert (after t cs) x).0 ≡ refused 3) ↔ (length (reading base (history t cs)).live + length (reading base (history t cs)).detached ≡ cap t)
insert-reads t base b cs x = rw (← cap-after t b.sound cs) (insert-counts (after t cs) _ (begins-after t base b cs) x)
