-- What each call leaves alone, of any map: the versions and values of other slots, every value where only versions are written,
-- and everything where the call is refused. Assumes nothing.
use mathlib.Core.Path.{◌≡◌, refl, sym, ap, ◌∙◌}
use mathlib.Core.Logic.{◌≢◌, ◌⊎◌, by_cases, ⊎_elim}
use mathlib.Core.List.{List}
use Prim.Native.Nat.{ℕ, ◌+◌, ◌<◌}
use native.Mathlib.Omega.{arith}
use native.Mathlib.Decide.{ℕ_discrete}
use lib.ListN.{get_or}
use Rattle.keys.specs.Keys.{idx, version, key_of}
use Rattle.map.specs.Map.{Map, ver, val, grown, with_value, emptied}
use Rattle.map.specs.Calls.{refused, Out, put, insert, remove}
use Rattle.map.proofs.Cases.{by_slot, put_unshaped, put-absent, put-there, remove_unshaped, remove_absent, remove-there, remove_uncounted}
use Rattle.map.proofs.Slots.{emptied_off, emptied-values, emptied-slots, valued_off, valued-versions, valued-head, stored_off, stored-others, grown-old, grown_past, grown-values}
use Rattle.map.proofs.Ways.{Way, unshaped, null, at_zero, too_far, same, under, over, vacant, crowded, new, new_crowded, way, out_by, insert-number}
use Rattle.map.proofs.Lookups.{answer, after}

-- ---- put and remove leave the map as it is, or change one slot

by_put : (P : Map → Type 0) (m : Map) (k x : ℕ) → P m → P (with_value m (idx k) x) → P (put m k x).1
by_put P m k x a b =
    by_slot m k
    (λ sh. rw (put_unshaped m k sh x) a)
    (λ sh t. rw (put-absent m k sh t x) a)
    (λ sh t. rw (put-there m k sh t x) b)

by_remove : (P : Map → Type 0) (m : Map) (k : ℕ) → P m → P (emptied m (idx k)) → P (remove m k).1
by_remove P m k a b =
    by_slot m k
    (λ sh. rw (remove_unshaped m k sh) a)
    (λ sh t. rw (remove_absent m k sh t) a)
    (λ sh t. by_cases (ℕ_discrete m.head.count 0) (λ z. rw (remove_uncounted m k sh t z) a) (λ ne. rw (remove-there m k sh t ne) b))

module _ (m : Map) (k x : ℕ) where
  -- put writes one value and nothing else
  pub put_frame_versions : (put m k x).1.versions ≡ m.versions
  put_frame_versions = by_put (λ (u : Map). u.versions ≡ m.versions) m k x refl (valued-versions m (idx k) x)

  pub put_frame_head : (put m k x).1.head ≡ m.head
  put_frame_head = by_put (λ (u : Map). u.head ≡ m.head) m k x refl (valued-head m (idx k) x)

  pub put_frame_values : (j : ℕ) → j ≢ idx k → val (put m k x).1 j ≡ val m j
  put_frame_values j ne = by_put (λ (u : Map). val u j ≡ val m j) m k x refl (valued_off m (idx k) x j ne)

  pub put-refused-keeps : (r : ℕ) → (put m k x).0 ≡ refused r → (put m k x).1 ≡ m
  put-refused-keeps r e =
      by_slot m k
      (λ sh. after (put_unshaped m k sh x))
      (λ sh t. after (put-absent m k sh t x))
      (λ sh t. let f = sym (answer (put-there m k sh t x)) ∙ e in let z : ◌≡◌ {A = ℕ} 0 1 = cc in absurd (omega arith))

module _ (m : Map) (k : ℕ) where
  -- remove writes one version and the count: the value stays
  pub remove_frame_values : (remove m k).1.values ≡ m.values
  remove_frame_values = by_remove (λ (u : Map). u.values ≡ m.values) m k refl (emptied-values m (idx k))

  pub remove_frame_slots : (remove m k).1.head.s ≡ m.head.s
  remove_frame_slots = by_remove (λ (u : Map). u.head.s ≡ m.head.s) m k refl (emptied-slots m (idx k))

  pub remove_frame_versions : (j : ℕ) → j ≢ idx k → ver (remove m k).1 j ≡ ver m j
  remove_frame_versions j ne = by_remove (λ (u : Map). ver u j ≡ ver m j) m k refl (emptied_off m (idx k) j ne)

  pub remove-refused-keeps : (r : ℕ) → (remove m k).0 ≡ refused r → (remove m k).1 ≡ m
  remove-refused-keeps r e =
      by_slot m k
      (λ sh. after (remove_unshaped m k sh))
      (λ sh t. after (remove_absent m k sh t))
      (λ sh t. by_cases (ℕ_discrete m.head.count 0)
      (λ z. after (remove_uncounted m k sh t z))
      (λ ne. let f = sym (answer (remove-there m k sh t ne)) ∙ e in let z : ◌≡◌ {A = ℕ} 0 1 = cc in absurd (omega arith)))

-- ---- insert

module _ (m : Map) (k x : ℕ) where
  -- it writes one value: growing writes none
  pub insert_frame_values : (j : ℕ) → j ≢ idx k → val (insert m k x).1 j ≡ val m j
  unfolding out_by
  insert_frame_values j ne = ap (λ (o : Out). val o.1 j) (insert-number m k x (way m (key_of k))) ∙ go (way m (key_of k))
    where
      go : (w : Way m (key_of k)) → val (out_by w x).1 j ≡ val m j
      go (unshaped sh) = refl
      go (null sh n) = refl
      go (at_zero sh n z) = refl
      go (too_far sh n z l) = refl
      go (same p l e) = valued_off m (idx k) x j ne
      go (under t o) = refl
      go (over t o) = stored-others m (idx k) (version k) x m.head.count j ne
      go (vacant p l z r) = stored-others m (idx k) (version k) x (m.head.count + 1) j ne
      go (crowded p l z r) = refl
      go (new p l r) =
          stored-others (grown m (idx k)) (idx k) (version k) x (m.head.count + 1) j ne
          ∙ ap (λ (xs : List ℕ). get_or xs j 0) (grown-values m (idx k))
      go (new_crowded p l r) = refl

  -- and of the versions those of the slots from s to the index
  pub insert_frame_versions : (j : ℕ) → j ≢ idx k → (j < m.head.s) ⊎ (idx k < j) → ver (insert m k x).1 j ≡ ver m j
  unfolding out_by with_value
  insert_frame_versions j ne away = ap (λ (o : Out). ver o.1 j) (insert-number m k x (way m (key_of k))) ∙ go (way m (key_of k))
    where
      go : (w : Way m (key_of k)) → ver (out_by w x).1 j ≡ ver m j
      go (unshaped sh) = refl
      go (null sh n) = refl
      go (at_zero sh n z) = refl
      go (too_far sh n z l) = refl
      go (same p l e) = refl
      go (under t o) = refl
      go (over t o) = stored_off m (idx k) (version k) x m.head.count j ne
      go (vacant p l z r) = stored_off m (idx k) (version k) x (m.head.count + 1) j ne
      go (crowded p l z r) = refl
      go (new p l r) =
          stored_off (grown m (idx k)) (idx k) (version k) x (m.head.count + 1) j ne
          ∙ ⊎_elim (grown-old m (idx k) p.shape j) (grown_past m (idx k) p.shape j) away
      go (new_crowded p l r) = refl
