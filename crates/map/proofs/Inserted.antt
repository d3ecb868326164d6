-- What lookup answers after an insert: for the same key, for a key of another index, and for another version of the same index.
-- Growing changes no lookup. Assumes nothing.
use mathlib.Core.Path.{◌≡◌, refl, sym, ap, ◌∙◌}
use mathlib.Core.Logic.{◌≢◌, by_cases}
use mathlib.Core.Bool.{true}
use mathlib.Core.List.{List}
use Prim.Native.Nat.{ℕ, ◌+◌, ◌≤◌, ◌<◌}
use native.Mathlib.Omega.{arith}
use native.Mathlib.Decide.{dec_lt}
use lib.ListN.{length, get_or}
use Rattle.lists.proofs.Tests.{same_test, false_if}
use Rattle.keys.specs.Keys.{idx, version, key_of}
use Rattle.keys.proofs.Keys.{idx-read}
use Rattle.map.specs.Map.{Map, ver, val, has_shape, is_there, grown, stored}
use Rattle.map.specs.Calls.{said_value, said_replaced, said_stored, Out, lookup, put, insert, gone}
use Rattle.map.specs.Conditions.{Stores, over_older, in_vacant, in_new}
use Rattle.map.proofs.Shaped.{shaped}
use Rattle.map.proofs.Grown.{grown-below, grown_above, grown-new}
use Rattle.map.proofs.Slots.{stored_at, stored_off, stored-value, stored-others, stored-slots, stored-shape, grown-old, grown-values, grown-shape}
use Rattle.map.proofs.Cases.{there, there_true, lookup_absent, lookup-there, put-there}
use Rattle.map.proofs.Ways.{Way, unshaped, null, at_zero, too_far, same, under, over, vacant, crowded, new, new_crowded, way, out_by, insert-number, version-some}
use Rattle.map.proofs.Conditions.{insert_replaced, insert-stored}
use Rattle.map.proofs.Lookups.{gone_same, has_lookup, lookup_agrees, there_agrees, lookup-valued-other, answer, after}

-- ---- growing

module _ (m : Map) (i : ℕ) (sh : has_shape m ≡ true) (l : i < length m.versions) where
  more-slots : m.head.s ≤ (grown m i).head.s
  more-slots =
      by_cases (dec_lt i m.head.s)
      (λ b. omega (arith, ap (λ (g : Map). g.head.s) (grown-below m i b)))
      (λ b. omega (arith, ap (λ (g : Map). g.head.s) (grown_above m i (omega arith))))

  -- a key that is there was there: the new slots have no version
  there-before : (k : ℕ) → is_there (grown m i) (idx k) (version k) ≡ true → is_there m (idx k) (version k) ≡ true
  there-before k e =
      let t = there (grown m i) (idx k) (version k) e in
      by_cases (dec_lt (idx k) m.head.s)
      (λ b. there_true m (idx k) (version k) b (sym (grown-old m i sh (idx k) b) ∙ t.same))
      (λ b. by_cases (dec_lt i m.head.s)
      (λ c. ap (λ (g : Map). is_there g (idx k) (version k)) (sym (grown-below m i c)) ∙ e)
      (λ c. absurd (version-some k (sym t.same
      ∙ grown-new m i (idx k) l (omega arith) (omega (arith, t.below, ap (λ (g : Map). g.head.s) (grown_above m i (omega arith))))))))

  there-grown : (k : ℕ) → is_there (grown m i) (idx k) (version k) ≡ is_there m (idx k) (version k)
  there-grown k =
      same_test _ _ (there-before k)
      (λ e.
      let t = there m (idx k) (version k) e in
      there_true (grown m i) (idx k) (version k) (omega (arith, t.below, more-slots)) (grown-old m i sh (idx k) t.below ∙ t.same))

  pub lookup-grown : (k : ℕ) → (lookup (grown m i) k).0 ≡ (lookup m k).0
  lookup-grown k =
      lookup_agrees m (grown m i) k sh (grown-shape m i sh l) (there-grown k) (λ _. ap (λ (xs : List ℕ). get_or xs (idx k) 0) (grown-values m i))

-- ---- storing

module _ (m : Map) (i v x n : ℕ) (sh : has_shape m ≡ true) (l : i < m.head.s) where
  lookup-stored-same : (k : ℕ) → idx k ≡ i → version k ≡ v → (lookup (stored m i v x n) k).0 ≡ said_value x
  lookup-stored-same k p q =
      has_lookup (stored m i v x n) k x
      (record {
        shape = stored-shape m i v x n sh;
        is =
            there_true (stored m i v x n) (idx k) (version k) (omega (arith, stored-slots m i v x n))
            (ap (ver (stored m i v x n)) p ∙ stored_at m i v x n (omega (arith, shaped m sh)) ∙ sym q);
        value = ap (val (stored m i v x n)) p ∙ stored-value m i v x n (omega (arith, shaped m sh));
      })

  lookup-stored_off : (k : ℕ) → idx k ≢ i → (lookup (stored m i v x n) k).0 ≡ (lookup m k).0
  lookup-stored_off k ne =
      lookup_agrees m (stored m i v x n) k sh (stored-shape m i v x n sh)
      (there_agrees m (stored m i v x n) (idx k) (version k) (stored-slots m i v x n) (stored_off m i v x n (idx k) ne))
      (λ _. stored-others m i v x n (idx k) ne)

  lookup-stored-other : (k : ℕ) → idx k ≡ i → version k ≢ v → (lookup (stored m i v x n) k).0 ≡ gone (stored m i v x n) k
  lookup-stored-other k p ne =
      answer (lookup_absent (stored m i v x n) k (stored-shape m i v x n sh)
      (false_if (is_there (stored m i v x n) (idx k) (version k))
      (λ e.
      ne (sym (there (stored m i v x n) (idx k) (version k) e).same
      ∙ ap (ver (stored m i v x n)) p
      ∙ stored_at m i v x n (omega (arith, shaped m sh))))))

-- ---- insert

module _ (m : Map) (k x : ℕ) where
  by_way : (P : Out → Type 0) → ((w : Way m (key_of k)) → P (out_by w x)) → P (insert m k x)
  by_way P h = rw (insert-number m k x (way m (key_of k))) (h (way m (key_of k)))

  -- a slot that is made
  new-below : m.head.s ≤ idx k → idx k < (grown m (idx k)).head.s
  new-below l = omega (arith, ap (λ (g : Map). g.head.s) (grown_above m (idx k) l))

  -- a key of another index is answered as before
  pub lookup-insert_off : (j : ℕ) → idx j ≢ idx k → (lookup (insert m k x).1 j).0 ≡ (lookup m j).0
  unfolding out_by
  lookup-insert_off j ne = by_way (λ (o : Out). (lookup o.1 j).0 ≡ (lookup m j).0) go
    where
      go : (w : Way m (key_of k)) → (lookup (out_by w x).1 j).0 ≡ (lookup m j).0
      go (unshaped sh) = refl
      go (null sh n) = refl
      go (at_zero sh n z) = refl
      go (too_far sh n z l) = refl
      go (same p l e) = lookup-valued-other m k x p.shape (there_true m (idx k) (version k) l e) j (λ q. ne (sym (idx-read j) ∙ ap idx q ∙ idx-read k))
      go (under t o) = refl
      go (over t o) = lookup-stored_off m (idx k) (version k) x m.head.count t.place.shape t.there j ne
      go (vacant p l z r) = lookup-stored_off m (idx k) (version k) x (m.head.count + 1) p.shape l j ne
      go (crowded p l z r) = refl
      go (new p l r) =
          lookup-stored_off (grown m (idx k)) (idx k) (version k) x (m.head.count + 1) (grown-shape m (idx k) p.shape p.high) (new-below l) j ne
          ∙ lookup-grown m (idx k) p.shape p.high j
      go (new_crowded p l r) = refl

  -- the key is answered with its new value, and no other version of its index is there
  module _ (e : (insert m k x).0 ≡ said_stored) where
    answered : (j : ℕ) (w : Way m (key_of k)) → (lookup (insert m k x).1 j).0 ≡ (lookup (out_by w x).1 j).0
    answered j w = ap (λ (o : Out). (lookup o.1 j).0) (insert-number m k x w)

    pub lookup-insert-stored : (lookup (insert m k x).1 k).0 ≡ said_value x
    unfolding out_by
    lookup-insert-stored = go ((insert-stored m k x).0 e)
      where
        go : Stores m k → (lookup (insert m k x).1 k).0 ≡ said_value x
        go (over_older t o) =
            answered k (over t o) ∙ lookup-stored-same m (idx k) (version k) x m.head.count t.place.shape t.there k refl refl
        go (in_vacant p l z r) =
            answered k (vacant p l z r) ∙ lookup-stored-same m (idx k) (version k) x (m.head.count + 1) p.shape l k refl refl
        go (in_new p l r) =
            answered k (new p l r)
            ∙ lookup-stored-same (grown m (idx k)) (idx k) (version k) x (m.head.count + 1) (grown-shape m (idx k) p.shape p.high) (new-below l) k refl refl

    pub lookup-insert-stored-other : (j : ℕ) → idx j ≡ idx k → version j ≢ version k → (lookup (insert m k x).1 j).0 ≡ gone m j
    unfolding out_by
    lookup-insert-stored-other j i v = go ((insert-stored m k x).0 e)
      where
        go : Stores m k → (lookup (insert m k x).1 j).0 ≡ gone m j
        go (over_older t o) =
            answered j (over t o) ∙ lookup-stored-other m (idx k) (version k) x m.head.count t.place.shape t.there j i v ∙ gone_same m _ j
        go (in_vacant p l z r) =
            answered j (vacant p l z r) ∙ lookup-stored-other m (idx k) (version k) x (m.head.count + 1) p.shape l j i v ∙ gone_same m _ j
        go (in_new p l r) =
            answered j (new p l r)
            ∙ lookup-stored-other (grown m (idx k)) (idx k) (version k) x (m.head.count + 1) (grown-shape m (idx k) p.shape p.high) (new-below l) j i v
            ∙ gone_same m _ j

  -- replacing is a put to a key that is there, so its laws are put's
  pub insert_replaced_puts : (y : ℕ) → (insert m k x).0 ≡ said_replaced y → ((lookup m k).0 ≡ said_value y) × ((insert m k x).1 ≡ (put m k x).1)
  unfolding out_by
  insert_replaced_puts y e =
      let h = (insert_replaced m k x y).0 e in
      let t = there_true m (idx k) (version k) h.below h.version_same in (
        answer (lookup-there m k h.place.shape t) ∙ ap said_value h.old,
        after (insert-number m k x (same h.place h.below h.version_same)) ∙ sym (after (put-there m k h.place.shape t x)),
      )
