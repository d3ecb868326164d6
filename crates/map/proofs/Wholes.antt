-- Fresh, put, insert, remove and a drain step keep a map whole, and none of them says of a whole map that it is damaged. Assumes nothing.
use mathlib.Core.Path.{◌≡◌, sym, ap, subst, ◌∙◌}
use mathlib.Core.Logic.{◌≢◌, inl}
use mathlib.Core.Bool.{true}
use mathlib.Core.List.{List}
use Prim.Native.Nat.{ℕ, ◌+◌}
use native.Mathlib.Omega.{arith}
use lib.ListN.{length-set}
use lib.Seq.{get_or-set_same}
use Rattle.lists.proofs.Count.{count_zero, count_no}
use Rattle.lists.proofs.Tests.{split}
use Rattle.keys.specs.Keys.{idx, version, key_of}
use Rattle.keys.proofs.Keys.{version-odd}
use Rattle.map.specs.declared.MapHeader.{MapHeader}
use Rattle.map.specs.Map.{Map, ver, is_occupied, lengths_fit, absent, grown, stored}
use Rattle.map.specs.Calls.{refused, Out, begins, cannot, fresh_head, fresh_map, fresh, lookup, put, insert, remove, peek, drain}
use Rattle.map.specs.Whole.{Whole}
use Rattle.map.proofs.Shaped.{fits, shape_true}
use Rattle.map.proofs.Slots.{grown-count}
use Rattle.map.proofs.Grown.{grown_above, grown-new}
use Rattle.map.proofs.Keeps.{unoccupied, whole-few, whole-some, whole_room, whole-emptied, whole-filled, whole_over, whole-valued, whole-grown}
use Rattle.map.proofs.Cases.{there, by_slot, lookup_unshaped, lookup_absent, lookup-there, put_unshaped, put-absent, put-there, remove_unshaped, remove_absent, remove-there}
use Rattle.map.proofs.Drains.{meeting, by_met, by_drain, peek-stops, peek-nothing, peek-meets, drain-stops, drain-nothing, drain_meets}
use Rattle.map.proofs.Ways.{Way, unshaped, null, at_zero, too_far, same, under, over, vacant, crowded, new, new_crowded, way, out_by, insert-number, version-some}

-- a fact of a call's outcome, from the equation of the outcome
to : (P : Out → Type 0) {o q : Out} → o ≡ q → P q → P o
to P e h = subst P (sym e) h

refused_inj : {a b : ℕ} → refused a ≡ refused b → a ≡ b
refused_inj e = cc

-- ---- fresh

pub whole-fresh-map : (vs xs : List ℕ) → lengths_fit vs xs ≡ true → Whole (fresh_map vs xs)
unfolding fresh_map
whole-fresh-map vs xs e =
    let f = fits vs xs e in
    let z : ver (fresh_map vs xs) 0 ≡ 0 = get_or-set_same vs 0 0 0 f.some in
    record {
      shape = shape_true (fresh_map vs xs) (omega (arith, f, length-set vs 0 0));
      first = z;
      each = λ i l. let o : i ≡ 0 = omega arith in inl (ap (ver (fresh_map vs xs)) o ∙ z);
      counted = count_no (is_occupied (fresh_map vs xs)) 0 (unoccupied (fresh_map vs xs) 0 z) ∙ count_zero (is_occupied (fresh_map vs xs));
    }

pub whole_fresh : (vs xs : List ℕ) (h : MapHeader) → (fresh vs xs).0 ≡ begins h → Whole (record { versions = (fresh vs xs).1; values = xs; head = h })
unfolding fresh fresh_map
whole_fresh vs xs h e =
    split (lengths_fit vs xs)
    (λ f. let q : begins fresh_head ≡ begins h = rw f at e in let g : fresh_head ≡ h = cc in rw (f, ← g) (whole-fresh-map vs xs f))
    (λ f. let q : cannot 1 ≡ begins h = rw f at e in let z : ◌≡◌ {A = ℕ} 0 1 = cc in absurd (omega arith))

pub fresh-refused-keeps : (vs xs : List ℕ) (r : ℕ) → (fresh vs xs).0 ≡ cannot r → (fresh vs xs).1 ≡ vs
unfolding fresh
fresh-refused-keeps vs xs r e =
    split (lengths_fit vs xs)
    (λ f. let q : begins fresh_head ≡ cannot r = rw f at e in let z : ◌≡◌ {A = ℕ} 0 1 = cc in absurd (omega arith))
    (λ f. rw f)

-- ---- lookup, put and a look say of no map that it is damaged

module _ (m : Map) where
  pub lookup_undamaged : (k : ℕ) → (lookup m k).0 ≢ refused 5
  unfolding absent
  lookup_undamaged k =
      by_slot m k
      (λ sh. to (λ o. o.0 ≢ refused 5) (lookup_unshaped m k sh) (λ q. omega (arith, refused_inj q)))
      (λ sh e. to (λ o. o.0 ≢ refused 5) (lookup_absent m k sh e) (λ q. omega (arith, refused_inj q)))
      (λ sh e. to (λ o. o.0 ≢ refused 5) (lookup-there m k sh e) (λ q. let z : ◌≡◌ {A = ℕ} 0 1 = cc in omega arith))

  pub put_undamaged : (k x : ℕ) → (put m k x).0 ≢ refused 5
  unfolding absent
  put_undamaged k x =
      by_slot m k
      (λ sh. to (λ o. o.0 ≢ refused 5) (put_unshaped m k sh x) (λ q. omega (arith, refused_inj q)))
      (λ sh e. to (λ o. o.0 ≢ refused 5) (put-absent m k sh e x) (λ q. omega (arith, refused_inj q)))
      (λ sh e. to (λ o. o.0 ≢ refused 5) (put-there m k sh e x) (λ q. let z : ◌≡◌ {A = ℕ} 0 1 = cc in omega arith))

  pub peek_undamaged : (p : ℕ) → peek m p ≢ refused 5
  peek_undamaged p =
      by_met m p
      (λ h q. omega (arith, refused_inj (sym (peek-stops m p h) ∙ q)))
      (λ h q. let f = sym (peek-nothing m p h) ∙ q in let z : ◌≡◌ {A = ℕ} 0 1 = cc in omega arith)
      (λ i h q. let f = sym (peek-meets m p i h) ∙ q in let z : ◌≡◌ {A = ℕ} 0 1 = cc in omega arith)

module _ (m : Map) (w : Whole m) where
  -- ---- put

  pub whole-put : (k x : ℕ) → Whole (put m k x).1
  whole-put k x =
      by_slot m k
      (λ sh. to (λ o. Whole o.1) (put_unshaped m k sh x) w)
      (λ sh e. to (λ o. Whole o.1) (put-absent m k sh e x) w)
      (λ sh e. to (λ o. Whole o.1) (put-there m k sh e x) (whole-valued m w (idx k) x))

  -- ---- remove

  pub whole-remove : (k : ℕ) → Whole (remove m k).1
  whole-remove k =
      by_slot m k
      (λ sh. to (λ o. Whole o.1) (remove_unshaped m k sh) w)
      (λ sh e. to (λ o. Whole o.1) (remove_absent m k sh e) w)
      (λ sh e.
      let t = there m (idx k) (version k) e in
      let ne : ver m (idx k) ≢ 0 = λ z. version-some k (sym t.same ∙ z) in
      to (λ o. Whole o.1) (remove-there m k sh e (whole-some m w (idx k) t.below ne)) (whole-emptied m w (idx k) t.below ne))

  -- ---- drain step

  pub whole-drain : (p : ℕ) → Whole (drain m p).1
  whole-drain p = by_drain Whole m p w (λ i h. whole-emptied m w i h.below h.full)

  -- ---- insert

  pub whole-insert : (k x : ℕ) → Whole (insert m k x).1
  unfolding out_by
  whole-insert k x = to (λ o. Whole o.1) (insert-number m k x (way m (key_of k))) (go (way m (key_of k)))
    where
      go : (v : Way m (key_of k)) → Whole (out_by v x).1
      go (unshaped sh) = w
      go (null sh n) = w
      go (at_zero sh n z) = w
      go (too_far sh n z l) = w
      go (same p l e) = whole-valued m w (idx k) x
      go (under t o) = w
      go (over t o) = whole_over m w (idx k) (version k) x t.there t.full (version-odd k)
      go (vacant p l z r) = whole-filled m w (idx k) (version k) x l p.low z (version-odd k)
      go (crowded p l z r) = w
      go (new p l r) =
          let g = grown m (idx k) in
          let slots : g.head.s ≡ idx k + 1 = ap (λ (u : Map). u.head.s) (grown_above m (idx k) l) in
          subst (λ (n : ℕ). Whole (stored g (idx k) (version k) x (n + 1))) (grown-count m (idx k))
          (whole-filled g (whole-grown m w (idx k) p.high) (idx k) (version k) x (omega arith) p.low (grown-new m (idx k) (idx k) p.high l (omega arith)) (version-odd k))
      go (new_crowded p l r) = w

  -- ---- none says 5

  pub insert_undamaged : (k x : ℕ) → (insert m k x).0 ≢ refused 5
  unfolding out_by
  insert_undamaged k x e = go (way m (key_of k)) (sym (ap (λ (o : Out). o.0) (insert-number m k x (way m (key_of k)))) ∙ e)
    where
      go : (v : Way m (key_of k)) → (out_by v x).0 ≡ refused 5 → ⊥
      go (unshaped sh) q = omega (arith, refused_inj q)
      go (null sh n) q = let z : ◌≡◌ {A = ℕ} 0 1 = cc in omega arith
      go (at_zero sh n z) q = omega (arith, refused_inj q)
      go (too_far sh n z l) q = omega (arith, refused_inj q)
      go (same p l e) q = let z : ◌≡◌ {A = ℕ} 0 1 = cc in omega arith
      go (under t o) q = let z : ◌≡◌ {A = ℕ} 0 1 = cc in omega arith
      go (over t o) q = let z : ◌≡◌ {A = ℕ} 0 1 = cc in omega arith
      go (vacant p l z r) q = let f : ◌≡◌ {A = ℕ} 0 1 = cc in omega arith
      go (crowded p l z r) q = omega (arith, whole_room m w (idx k) l p.low z)
      go (new p l r) q = let z : ◌≡◌ {A = ℕ} 0 1 = cc in omega arith
      go (new_crowded p l r) q = omega (arith, whole-few m w)

  pub remove_undamaged : (k : ℕ) → (remove m k).0 ≢ refused 5
  unfolding absent
  remove_undamaged k =
      by_slot m k
      (λ sh. to (λ o. o.0 ≢ refused 5) (remove_unshaped m k sh) (λ q. omega (arith, refused_inj q)))
      (λ sh e. to (λ o. o.0 ≢ refused 5) (remove_absent m k sh e) (λ q. omega (arith, refused_inj q)))
      (λ sh e.
      let t = there m (idx k) (version k) e in
      let ne : ver m (idx k) ≢ 0 = λ z. version-some k (sym t.same ∙ z) in
      to (λ o. o.0 ≢ refused 5) (remove-there m k sh e (whole-some m w (idx k) t.below ne)) (λ q. let z : ◌≡◌ {A = ℕ} 0 1 = cc in omega arith))

  pub drain_undamaged : (p : ℕ) → (drain m p).0 ≢ refused 5
  drain_undamaged p =
      by_met m p
      (λ h. to (λ o. o.0 ≢ refused 5) (drain-stops m p h) (λ q. omega (arith, refused_inj q)))
      (λ h. to (λ o. o.0 ≢ refused 5) (drain-nothing m p h) (λ q. let z : ◌≡◌ {A = ℕ} 0 1 = cc in omega arith))
      (λ i h.
      let q = meeting m p i h in
      to (λ o. o.0 ≢ refused 5) (drain_meets m p i h (whole-some m w i q.below q.full)) (λ q. let z : ◌≡◌ {A = ℕ} 0 1 = cc in omega arith))
