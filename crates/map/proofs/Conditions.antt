-- Insert's four answers, each exactly where its condition holds; and that an insert which stores nothing changes nothing. Assumes nothing.
use mathlib.Core.Path.{◌≡◌, refl, ap, subst, ◌∙◌}
use mathlib.Core.Logic.{◌≢◌, ◌↔◌}
use Prim.Native.Nat.{ℕ}
use native.Mathlib.Omega.{arith}
use Rattle.keys.specs.Keys.{idx, key_of}
use Rattle.map.specs.Map.{Map, val}
use Rattle.map.specs.Calls.{Said, said_ignored, said_replaced, said_kept, said_stored, refused, Out, insert}
use Rattle.map.specs.Conditions.{Ignores, Replaces, Keeps, Stores, over_older, in_vacant, in_new}
use Rattle.map.proofs.Ways.{Way, unshaped, null, at_zero, too_far, same, under, over, vacant, crowded, new, new_crowded, way, out_by, insert-number}

-- ---- from an answer to its condition, all four at once

record Reasons (m : Map) (k : ℕ) (a : Said) : Type 0 where
  ignored : a ≡ said_ignored → Ignores m k
  replaced : (y : ℕ) → a ≡ said_replaced y → Replaces m k y
  kept : a ≡ said_kept → Keeps m k
  stored : a ≡ said_stored → Stores m k

clash {ℓ} : {A : Type ℓ} → ◌≡◌ {A = ℕ} 0 1 → A
clash z = absurd (omega arith)

module _ (m : Map) (k : ℕ) where
  for_refused : (r : ℕ) → Reasons m k (refused r)
  for_refused r = record { ignored = λ e. clash (cc); replaced = λ y e. clash (cc); kept = λ e. clash (cc); stored = λ e. clash (cc) }

  for_ignored : Ignores m k → Reasons m k said_ignored
  for_ignored h = record { ignored = λ e. h; replaced = λ y e. clash (cc); kept = λ e. clash (cc); stored = λ e. clash (cc) }

  for_replaced : (x : ℕ) → Replaces m k x → Reasons m k (said_replaced x)
  for_replaced x h =
      record { ignored = λ e. clash (cc); replaced = λ y e. subst (Replaces m k) (cc) h; kept = λ e. clash (cc); stored = λ e. clash (cc) }

  for_kept : Keeps m k → Reasons m k said_kept
  for_kept h = record { ignored = λ e. clash (cc); replaced = λ y e. clash (cc); kept = λ e. h; stored = λ e. clash (cc) }

  for_stored : Stores m k → Reasons m k said_stored
  for_stored h = record { ignored = λ e. clash (cc); replaced = λ y e. clash (cc); kept = λ e. clash (cc); stored = λ e. h }

  reasons : (x : ℕ) (w : Way m (key_of k)) → Reasons m k (out_by w x).0
  unfolding out_by
  reasons x (unshaped sh) = for_refused 1
  reasons x (null sh n) = for_ignored (record { shape = sh; null_key = n })
  reasons x (at_zero sh n z) = for_refused 9
  reasons x (too_far sh n z l) = for_refused 8
  reasons x (same p l e) = for_replaced (val m (idx k)) (record { place = p; below = l; version_same = e; old = refl })
  reasons x (under t o) = for_kept (record { taken = t; newer = o })
  reasons x (over t o) = for_stored (over_older t o)
  reasons x (vacant p l z r) = for_stored (in_vacant p l z r)
  reasons x (crowded p l z r) = for_refused 5
  reasons x (new p l r) = for_stored (in_new p l r)
  reasons x (new_crowded p l r) = for_refused 5

-- ---- the exact conditions

module _ (m : Map) (k x : ℕ) where
  said : (w : Way m (key_of k)) → (insert m k x).0 ≡ (out_by w x).0
  said w = ap (λ (o : Out). o.0) (insert-number m k x w)

  why : Reasons m k (insert m k x).0
  why = rw (said (way m (key_of k))) (reasons m k x (way m (key_of k)))

  pub insert_ignored : ((insert m k x).0 ≡ said_ignored) ↔ Ignores m k
  unfolding out_by
  insert_ignored = (why.ignored, λ h. said (null h.shape h.null_key))

  pub insert_replaced : (y : ℕ) → ((insert m k x).0 ≡ said_replaced y) ↔ Replaces m k y
  unfolding out_by
  insert_replaced y = (why.replaced y, λ h. said (same h.place h.below h.version_same) ∙ ap said_replaced h.old)

  pub insert_kept : ((insert m k x).0 ≡ said_kept) ↔ Keeps m k
  unfolding out_by
  insert_kept = (why.kept, λ h. said (under h.taken h.newer))

  pub insert-stored : ((insert m k x).0 ≡ said_stored) ↔ Stores m k
  unfolding out_by
  insert-stored = (why.stored, back)
    where
      back : Stores m k → (insert m k x).0 ≡ said_stored
      back (over_older t o) = said (over t o)
      back (in_vacant p l z r) = said (vacant p l z r)
      back (in_new p l r) = said (new p l r)

  -- ---- "nothing stored": an insert that is refused or ignored, or finds a newer element, changes nothing

  pub insert-nothing-stored : ((y : ℕ) → (insert m k x).0 ≢ said_replaced y) → (insert m k x).0 ≢ said_stored → (insert m k x).1 ≡ m
  unfolding out_by
  insert-nothing-stored a b = ap (λ (o : Out). o.1) (insert-number m k x w) ∙ go w (λ y e. a y (said w ∙ e)) (λ e. b (said w ∙ e))
    where
      w : Way m (key_of k)
      w = way m (key_of k)

      go : (v : Way m (key_of k)) → ((y : ℕ) → (out_by v x).0 ≢ said_replaced y) → (out_by v x).0 ≢ said_stored → (out_by v x).1 ≡ m
      go (unshaped sh) p q = refl
      go (null sh n) p q = refl
      go (at_zero sh n z) p q = refl
      go (too_far sh n z l) p q = refl
      go (same _ l e) p q = absurd (p _ refl)
      go (under t o) p q = refl
      go (over t o) p q = absurd (q refl)
      go (vacant _ l z r) p q = absurd (q refl)
      go (crowded _ l z r) p q = refl
      go (new _ l r) p q = absurd (q refl)
      go (new_crowded _ l r) p q = refl
