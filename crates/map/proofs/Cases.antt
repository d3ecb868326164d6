-- The calls on a key that is looked for, one equation for each outcome. Assumes nothing.
use mathlib.Core.Path.{◌≡◌}
use mathlib.Core.Logic.{◌≢◌}
use mathlib.Core.Bool.{true, false}
use Prim.Native.Nat.{ℕ, ◌<◌}
use borrow.Author.Tests.{eq-eqb, ne_eqb, lt-ltb}
use Rattle.lists.proofs.Tests.{split, parts, and_true}
use Rattle.keys.specs.Keys.{idx, version}
use Rattle.map.specs.Map.{Map, ver, val, has_shape, is_there, absent, with_value, emptied}
use Rattle.map.specs.Calls.{said_value, refused, found, fails, slot_in, slot, lookup, put, leaving_from, leaving, remove}

-- a key that is there
pub record There (m : Map) (i v : ℕ) : Type 0 where
  pub below : i < m.head.s
  pub same : ver m i ≡ v

pub there : (m : Map) (i v : ℕ) → is_there m i v ≡ true → There m i v
unfolding is_there
there m i v e = search parts

pub there_true : (m : Map) (i v : ℕ) → i < m.head.s → ver m i ≡ v → is_there m i v ≡ true
unfolding is_there
there_true m i v l e = and_true (lt-ltb i m.head.s l) (eq-eqb (ver m i) v e)

-- the three things that can be of a map and a key
pub by_slot {ℓ} : {A : Type ℓ} (m : Map) (k : ℕ) → (has_shape m ≡ false → A) → (has_shape m ≡ true → is_there m (idx k) (version k) ≡ false → A)
    → (has_shape m ≡ true → is_there m (idx k) (version k) ≡ true → A) → A
by_slot m k bad off on = split (has_shape m) (λ sh. split (is_there m (idx k) (version k)) (on sh) (off sh)) bad

module _ (m : Map) (k : ℕ) where
  -- ---- the arrays do not fit

  module _ (sh : has_shape m ≡ false) where
    slot_unshaped : slot m k ≡ fails 1
    unfolding slot
    slot_unshaped = rw sh

    pub lookup_unshaped : lookup m k ≡ (refused 1, m)
    unfolding lookup
    lookup_unshaped = rw slot_unshaped

    pub put_unshaped : (x : ℕ) → put m k x ≡ (refused 1, m)
    unfolding put
    put_unshaped x = rw slot_unshaped

    pub remove_unshaped : remove m k ≡ (refused 1, m)
    unfolding remove leaving
    remove_unshaped = rw slot_unshaped

  module _ (sh : has_shape m ≡ true) where
    -- ---- the key is not there

    module _ (e : is_there m (idx k) (version k) ≡ false) where
      pub slot-absent : slot m k ≡ fails (absent m (idx k) (version k))
      unfolding slot slot_in
      slot-absent = rw (sh, e)

      pub lookup_absent : lookup m k ≡ (refused (absent m (idx k) (version k)), m)
      unfolding lookup
      lookup_absent = rw slot-absent

      pub put-absent : (x : ℕ) → put m k x ≡ (refused (absent m (idx k) (version k)), m)
      unfolding put
      put-absent x = rw slot-absent

      pub remove_absent : remove m k ≡ (refused (absent m (idx k) (version k)), m)
      unfolding remove leaving
      remove_absent = rw slot-absent

    -- ---- the key is there

    module _ (e : is_there m (idx k) (version k) ≡ true) where
      pub slot-there : slot m k ≡ found (idx k)
      unfolding slot slot_in
      slot-there = rw (sh, e)

      pub lookup-there : lookup m k ≡ (said_value (val m (idx k)), m)
      unfolding lookup
      lookup-there = rw slot-there

      pub put-there : (x : ℕ) → put m k x ≡ (said_value (val m (idx k)), with_value m (idx k) x)
      unfolding put
      put-there x = rw slot-there

      pub remove-there : m.head.count ≢ 0 → remove m k ≡ (said_value (val m (idx k)), emptied m (idx k))
      unfolding remove leaving leaving_from
      remove-there ne = rw (slot-there, ne_eqb m.head.count 0 ne)

      pub remove_uncounted : m.head.count ≡ 0 → remove m k ≡ (refused 5, m)
      unfolding remove leaving leaving_from
      remove_uncounted z = rw (slot-there, eq-eqb m.head.count 0 z)
