-- What it means that a key is there: the judgement behind lookup, put and remove, as facts and back. Assumes nothing.
use mathlib.Core.Path.{◌≡◌, refl}
use mathlib.Core.Logic.{◌≢◌}
use mathlib.Core.Bool.{Bool, true, false, cond}
use Prim.Native.Nat.{ℕ, ◌<◌}
use native.Mathlib.Omega.{arith}
use lib.Dec.{eqb}
use borrow.Author.Tests.{eqb-false}
use Rattle.lists.proofs.Tests.{split, parts}
use Rattle.keys.specs.Keys.{idx, version}
use Rattle.map.specs.Map.{Map, ver, is_there}
use Rattle.map.specs.Calls.{Judged, found, fails, slot_in, slot, leaving_from, leaving_of, leaving}
use Rattle.map.proofs.Shaped.{Shaped, shaped}

-- ---- a judgement that found a slot has passed the test before it, and comes from what follows the test

pub passed : (b : Bool) (x : Judged) (r i : ℕ) → cond b x (fails r) ≡ found i → b ≡ true
passed true x r i e = refl
passed false x r i e = cc

pub went : (b : Bool) (x : Judged) (r i : ℕ) → cond b x (fails r) ≡ found i → x ≡ found i
went true x r i e = e
went false x r i e = cc

pub found_inj : (i j : ℕ) → found i ≡ found j → i ≡ j
found_inj i j e = cc

-- ---- the slot of a key

pub record Stands (m : Map) (k i : ℕ) : Type 0 where
  pub shape : Shaped m
  pub index : idx k ≡ i
  pub below : i < m.head.s
  pub same : ver m i ≡ version k

pub stands : (m : Map) (k i : ℕ) → slot m k ≡ found i → Stands m k i
unfolding slot slot_in is_there
stands m k i e =
    let at : idx k ≡ i = search (passed, went, found_inj) in
    let low : idx k < m.head.s = search (passed, went, parts) in
    let is : ver m (idx k) ≡ version k = search (passed, went, parts) in
    record { shape = shaped m (search passed); index = at; below = omega arith; same = rw at at is }

-- ---- the slot that a key's element leaves

leaves_of : (m : Map) (q : Judged) (i : ℕ) → leaving_of m q ≡ found i → (q ≡ found i) × (m.head.count ≢ 0)
unfolding leaving_from
leaves_of m (fails r) i e = let z : ◌≡◌ {A = ℕ} 0 1 = cc in absurd (omega arith)
leaves_of m (found j) i e =
    split (eqb m.head.count 0)
    (λ h. let f : fails 5 ≡ found i = rw h at e in let z : ◌≡◌ {A = ℕ} 0 1 = cc in absurd (omega arith))
    (λ h. (rw h at e, eqb-false _ _ h))

pub leaves : (m : Map) (k i : ℕ) → leaving m k ≡ found i → (Stands m k i) × (m.head.count ≢ 0)
unfolding leaving
leaves m k i e = let p = leaves_of m (slot m k) i e in (stands m k i p.0, p.1)
