-- Lookup after a call, on any table. After a put the key has the new value, and no other key's answer changes, since a place holds one
-- key only; after a remove or detach the key has no value, since its slot's version went up. Assumes nothing.
use mathlib.Core.Path.{◌≡◌, refl, sym, ap, ◌∙◌}
use mathlib.Core.Logic.{◌≢◌}
use mathlib.Core.Bool.{true}
use mathlib.Core.Option.{Option, none, some}
use Prim.Native.Nat.{ℕ, ◌+◌, ◌-◌, ◌≤◌, ◌<◌}
use native.Mathlib.Omega.{arith}
use lib.ListN.{length, length-set}
use lib.Seq.{get_or-set_same}
use Rattle.lists.proofs.Tests.{parts}
use Rattle.keys.specs.Keys.{idx, version, as_read, up}
use Rattle.table.specs.declared.Header.{Header}
use Rattle.table.specs.Table.{Table, ver, link, key, val, cap, lengths_fit, has_shape, is_live, dead, is_held, last, with_value, freed, left}
use Rattle.table.specs.Calls.{Said, said_value, refused, Out, lookup, put, remove, detach}
use Rattle.lists.specs.Tests.{first}
use Rattle.table.specs.Refused.{ruled, place_tests, leave_tests}
use Rattle.table.proofs.Refused.{ruled_either, lookup-ruled, put-ruled, remove-ruled, detach-ruled}
use Rattle.table.proofs.Frames.{value_off, left_either, filled-version}
use Rattle.table.proofs.Places.{first-none, held}

-- the answer alone
abbrev answered : Option ℕ → Said → Said
answered none a = a
answered (some r) a = refused r

answered-ruled : (t : Table) (f : Option ℕ) (o : Out) → (ruled t f o).0 ≡ answered f o.0
answered-ruled t none o = refl
answered-ruled t (some r) o = refl

lookup-said : (t : Table) (j : ℕ) → (lookup t j).0 ≡ answered (first (place_tests t j)) (said_value (val t (link t (idx j))))
lookup-said t j = ap (λ (o : Out). o.0) (lookup-ruled t j) ∙ answered-ruled t (first (place_tests t j)) _

-- a call that answers a value passed its tests
accepts : (t : Table) (c : Out) (f : Option ℕ) (o : Out) (y : ℕ) → c ≡ ruled t f o → c.0 ≡ said_value y → (f ≡ none) × (c ≡ o)
accepts t c none o y e q = (refl, e)
accepts t c (some r) o y e q =
    let w : refused r ≡ said_value y = sym (ap (λ (z : Out). z.0) e) ∙ q in
    let z : ◌≡◌ {A = ℕ} 0 1 = cc in
    absurd (omega arith)

answered-same : (f : Option ℕ) (a b : Said) → (f ≡ none → a ≡ b) → answered f a ≡ answered f b
answered-same none a b h = h refl
answered-same (some r) a b h = refl

-- where the answers of two tables to one key agree
same_answer : (t u : Table) (j : ℕ) → first (place_tests u j) ≡ first (place_tests t j)
    → (first (place_tests t j) ≡ none → val u (link u (idx j)) ≡ val t (link t (idx j))) → (lookup u j).0 ≡ (lookup t j).0
same_answer t u j e v =
    lookup-said u j
    ∙ ap (λ (f : Option ℕ). answered f (said_value (val u (link u (idx j))))) e
    ∙ answered-same (first (place_tests t j)) _ _ (λ q. ap said_value (v q))
    ∙ sym (lookup-said t j)

places-fit : (t : Table) → has_shape t ≡ true → t.head.n ≤ length t.values
unfolding has_shape lengths_fit
places-fit t e =
    let a : t.head.n ≤ t.head.s - 1 = search parts in
    let b : t.head.s ≤ cap t + 1 = search parts in
    let c : length t.values ≡ cap t = search parts in
    omega arith

module _ (t : Table) (k : ℕ) (all : first (place_tests t k) ≡ none) where
  -- the place of a key that passes its tests
  passed : (has_shape t ≡ true) × (is_live t (idx k) (version k) ≡ true) × (is_held t (idx k) (version k) ≡ true)
  passed =
      let a = first-none (has_shape t) _ _ all in
      let b = first-none (is_live t (idx k) (version k)) _ _ a.1 in
      (a.0, b.0, (first-none (is_held t (idx k) (version k)) _ none b.1).0)

  in_values : link t (idx k) < length t.values
  in_values = omega (arith, (held t k passed.2).0, places-fit t passed.0)

-- ---- put

module _ (t : Table) (p x : ℕ) where
  value-tests : (j : ℕ) → first (place_tests (with_value t p x) j) ≡ first (place_tests t j)
  unfolding with_value has_shape lengths_fit is_live is_held dead
  value-tests j = rw (length-set t.values p x)

  value-link : (i : ℕ) → link (with_value t p x) i ≡ link t i
  unfolding with_value
  value-link i = refl

  value_at : p < length t.values → val (with_value t p x) p ≡ x
  unfolding with_value
  value_at h = get_or-set_same t.values p x 0 h

module _ (t : Table) (k x : ℕ) where
  -- the place that put writes, and the table after it
  abbrev p : ℕ
  p = link t (idx k)

  abbrev u : Table
  u = with_value t p x

  pub lookup-put-same : (y : ℕ) → (put t k x).0 ≡ said_value y → (lookup (put t k x).1 k).0 ≡ said_value x
  lookup-put-same y e =
      let a = accepts t _ (first (place_tests t k)) _ y (put-ruled t k x) e in
      ap (λ (o : Out). (lookup o.1 k).0) a.1
      ∙ lookup-said u k
      ∙ ap (λ (f : Option ℕ). answered f (said_value (val u (link u (idx k))))) (value-tests t p x k ∙ a.0)
      ∙ ap said_value (ap (val u) (value-link t p x (idx k)) ∙ value_at t p x (in_values t k a.0))

  pub lookup-put-other : (j : ℕ) → as_read j ≢ as_read k → (lookup (put t k x).1 j).0 ≡ (lookup t j).0
  lookup-put-other j ne =
      ruled_either (λ (u : Table). (lookup u j).0 ≡ (lookup t j).0) t _ (first (place_tests t k)) _ (put-ruled t k x) refl
      (λ all. same_answer t u j (value-tests t p x j)
      (λ mine. ap (val u) (value-link t p x (idx j))
      ∙ value_off t p x (link t (idx j))
      (λ q. ne (sym (held t j (passed t j mine).2).1 ∙ ap (key t) q ∙ (held t k (passed t k all).2).1))))

-- ---- remove and detach

left-version : (t : Table) (i l : ℕ) (head' : Header) → i < length t.versions → ver (left t i l head') i ≡ up (ver t i)
unfolding freed
left-version t i l head' h =
    let at = get_or-set_same t.versions i (up (ver t i)) 0 h in
    left_either t i l head' (λ (u : Table). ver u i ≡ up (ver t i)) at (filled-version (freed t i l head') (link t i) (last t) i ∙ at)

live-version : (t : Table) (i v : ℕ) → is_live t i v ≡ true → ver t i ≡ v
unfolding is_live
live-version t i v e = search parts

-- a key whose slot's version went up is not found
module _ (t : Table) (k : ℕ) (all : first (leave_tests t k) ≡ none) where
  slot : (has_shape t ≡ true) × (is_live t (idx k) (version k) ≡ true)
  slot = let a = first-none (has_shape t) _ _ all in (a.0, (first-none (is_live t (idx k) (version k)) _ _ a.1).0)

  in_versions : idx k < length t.versions
  unfolding has_shape lengths_fit is_live
  in_versions =
      let e = slot.0 in
      let f = slot.1 in
      let a : t.head.s ≤ cap t + 1 = search parts in
      let b : length t.versions ≡ cap t + 1 = search parts in
      let c : idx k < t.head.s = search parts in
      omega arith

  not_found : (l : ℕ) (head' : Header) (z : ℕ) → (lookup (left t (idx k) l head') k).0 ≡ said_value z → ⊥
  not_found l head' z e =
      let u = left t (idx k) l head' in
      let found = (accepts u _ (first (place_tests u k)) _ z (lookup-ruled u k) e).0 in
      omega (arith, live-version u (idx k) (version k) (passed u k found).1, live-version t (idx k) (version k) slot.1, left-version t (idx k) l head' in_versions)

module _ (t : Table) (k : ℕ) where
  pub lookup-remove-same : (y : ℕ) → (remove t k).0 ≡ said_value y → (z : ℕ) → (lookup (remove t k).1 k).0 ≡ said_value z → ⊥
  lookup-remove-same y e z q =
      let a = accepts t _ (first (leave_tests t k)) _ y (remove-ruled t k) e in
      not_found t k a.0 _ _ z (sym (ap (λ (o : Out). (lookup o.1 k).0) a.1) ∙ q)

  pub lookup-detach-same : (y : ℕ) → (detach t k).0 ≡ said_value y → (z : ℕ) → (lookup (detach t k).1 k).0 ≡ said_value z → ⊥
  lookup-detach-same y e z q =
      let a = accepts t _ (first (leave_tests t k)) _ y (detach-ruled t k) e in
      not_found t k a.0 _ _ z (sym (ap (λ (o : Out). (lookup o.1 k).0) a.1) ∙ q)
