-- What lookup answers after put, remove and insert: for the same key, and for any other. Assumes nothing.
use mathlib.Core.Path.{◌≡◌, refl, sym, ap, ap₂, ◌∙◌}
use mathlib.Core.Logic.{◌≢◌, by_cases}
use mathlib.Core.Bool.{true, false, ◌&&◌}
use mathlib.Core.List.{List}
use Prim.Native.Nat.{ℕ, ◌<◌}
use native.Mathlib.Omega.{arith}
use native.Mathlib.Decide.{ℕ_discrete}
use lib.Dec.{eqb, ltb}
use lib.ListN.{length, get_or}
use Rattle.lists.proofs.Tests.{split, true_false, false_if}
use Rattle.keys.specs.Keys.{idx, version, as_read}
use Rattle.keys.proofs.Keys.{read_is, is_read}
use Rattle.map.specs.Map.{Map, ver, val, has_shape, is_there, absent, with_value, emptied}
use Rattle.map.specs.Calls.{said_value, Out, slot, lookup, put, remove, gone}
use Rattle.map.proofs.Shaped.{shaped}
use Rattle.map.proofs.Cases.{there, by_slot, lookup_unshaped, lookup_absent, lookup-there, put_unshaped, put-absent, put-there, remove_unshaped, remove_absent, remove-there, remove_uncounted}
use Rattle.map.proofs.Slots.{emptied_at, emptied_off, emptied-values, emptied-slots, emptied-shape, valued_at, valued_off, valued-shape}
use Rattle.map.proofs.Ways.{version-some}

pub answer : {o q : Out} → o ≡ q → o.0 ≡ q.0
answer e = ap (λ (o : Out). o.0) e

pub after : {o q : Out} → o ≡ q → o.1 ≡ q.1
after e = ap (λ (o : Out). o.1) e

-- ---- one map

-- a lookup that finds a value has found the key
pub record Has (m : Map) (k x : ℕ) : Type 0 where
  pub shape : has_shape m ≡ true
  pub is : is_there m (idx k) (version k) ≡ true
  pub value : val m (idx k) ≡ x

value_inj : {x y : ℕ} → said_value x ≡ said_value y → x ≡ y
value_inj e = cc

pub lookup_has : (m : Map) (k x : ℕ) → (lookup m k).0 ≡ said_value x → Has m k x
lookup_has m k x e =
    by_slot m k
    (λ sh. let f = sym (answer (lookup_unshaped m k sh)) ∙ e in let z : ◌≡◌ {A = ℕ} 0 1 = cc in absurd (omega arith))
    (λ sh t. let f = sym (answer (lookup_absent m k sh t)) ∙ e in let z : ◌≡◌ {A = ℕ} 0 1 = cc in absurd (omega arith))
    (λ sh t. record { shape = sh; is = t; value = value_inj (sym (answer (lookup-there m k sh t)) ∙ e) })

pub has_lookup : (m : Map) (k x : ℕ) → Has m k x → (lookup m k).0 ≡ said_value x
has_lookup m k x h = answer (lookup-there m k h.shape h.is) ∙ ap said_value h.value

-- two numbers that read as one key are one key
pub lookup-read : (m : Map) (j k : ℕ) → as_read j ≡ as_read k → lookup m j ≡ lookup m k
unfolding lookup slot
lookup-read m j k e =
    let r = read_is j (idx k) (version k) (omega arith) (e ∙ is_read k (idx k) (version k) refl refl) in
    rw (r.0, r.1)

-- a key in the map is never answered for another version
pub lookup_one_version : (m : Map) (j k x : ℕ) → (lookup m k).0 ≡ said_value x → idx j ≡ idx k → version j ≢ version k → (lookup m j).0 ≡ gone m j
lookup_one_version m j k x e i ne =
    let h = lookup_has m k x e in
    let t = there m (idx k) (version k) h.is in
    answer (lookup_absent m j h.shape
    (false_if (is_there m (idx j) (version j)) (λ s. ne (sym (there m (idx j) (version j) s).same ∙ ap (ver m) i ∙ t.same))))

-- ---- two maps that agree on a key's slot

-- the refusal of a key that is not there says the same of every map
pub gone_same : (m u : Map) (k : ℕ) → gone u k ≡ gone m k
unfolding absent
gone_same m u k = refl

pub lookup_agrees : (m u : Map) (k : ℕ) → has_shape m ≡ true → has_shape u ≡ true → is_there u (idx k) (version k) ≡ is_there m (idx k) (version k)
    → (is_there m (idx k) (version k) ≡ true → val u (idx k) ≡ val m (idx k)) → (lookup u k).0 ≡ (lookup m k).0
lookup_agrees m u k sm su t v =
    split (is_there m (idx k) (version k))
    (λ i. answer (lookup-there u k su (t ∙ i)) ∙ ap said_value (v i) ∙ sym (answer (lookup-there m k sm i)))
    (λ i. answer (lookup_absent u k su (t ∙ i)) ∙ gone_same m u k ∙ sym (answer (lookup_absent m k sm i)))

pub there_agrees : (m u : Map) (i v : ℕ) → u.head.s ≡ m.head.s → ver u i ≡ ver m i → is_there u i v ≡ is_there m i v
unfolding is_there
there_agrees m u i v s e = ap₂ (λ (n w : ℕ). ltb i n && eqb w v) s e

-- ---- other keys: of another index, or of the same index and another version

apart : (j k : ℕ) → as_read j ≢ as_read k → idx j ≡ idx k → version j ≢ version k
apart j k ne i v = ne (is_read j (idx k) (version k) i v ∙ sym (is_read k (idx k) (version k) refl refl))

-- a key of another version is not in the slot of a key that is there
other-absent : (m : Map) (j k : ℕ) → is_there m (idx k) (version k) ≡ true → as_read j ≢ as_read k → idx j ≡ idx k → is_there m (idx j) (version j) ≡ false
other-absent m j k t ne i =
    false_if (is_there m (idx j) (version j))
    (λ s. apart j k ne i (sym (there m (idx j) (version j) s).same ∙ ap (ver m) i ∙ (there m (idx k) (version k) t).same))

-- ---- put

module _ (m : Map) (k x : ℕ) (sh : has_shape m ≡ true) (t : is_there m (idx k) (version k) ≡ true) where
  valued-there : (j : ℕ) → is_there (with_value m (idx k) x) (idx j) (version j) ≡ is_there m (idx j) (version j)
  unfolding with_value
  valued-there j = there_agrees m (with_value m (idx k) x) (idx j) (version j) refl refl

  pub lookup-valued-same : (lookup (with_value m (idx k) x) k).0 ≡ said_value x
  lookup-valued-same =
      has_lookup (with_value m (idx k) x) k x
      (record {
        shape = valued-shape m (idx k) x sh;
        is = valued-there k ∙ t;
        value = valued_at m (idx k) x (omega (arith, (there m (idx k) (version k) t).below, shaped m sh));
      })

  pub lookup-valued-other : (j : ℕ) → as_read j ≢ as_read k → (lookup (with_value m (idx k) x) j).0 ≡ (lookup m j).0
  lookup-valued-other j ne =
      lookup_agrees m (with_value m (idx k) x) j sh (valued-shape m (idx k) x sh) (valued-there j)
      (λ s. valued_off m (idx k) x (idx j) (λ i. true_false s (other-absent m j k t ne i)))

pub lookup-put-same : (m : Map) (k x y : ℕ) → (lookup m k).0 ≡ said_value y → (lookup (put m k x).1 k).0 ≡ said_value x
lookup-put-same m k x y e =
    let h = lookup_has m k y e in
    ap (λ (u : Map). (lookup u k).0) (after (put-there m k h.shape h.is x)) ∙ lookup-valued-same m k x h.shape h.is

pub lookup-put-other : (m : Map) (j k x : ℕ) → as_read j ≢ as_read k → (lookup (put m k x).1 j).0 ≡ (lookup m j).0
lookup-put-other m j k x ne =
    by_slot m k
    (λ sh. ap (λ (u : Map). (lookup u j).0) (after (put_unshaped m k sh x)))
    (λ sh t. ap (λ (u : Map). (lookup u j).0) (after (put-absent m k sh t x)))
    (λ sh t. ap (λ (u : Map). (lookup u j).0) (after (put-there m k sh t x)) ∙ lookup-valued-other m k x sh t j ne)

-- ---- a slot emptied

module _ (m : Map) (i : ℕ) (sh : has_shape m ≡ true) where
  -- whatever key has its index
  pub lookup-emptied_at : (j : ℕ) → idx j ≡ i → i < length m.versions → (lookup (emptied m i) j).0 ≡ gone m j
  lookup-emptied_at j e l =
      answer (lookup_absent (emptied m i) j (emptied-shape m i sh)
      (false_if (is_there (emptied m i) (idx j) (version j))
      (λ s. version-some j (sym (there (emptied m i) (idx j) (version j) s).same ∙ ap (ver (emptied m i)) e ∙ emptied_at m i l))))
      ∙ gone_same m (emptied m i) j

  pub lookup-emptied_off : (j : ℕ) → idx j ≢ i → (lookup (emptied m i) j).0 ≡ (lookup m j).0
  lookup-emptied_off j ne =
      lookup_agrees m (emptied m i) j sh (emptied-shape m i sh)
      (there_agrees m (emptied m i) (idx j) (version j) (emptied-slots m i) (emptied_off m i (idx j) ne))
      (λ s. ap (λ (xs : List ℕ). get_or xs (idx j) 0) (emptied-values m i))

-- ---- remove

pub lookup-remove-same : (m : Map) (k x : ℕ) → (remove m k).0 ≡ said_value x → (lookup (remove m k).1 k).0 ≡ gone m k
lookup-remove-same m k x e =
    by_slot m k
    (λ sh. let f = sym (answer (remove_unshaped m k sh)) ∙ e in let z : ◌≡◌ {A = ℕ} 0 1 = cc in absurd (omega arith))
    (λ sh t. let f = sym (answer (remove_absent m k sh t)) ∙ e in let z : ◌≡◌ {A = ℕ} 0 1 = cc in absurd (omega arith))
    (λ sh t. by_cases (ℕ_discrete m.head.count 0)
    (λ z. let f = sym (answer (remove_uncounted m k sh t z)) ∙ e in let c : ◌≡◌ {A = ℕ} 0 1 = cc in absurd (omega arith))
    (λ ne.
    ap (λ (u : Map). (lookup u k).0) (after (remove-there m k sh t ne))
    ∙ lookup-emptied_at m (idx k) sh k refl (omega (arith, (there m (idx k) (version k) t).below, shaped m sh))))

pub lookup-remove-other : (m : Map) (j k : ℕ) → as_read j ≢ as_read k → (lookup (remove m k).1 j).0 ≡ (lookup m j).0
lookup-remove-other m j k ne =
    by_slot m k
    (λ sh. ap (λ (u : Map). (lookup u j).0) (after (remove_unshaped m k sh)))
    (λ sh t. ap (λ (u : Map). (lookup u j).0) (after (remove_absent m k sh t)))
    (λ sh t. by_cases (ℕ_discrete m.head.count 0)
    (λ z. ap (λ (u : Map). (lookup u j).0) (after (remove_uncounted m k sh t z)))
    (λ c.
    ap (λ (u : Map). (lookup u j).0) (after (remove-there m k sh t c))
    ∙ by_cases (ℕ_discrete (idx j) (idx k))
    (λ i.
    lookup-emptied_at m (idx k) sh j i (omega (arith, (there m (idx k) (version k) t).below, shaped m sh))
    ∙ sym (answer (lookup_absent m j sh (other-absent m j k t ne i))))
    (λ i. lookup-emptied_off m (idx k) sh j i)))
