-- Soundness slot by slot: what the counts of `Sound` say of each single slot, with the free list at hand as a chain. No call then counts anything.
-- `orderly` and `sound` show that the two say the same. Assumes nothing.
use mathlib.Core.Path.{◌≡◌, sym, ap, ◌∙◌}
use mathlib.Core.Logic.{◌⊎◌, inl, inr, ⊎_elim}
use mathlib.Core.Bool.{true}
use mathlib.Core.List.{List, Memᴰ}
use Prim.Native.Nat.{ℕ, suc, ◌+◌, ◌%◌, ◌≤◌, ◌<◌}
use native.Mathlib.Omega.{arith}
use lib.ListN.{length}
use borrow.Author.Tests.{eqb-true, eq-eqb}
use Rattle.lists.specs.Count.{count}
use Rattle.lists.proofs.Count.{always, minus, always_true, minus_true, count_always, count-minus, count_inj, find-below}
use Rattle.lists.proofs.Once.{once-count}
use Rattle.keys.specs.Keys.{W, far, idx}
use Rattle.table.specs.Table.{Table, ver, link, key}
use Rattle.table.specs.Sound.{Vacant, Home, Sound, is_odd, met, stands, free_list, leads}
use Rattle.table.proofs.Shape.{Shape, shape, has_shape_lem}
use Rattle.table.proofs.Chains.{Chain, chain_vacant, chain_once, chain_met, met_chain, times_in, once-times}

pub record Orderly (t : Table) : Type 0 where
  pub shape : Shape t
  pub zero_ver : ver t 0 ≡ 0
  pub zero_link : link t 0 ≡ 0
  pub word : (i : ℕ) → i < t.head.s → ver t i < W
  pub home : (p : ℕ) → p < t.head.n → Home t p
  -- each odd slot is some place's
  pub odds : (i : ℕ) → i < t.head.s → ver t i % 2 ≡ 1 → (link t i < t.head.n) × (idx (key t (link t i)) ≡ i)
  -- the free list, and the even slots
  pub free : List ℕ
  pub chain : Chain t t.head.f free
  pub evens : (i : ℕ) → Vacant t i → Memᴰ i free ⊎ (link t i ≡ far)

-- a slot from 1 up that has an element
pub record Occupied (t : Table) (i : ℕ) : Type 0 where
  pub low : 1 ≤ i
  pub high : i < t.head.s
  pub odd : ver t i % 2 ≡ 1

pub home_occupied : (t : Table) (p : ℕ) → Home t p → Occupied t (idx (key t p))
home_occupied t p h = omega (arith, h)

-- a place's key keeps its slot in another table, at the place r
pub home_by : (t u : Table) (p r : ℕ) → Home t p → key u r ≡ key t p → t.head.s ≤ u.head.s → ver u (idx (key t p)) ≡ ver t (idx (key t p))
    → link u (idx (key t p)) ≡ r → Home u r
home_by t u p r h e s v l =
    record {
      low = rw e h.low;
      high = rw e (omega (arith, h.high));
      same = rw e (v ∙ h.same);
      odd = rw e h.odd;
      back = rw e l;
    }

-- ---- places and odd slots, counted

module _ (t : Table) (home : (p : ℕ) → p < t.head.n → Home t p) where
  odd_true : (i : ℕ) → ver t i % 2 ≡ 1 → is_odd t i ≡ true
  odd_true i h = eq-eqb _ _ h

  home_odd : (p : ℕ) → p < t.head.n → ver t (idx (key t p)) % 2 ≡ 1
  home_odd p h = omega (arith, (home p h).same, (home p h).odd)

  -- two places have two slots
  home_once : (p q : ℕ) → p < t.head.n → q < t.head.n → idx (key t p) ≡ idx (key t q) → p ≡ q
  home_once p q hp hq e = sym (home p hp).back ∙ ap (link t) e ∙ (home q hq).back

  -- an odd slot that no place has would be one too many
  pub odds_from : count (is_odd t) t.head.s ≡ t.head.n → (i : ℕ) → i < t.head.s → ver t i % 2 ≡ 1 → (link t i < t.head.n) × (idx (key t (link t i)) ≡ i)
  odds_from c i hi o =
      ⊎_elim
      (λ q.
      let b : link t i ≡ q.0 = ap (link t) (sym q.2) ∙ (home q.0 q.1).back in
      (omega (arith, b, q.1), ap (λ (m : ℕ). idx (key t m)) b ∙ q.2))
      (λ none.
      let le : count always t.head.n ≤ count (minus (is_odd t) i) t.head.s =
      count_inj t.head.n always t.head.s (minus (is_odd t) i) (λ (p : ℕ). idx (key t p))
      (λ p h _. ((home p h).high, minus_true (is_odd t) i _ (none p h) (odd_true _ (home_odd p h))))
      (λ p q hp hq _ _ e. home_once p q hp hq e) in
      absurd (omega (arith, le, c, count_always t.head.n, count-minus (is_odd t) i t.head.s hi (odd_true i o))))
      (find-below (λ (p : ℕ). idx (key t p)) i t.head.n)

  pub odd-count : ((i : ℕ) → i < t.head.s → ver t i % 2 ≡ 1 → (link t i < t.head.n) × (idx (key t (link t i)) ≡ i)) → count (is_odd t) t.head.s ≡ t.head.n
  odd-count odds =
      let le : count (is_odd t) t.head.s ≤ count always t.head.n =
      count_inj t.head.s (is_odd t) t.head.n always (link t) (λ k h o. ((odds k h (eqb-true _ _ o)).0, always_true _))
      (λ j k hj hk oj ok e. sym (odds j hj (eqb-true _ _ oj)).1 ∙ ap (λ (m : ℕ). idx (key t m)) e ∙ (odds k hk (eqb-true _ _ ok)).1) in
      let ge : count always t.head.n ≤ count (is_odd t) t.head.s =
      count_inj t.head.n always t.head.s (is_odd t) (λ (p : ℕ). idx (key t p))
      (λ p h _. ((home p h).high, odd_true _ (home_odd p h)))
      (λ p q hp hq _ _ e. home_once p q hp hq e) in
      omega (arith, le, ge, count_always t.head.n)

  -- a slot at an even version leaves room for one more element
  pub room : (i : ℕ) → Vacant t i → t.head.n + 1 < t.head.s
  room i v =
      let z : suc (count (minus always 0) t.head.s) ≡ count always t.head.s = count-minus always 0 t.head.s (omega (arith, v)) (always_true 0) in
      let y : suc (count (minus (minus always 0) i) t.head.s) ≡ count (minus always 0) t.head.s =
      count-minus (minus always 0) i t.head.s v.high (minus_true always 0 i (λ e. omega (arith, e, v.low)) (always_true i)) in
      let x : count always t.head.n ≤ count (minus (minus always 0) i) t.head.s =
      count_inj t.head.n always t.head.s (minus (minus always 0) i) (λ (p : ℕ). idx (key t p))
      (λ p l e. (
        (home p l).high,
        minus_true (minus always 0) i _ (λ q. omega (arith, v.even, home_odd p l, ap (ver t) q)) (minus_true always 0 _ (λ q. omega (arith, q, (home p l).low)) (always_true _)),
      ))
      (λ p q l m _ _ e. home_once p q l m e) in
      omega (arith, count_always t.head.s, count_always t.head.n)

-- ---- the two forms say the same

pub orderly : (t : Table) → Sound t → Orderly t
unfolding free_list
orderly t a =
    record {
      shape = shape t a.shape;
      zero_ver = a.zero_version;
      zero_link = a.zero_link;
      word = a.words;
      home = a.homes;
      odds = odds_from t a.homes a.odd_slots;
      free = free_list t;
      chain = met_chain t t.head.s t.head.f a.ends a.only_vacant;
      evens = λ i v. ⊎_elim inr (λ o. inl (times_in i (free_list t) (omega (arith, o)))) (a.others i v);
    }

module _ (t : Table) (a : Orderly t) where
  free_short : length a.free ≤ t.head.s
  free_short =
      omega (
        arith,
        count_always t.head.s,
        once-count a.free (chain_once t a.free t.head.f a.chain) t.head.s always (λ k m. ((chain_vacant t a.free t.head.f a.chain k m).high, always_true k)),
      )

  -- walks of s steps follow the free list to its end
  pub free_walk : (met t t.head.s t.head.f ≡ a.free) × (stands t t.head.s t.head.f ≡ t.head.s) × (leads t t.head.s t.head.f ≡ true)
  free_walk = chain_met t a.free t.head.f t.head.s free_short a.chain

  pub sound : Sound t
  unfolding free_list
  sound =
      let w = free_walk in
      record {
        shape = has_shape_lem t a.shape;
        words = a.word;
        zero_version = a.zero_ver;
        zero_link = a.zero_link;
        homes = a.home;
        odd_slots = odd-count t a.home a.odds;
        others = λ i v. ⊎_elim
            (λ m. inr (rw w.0 (once-times i a.free (chain_once t a.free t.head.f a.chain) m)))
            inl (a.evens i v);
        ends = w.1;
        only_vacant = λ i m. chain_vacant t a.free t.head.f a.chain i (rw w.0 at m);
      }
