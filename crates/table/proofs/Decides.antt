-- Theorem H: the yes-or-no check decides soundness. A walk that ends meets no slot twice, so the free list holds every waiting slot when it is as long
-- as there are waiting slots. Assumes nothing.
use mathlib.Core.Path.{◌≡◌, sym, ap, ◌∙◌}
use mathlib.Core.Logic.{◌≢◌, ◌⊎◌, inl, inr, by_cases, ⊎_elim, ◌↔◌}
use mathlib.Core.Bool.{true, not}
use mathlib.Core.List.Memᴰ
use mathlib.Core.List.{List, Memᴰ}
use Prim.Native.Nat.{ℕ, ◌%◌, ◌≤◌, ◌<◌}
use native.Mathlib.Omega.{arith}
use native.Mathlib.Nat.{le_antisymm}
use native.Mathlib.Decide.{ℕ_discrete}
use lib.ListN.{length}
use lib.Dec.{eqb}
use borrow.Author.Tests.{eqb-false, eq-eqb, ne_eqb, not-true}
use Rattle.lists.specs.Count.{count, every}
use Rattle.lists.proofs.Tests.{and_true, tests, parts}
use Rattle.lists.proofs.Count.{minus, minus_true, count-minus, every_at, at_every}
use Rattle.lists.proofs.Once.{mem_dec, once-count, count-once}
use Rattle.keys.specs.Keys.{W, far}
use Rattle.table.specs.Table.{Table, ver, link, has_shape}
use Rattle.table.specs.Sound.{Vacant, Home, Sound, is_odd, is_home, is_waiting, met, leads, steps, is_sound}
use Rattle.table.proofs.Shape.{Shape, shape}
use Rattle.table.proofs.Chains.{Chain, chain_vacant, chain_once, chain_link, steps-met, leads_chain}
use Rattle.table.proofs.Orderly.{Orderly, orderly, sound, odds_from, free_walk}

-- ---- the tests, as facts

home_true : (t : Table) (p : ℕ) → Home t p → is_home t p ≡ true
unfolding is_home
home_true t p h = search (and_true, tests)

true_home : (t : Table) (p : ℕ) → is_home t p ≡ true → Home t p
unfolding is_home
true_home t p h = search parts

waiting_true : (t : Table) (i : ℕ) → Vacant t i → link t i ≢ far → is_waiting t i ≡ true
unfolding is_waiting
waiting_true t i v nf = let e : not (eqb (link t i) far) ≡ true = ap not (ne_eqb _ _ nf) in search (and_true, tests)

true_waiting : (t : Table) (i : ℕ) → i < t.head.s → is_waiting t i ≡ true → Vacant t i × (link t i ≢ far)
unfolding is_waiting
true_waiting t i l h = let e : not (eqb (link t i) far) ≡ true = search parts in (search parts, eqb-false _ _ (not-true _ e))

-- a chain's slots wait: their links are not those of detached slots
chain_waits : (t : Table) → Shape t → (l : List ℕ) → Chain t t.head.f l → (k : ℕ) → Memᴰ k l → (k < t.head.s) × (is_waiting t k ≡ true)
chain_waits t s l c k m =
    let v = chain_vacant t l t.head.f c k m in
    (v.high, waiting_true t k v (λ q. omega (arith, q, chain_link t l t.head.f s.s_low c k m, s)))

-- ---- a sound table passes

waiting_count : (t : Table) (a : Orderly t) → length a.free ≡ count (is_waiting t) t.head.s
waiting_count t a =
    le_antisymm
    (once-count a.free (chain_once t a.free t.head.f a.chain) t.head.s (is_waiting t) (chain_waits t a.shape a.free a.chain))
    (count-once a.free t.head.s (is_waiting t)
    (λ k h p. let v = true_waiting t k h p in ⊎_elim (λ m. m) (λ q. absurd (v.1 q)) (a.evens k v.0)))

pub sound_passes : (t : Table) → Sound t → is_sound t ≡ true
unfolding is_sound
sound_passes t a =
    let o = orderly t a in
    let w = free_walk t o in
    let hm : every (is_home t) t.head.n ≡ true = at_every (is_home t) t.head.n (λ p h. home_true t p (a.homes p h)) in
    let st : steps t t.head.s t.head.f ≡ count (is_waiting t) t.head.s =
    steps-met t t.head.s t.head.f ∙ ap length w.0 ∙ waiting_count t o in
    and_true a.shape (and_true (eq-eqb _ _ a.zero_version) (and_true (eq-eqb _ _ a.zero_link)
    (and_true hm (and_true (eq-eqb _ _ a.odd_slots) (and_true w.2 (eq-eqb _ _ st))))))

-- ---- a table that passes is sound, if its versions are 32-bit numbers

evens_from : (t : Table) → Shape t → (l : List ℕ) → Chain t t.head.f l → length l ≡ count (is_waiting t) t.head.s → (i : ℕ) → Vacant t i → Memᴰ i l ⊎ (link t i ≡ far)
evens_from t s l c e i v =
    by_cases (ℕ_discrete (link t i) far) inr
    (λ nf. by_cases (mem_dec i l) inl
    (λ nm.
    let le : length l ≤ count (minus (is_waiting t) i) t.head.s =
    once-count l (chain_once t l t.head.f c) t.head.s (minus (is_waiting t) i)
    (λ k m. let w = chain_waits t s l c k m in (w.0, minus_true (is_waiting t) i k (λ q. nm (Memᴰ.cast (sym q) m)) w.1)) in
    absurd (omega (arith, le, e, count-minus (is_waiting t) i t.head.s v.high (waiting_true t i v nf)))))

-- what the check has found
record Passed (t : Table) : Type 0 where
  shape : has_shape t ≡ true
  zero_ver : ver t 0 ≡ 0
  zero_link : link t 0 ≡ 0
  home : every (is_home t) t.head.n ≡ true
  odd : count (is_odd t) t.head.s ≡ t.head.n
  walk : leads t t.head.s t.head.f ≡ true
  waits : steps t t.head.s t.head.f ≡ count (is_waiting t) t.head.s

passed : (t : Table) → is_sound t ≡ true → Passed t
unfolding is_sound
passed t h = search parts depth 9

-- a checked table's odd slots link to places
pub passes_odds : (t : Table) → is_sound t ≡ true → (i : ℕ) → i < t.head.s → ver t i % 2 ≡ 1 → link t i < t.head.n
passes_odds t h i b o =
    let c = passed t h in
    (odds_from t (λ p l. true_home t p (every_at (is_home t) t.head.n c.home p l)) c.odd i b o).0

pub passes_shape : (t : Table) → is_sound t ≡ true → has_shape t ≡ true
passes_shape t h = (passed t h).shape

module _ (t : Table) (words : (i : ℕ) → i < t.head.s → ver t i < W) where
  pub passes_sound : is_sound t ≡ true → Sound t
  passes_sound h =
      let c = passed t h in
      let s = shape t c.shape in
      let home : (p : ℕ) → p < t.head.n → Home t p = λ p l. true_home t p (every_at (is_home t) t.head.n c.home p l) in
      let ch : Chain t t.head.f (met t t.head.s t.head.f) = leads_chain t t.head.s t.head.f c.walk in
      sound t (record {
        shape = s;
        zero_ver = c.zero_ver;
        zero_link = c.zero_link;
        word = words;
        home = home;
        odds = odds_from t home c.odd;
        free = met t t.head.s t.head.f;
        chain = ch;
        evens = evens_from t s (met t t.head.s t.head.f) ch (sym (steps-met t t.head.s t.head.f) ∙ c.waits);
      })

  -- Theorem H
  pub check_decides : (is_sound t ≡ true) ↔ Sound t
  check_decides = (passes_sound, sound_passes t)
