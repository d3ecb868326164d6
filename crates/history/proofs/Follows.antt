-- Theorem B, one element: how an element's leaving, entering or new value changes what lookup finds and which keys are detached,
-- for every number given as a key. Assumes nothing.
use mathlib.Core.Path.{◌≡◌, refl, sym, ap, ◌∙◌}
use mathlib.Core.Logic.{◌≢◌, by_cases}
use mathlib.Core.Bool.{Bool, true, false, cond}
use mathlib.Core.Option.{none, some}
use Prim.Native.Nat.{ℕ, ◌%◌, ◌<◌}
use native.Mathlib.Omega.{arith}
use native.Mathlib.Decide.{ℕ_discrete}
use lib.ListN.{get_or, set}
use lib.Seq.{get_or-set_same, get_or-set_other}
use lib.Dec.{eqb}
use borrow.Author.Tests.{eq-eqb, ne_eqb}
use Rattle.lists.proofs.Tests.{split, same_test, true_false}
use Rattle.keys.specs.Keys.{W, far, idx, vsn, pack, version, as_read, up}
use Rattle.keys.proofs.Keys.{version-odd, version_word, read_is, is_read, idx-read, version-read}
use Rattle.table.specs.Table.{Table, ver, link, key, val, is_live, with_value}
use Rattle.table.specs.Sound.{Sound}
use Rattle.history.specs.Begins.{find, away}
use Rattle.history.proofs.Changes.{sieve, on_some}
use Rattle.table.proofs.Judged.{Live, live}
use Rattle.table.proofs.Facts.{facts_live, not_live, Detached, detached_facts, facts_detached, not_detached}
use Rattle.table.proofs.Orderly.{Orderly, Occupied, orderly}
use Rattle.table.proofs.Leave.{Leaves, last_home, vacant_off, without-link}
use Rattle.table.proofs.Enter.{Enters, Widens}
use Rattle.table.proofs.Cases.{live-place, stored-occupied, stored-live}
use Rattle.table.proofs.Sieve.{dropped, dropped_leaves}

abbrev LiveKey : Table → ℕ → Type 0
LiveKey t k = Live t (idx k) (version k)

abbrev AwayKey : Table → ℕ → Type 0
AwayKey t k = Detached t (idx k) (version k)

pub find-live : (t : Table) (k : ℕ) → LiveKey t k → find t k ≡ some (val t (link t (idx k)))
unfolding find
find-live t k l = rw (facts_live t _ _ l)

pub find-dead : (t : Table) (k : ℕ) → is_live t (idx k) (version k) ≡ false → find t k ≡ none
unfolding find
find-dead t k e = rw e

pub find_not : (t : Table) (k : ℕ) → (LiveKey t k → ⊥) → find t k ≡ none
find_not t k h = find-dead t k (not_live t _ _ h)

-- a key and the key as read are one
pub find-read : (t : Table) (k : ℕ) → find t k ≡ find t (as_read k)
unfolding find
find-read t k = rw (idx-read k, version-read k)

pub away-read : (t : Table) (k : ℕ) → away t k ≡ away t (as_read k)
away-read t k = rw (idx-read k, version-read k)

find-same : (t u : Table) (k : ℕ) → (LiveKey t k → LiveKey u k) → (LiveKey u k → LiveKey t k) → (LiveKey t k → val u (link u (idx k)) ≡ val t (link t (idx k))) → find u k ≡ find t k
find-same t u k f g h =
    split (is_live t (idx k) (version k))
    (λ e. let l = live t _ _ e in find-live u k (f l) ∙ ap some (h l) ∙ sym (find-live t k l))
    (λ e. find_not u k (λ l. true_false (facts_live t _ _ (g l)) e) ∙ sym (find-dead t k e))

away-same : (t u : Table) (k : ℕ) → (AwayKey t k → AwayKey u k) → (AwayKey u k → AwayKey t k) → away u k ≡ away t k
away-same t u k f g = same_test _ _ (λ e. facts_detached t _ _ (g (detached_facts u _ _ e))) (λ e. facts_detached u _ _ (f (detached_facts t _ _ e)))

-- one key differs from the rest
at_key {ℓ} : {A : Type ℓ} (k i v : ℕ) (y y' x : A) → i < W → (idx k ≡ i → version k ≡ v → x ≡ y) → ((idx k ≡ i → version k ≡ v → ⊥) → x ≡ y')
    → x ≡ cond (eqb (as_read k) (pack i v)) y y'
at_key k i v y y' x h this other =
    by_cases (ℕ_discrete (as_read k) (pack i v))
    (λ e. let r = read_is k i v h e in rw (eq-eqb _ _ e) (this r.0 r.1))
    (λ ne. rw (ne_eqb _ _ ne) (other (λ p q. ne (is_read k i v p q))))

-- two odd versions with one successor are one
up_same : (v w : ℕ) → v < W → w < W → up v ≡ up w → v ≡ w
up_same v w hv hw e = omega arith

-- ---- an element leaves

module _ (t u : Table) (a : Orderly t) (i v : ℕ) (oi : Occupied t i) (vi : ver t i ≡ v) (c : Leaves t u i) (k : ℕ) where
  small : i < W
  small = omega (arith, a.shape, oi.high)

  gone : idx k ≡ i → LiveKey u k → ⊥
  gone e l = omega (arith, c.ver_at, oi.odd, l.same, ap (ver u) e, version-odd k)

  value_kept : idx k ≢ i → LiveKey t k → val u (link u (idx k)) ≡ val t (link t (idx k))
  value_kept ne l =
      let o = a.odds (idx k) l.high (omega (arith, l.same, version-odd k)) in
      let p = a.odds i oi.high oi.odd in
      by_cases (ℕ_discrete (idx k) (idx (key t u.head.n)))
      (λ e.
      ap (λ (m : ℕ). val u (link u m)) e ∙ ap (val u) (c.link-moved (λ q. ne (e ∙ q))) ∙ c.val-moved
      ∙ sym (ap (λ (m : ℕ). val t (link t m)) e ∙ ap (val t) (last_home t u a i oi c).back))
      (λ ne2. ap (val u) (c.link_off (idx k) ne ne2) ∙ c.val_off _ (λ q. ne (sym o.1 ∙ ap (λ (m : ℕ). idx (key t m)) q ∙ p.1)))

  pub find_leave : find u k ≡ cond (eqb (as_read k) (pack i v)) none (find t k)
  find_leave =
      at_key k i v none (find t k) (find u k) small
      (λ e _. find_not u k (gone e))
      (λ other. by_cases (ℕ_discrete (idx k) i)
      (λ e. find_not u k (gone e) ∙ sym (find_not t k (λ l. other e (sym l.same ∙ ap (ver t) e ∙ vi))))
      (λ ne. find-same t u k
      (λ l. record { low = l.low; high = omega (arith, l.high, c.slots); same = c.ver_off _ ne ∙ l.same })
      (λ l. record { low = l.low; high = omega (arith, l.high, c.slots); same = sym (c.ver_off _ ne) ∙ l.same })
      (value_kept ne)))

  -- a detached slot is vacant, so it is neither i nor the last element's
  away_to : AwayKey t k → AwayKey u k
  away_to d =
      let o = vacant_off t u a i oi c (idx k) (omega (arith, d.same, version-odd k)) in
      record { low = d.low; high = omega (arith, d.high, c.slots); same = c.ver_off _ o.0 ∙ d.same; away = c.link_off _ o.0 o.1 ∙ d.away }

  away_from : idx k ≢ i → AwayKey u k → AwayKey t k
  away_from ne d =
      let same : ver t (idx k) ≡ up (version k) = sym (c.ver_off _ ne) ∙ d.same in
      let o = vacant_off t u a i oi c (idx k) (omega (arith, same, version-odd k)) in
      record { low = d.low; high = omega (arith, d.high, c.slots); same = same; away = sym (c.link_off _ ne o.1) ∙ d.away }

  -- to the free list: the same keys are detached
  pub away-freed : link u i ≡ t.head.f → away u k ≡ away t k
  away-freed li = away-same t u k away_to (λ d. away_from (λ e. omega (arith, ap (link u) e, li, d.away, a.shape)) d)

  -- detached: the key that left is detached too
  pub away_parted : link u i ≡ far → v < W → away u k ≡ cond (eqb (as_read k) (pack i v)) true (away t k)
  away_parted li vw =
      at_key k i v true (away t k) (away u k) small
      (λ e q. facts_detached u _ _ (record {
        low = omega (arith, e, oi.low);
        high = omega (arith, e, oi.high, c.slots);
        same = ap (ver u) e ∙ c.ver_at ∙ ap up (vi ∙ sym q);
        away = ap (link u) e ∙ li;
      }))
      (λ other. away-same t u k away_to
      (λ d. away_from (λ e.
      let z : up (version k) ≡ up v = sym d.same ∙ ap (ver u) e ∙ c.ver_at ∙ ap up vi in
      other e (up_same _ _ (version_word k) vw z)) d))

-- ---- an element enters

module _ (t u : Table) (a : Orderly t) (i v x : ℕ) (od : v % 2 ≡ 1) (g : Widens t u i) (c : Enters t u i v x) (k : ℕ) where
  below : i < W
  below = omega (arith, a.shape, g.high, g.most)

  not_before : idx k ≡ i → LiveKey t k → ⊥
  not_before e l = omega (arith, l.same, ap (ver t) e, version-odd k, g.gap (omega (arith, e, l.high)))

  pub find_enter : find u k ≡ cond (eqb (as_read k) (pack i v)) (some x) (find t k)
  find_enter =
      at_key k i v (some x) (find t k) (find u k) below
      (λ e q.
      find-live u k (record { low = omega (arith, e, g.low); high = omega (arith, e, g.high); same = ap (ver u) e ∙ c.ver_at ∙ sym q })
      ∙ ap some (ap (λ (m : ℕ). val u (link u m)) e ∙ ap (val u) c.link_at ∙ c.val_at))
      (λ other. by_cases (ℕ_discrete (idx k) i)
      (λ e. find_not u k (λ l. other e (sym l.same ∙ ap (ver u) e ∙ c.ver_at)) ∙ sym (find_not t k (not_before e)))
      (λ ne. find-same t u k
      (λ l. record { low = l.low; high = omega (arith, l.high, g.grow); same = c.ver_off _ ne ∙ l.same })
      (λ l. record { low = l.low; high = g.others _ l.high ne; same = sym (c.ver_off _ ne) ∙ l.same })
      (λ l.
      let o = a.odds (idx k) l.high (omega (arith, l.same, version-odd k)) in
      ap (val u) (c.link_off _ ne) ∙ c.val_off _ (λ q. omega (arith, q, o.0)))))

  not_after : idx k ≡ i → AwayKey u k → ⊥
  not_after e d = omega (arith, d.same, ap (ver u) e, c.ver_at, od, version-odd k)

  away_enter_to : idx k ≢ i → AwayKey t k → AwayKey u k
  away_enter_to ne d = record { low = d.low; high = omega (arith, d.high, g.grow); same = c.ver_off _ ne ∙ d.same; away = c.link_off _ ne ∙ d.away }

  away_enter_from : AwayKey u k → AwayKey t k
  away_enter_from d =
      let ne : idx k ≢ i = λ e. not_after e d in
      record { low = d.low; high = g.others _ d.high ne; same = sym (c.ver_off _ ne) ∙ d.same; away = sym (c.link_off _ ne) ∙ d.away }

  -- into a free or new slot: the same keys are detached
  pub away-new : (i < t.head.s → link t i ≢ far) → away u k ≡ away t k
  away-new nf =
      away-same t u k
      (λ d. away_enter_to (λ e. nf (omega (arith, e, d.high)) (sym (ap (link t) e) ∙ d.away)) d)
      away_enter_from

  -- reattached: this key is detached no more
  pub away-back : v < W → ver t i ≡ up v → away u k ≡ cond (eqb (as_read k) (pack i v)) false (away t k)
  away-back vw vi =
      at_key k i v false (away t k) (away u k) below
      (λ e q. not_detached u _ _ (not_after e))
      (λ other. away-same t u k
      (λ d. away_enter_to (λ e.
      let z : up (version k) ≡ up v = sym d.same ∙ ap (ver t) e ∙ vi in
      other e (up_same _ _ (version_word k) vw z)) d)
      away_enter_from)

-- ---- a value is put

module _ (t : Table) (a : Orderly t) (j x : ℕ) (lj : LiveKey t j) (k : ℕ) where
  odds_of : (m : ℕ) → LiveKey t m → (link t (idx m) < t.head.n) × (idx (key t (link t (idx m))) ≡ idx m)
  odds_of m l = a.odds (idx m) l.high (omega (arith, l.same, version-odd m))

  pub find-put : find (with_value t (link t (idx j)) x) k ≡ cond (eqb (as_read k) (as_read j)) (on_some x (find t k)) (find t k)
  unfolding with_value
  find-put =
      rw (is_read j (idx j) (version j) refl refl)
      (at_key k (idx j) (version j) (on_some x (find t k)) (find t k) (find (with_value t (link t (idx j)) x) k) (omega arith)
      (λ e q.
      let l : LiveKey t k = record { low = omega (arith, e, lj.low); high = omega (arith, e, lj.high); same = ap (ver t) e ∙ lj.same ∙ sym q } in
      find-live (with_value t (link t (idx j)) x) k (record { low = l.low; high = l.high; same = l.same })
      ∙ ap some (ap (λ (m : ℕ). get_or (set t.values (link t (idx j)) x) (link t m) 0) e ∙ get_or-set_same t.values _ x 0 (omega (arith, odds_of j lj, a.shape)))
      ∙ sym (ap (on_some x) (find-live t k l)))
      (λ other.
      find-same t (with_value t (link t (idx j)) x) k
      (λ l. record { low = l.low; high = l.high; same = l.same })
      (λ l. record { low = l.low; high = l.high; same = l.same })
      (λ l. get_or-set_other t.values _ _ x 0 (λ q.
      let e : idx k ≡ idx j = sym (odds_of k l).1 ∙ ap (λ (m : ℕ). idx (key t m)) q ∙ (odds_of j lj).1 in
      other e (sym l.same ∙ ap (ver t) e ∙ lj.same)))))

  pub away-put : away (with_value t (link t (idx j)) x) k ≡ away t k
  unfolding with_value
  away-put =
      away-same t (with_value t (link t (idx j)) x) k
      (λ d. record { low = d.low; high = d.high; same = d.same; away = d.away })
      (λ d. record { low = d.low; high = d.high; same = d.same; away = d.away })

-- ---- a sweep

-- the table w after a sweep of u has what the rule keeps, and the same keys detached
abbrev pub Sieves : (ℕ → ℕ → Bool) → Table → Table → Type 0
Sieves keeps u w = (k : ℕ) → (find w k ≡ sieve keeps (idx k) (find u k)) × (away w k ≡ away u k)

pub sieves_same : (keeps : ℕ → ℕ → Bool) (u : Table) → Sound u → ((q : ℕ) → q < u.head.n → keeps (idx (key u q)) (val u q) ≡ true) → Sieves keeps u u
sieves_same keeps u a h k = (
  split (is_live u (idx k) (version k))
      (λ e.
      let l = live u _ _ e in
      let o = live-place u a k l in
      let y : keeps (idx k) (val u (link u (idx k))) ≡ true = ap (λ (z : ℕ). keeps z (val u (link u (idx k)))) (sym o.1) ∙ h _ o.0 in
      rw (find-live u k l, y))
      (λ e. rw (find-dead u k e)),
  refl,
)

-- one element is dropped
module _ (u : Table) (a : Sound u) (p : ℕ) (l : p < u.head.n) where
  pub find_dropped : (k : ℕ) → find (dropped u p) k ≡ cond (eqb (as_read k) (key u p)) none (find u k)
  find_dropped k =
      let e : pack (idx (key u p)) (vsn (key u p)) ≡ key u p = omega arith in
      find_leave u (dropped u p) (orderly u a) (idx (key u p)) (vsn (key u p)) (stored-occupied u a p l) (a.homes p l).same (dropped_leaves u a p l) k
      ∙ ap (λ (m : ℕ). cond (eqb (as_read k) m) none (find u k)) e

  pub away_dropped : (k : ℕ) → away (dropped u p) k ≡ away u k
  away_dropped k =
      away-freed u (dropped u p) (orderly u a) (idx (key u p)) (vsn (key u p)) (stored-occupied u a p l) (a.homes p l).same (dropped_leaves u a p l) k
      (without-link u (orderly u a) _ (stored-occupied u a p l))

  pub find-stored : find u (key u p) ≡ some (val u p)
  find-stored = find-live u (key u p) (stored-live u a p l) ∙ ap (λ (q : ℕ). some (val u q)) (a.homes p l).back

  -- to drop what the rule does not keep changes nothing that it keeps
  sieved_dropped : (keeps : ℕ → ℕ → Bool) → keeps (idx (key u p)) (val u p) ≡ false → (k : ℕ) → sieve keeps (idx k) (find (dropped u p) k) ≡ sieve keeps (idx k) (find u k)
  sieved_dropped keeps n k =
      ap (sieve keeps (idx k)) (find_dropped k)
      ∙ by_cases (ℕ_discrete (as_read k) (key u p))
      (λ e.
      let i : idx k ≡ idx (key u p) = sym (idx-read k) ∙ ap idx e in
      let f : find u k ≡ some (val u p) = find-read u k ∙ ap (find u) e ∙ find-stored in
      rw (eq-eqb (as_read k) (key u p) e, f, i, n))
      (λ ne. rw (ne_eqb (as_read k) (key u p) ne))

pub sieves_drop : (keeps : ℕ → ℕ → Bool) (u w : Table) (p : ℕ) → Sound u → p < u.head.n → keeps (idx (key u p)) (val u p) ≡ false
    → Sieves keeps (dropped u p) w → Sieves keeps u w
sieves_drop keeps u w p a l n r k = ((r k).0 ∙ sieved_dropped u a p l keeps n k, (r k).1 ∙ away_dropped u a p l k)
