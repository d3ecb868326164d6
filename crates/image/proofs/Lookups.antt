-- What a rebuilt table answers: lookup is the record at the key's index if the versions are equal, no key is detached, and the places are in slot order.
-- Assumes nothing.
use mathlib.Core.Path.{◌≡◌, sym, ap, ◌∙◌}
use mathlib.Core.Logic.{by_cases}
use mathlib.Core.Bool.{true, false}
use mathlib.Core.List.{List}
use mathlib.Core.Option.{some}
use Prim.Native.Nat.{ℕ, ◌≤◌, ◌<◌}
use native.Mathlib.Omega.{arith}
use native.Mathlib.Decide.{dec_lt}
use lib.ListN.{length}
use Rattle.lists.specs.Count.{count}
use Rattle.lists.proofs.Tests.{split, and_true, tests, parts, same_test}
use Rattle.lists.proofs.Listed.{count-below, count_reaches}
use Rattle.keys.specs.Keys.{far, idx, version}
use Rattle.keys.proofs.Keys.{version-odd, idx-pack}
use Rattle.records.specs.declared.Record.{Record}
use Rattle.table.specs.Table.{Table, link, key, val, is_live, is_detached}
use Rattle.table.specs.Calls.{said_value, Out, lookup}
use Rattle.history.specs.Begins.{find, value_or}
use Rattle.table.proofs.Shape.{lengths}
use Rattle.table.proofs.Judged.{Live, live}
use Rattle.table.proofs.Facts.{facts_live, not_detached}
use Rattle.table.proofs.Cases.{lookup-live, lookup-dead}
use Rattle.history.proofs.Follows.{find-live, find-dead}
use Rattle.table.proofs.Thread.{next-high}
use Rattle.image.specs.Rebuild.{slot_in, is_full, is_bare, val_in, rebuilt}
use Rattle.image.specs.Recorded.{Given, is_recorded, recorded, Recorded}
use Rattle.image.proofs.Slots.{by_record, vacant_link, occupied-link, occupied-full}
use Rattle.image.proofs.Rebuilt.{slots_are, places_are, link_at, key_at, val_at, full-link, small, odd-full, orderly_rebuilt, sound-rebuilt, version_at}

pub is_recorded_lem : (l : List Record) (k : ℕ) → is_recorded l k ≡ true → Recorded l k
unfolding is_recorded
is_recorded_lem l k h = search parts

pub recorded_is : (l : List Record) (k : ℕ) → Recorded l k → is_recorded l k ≡ true
unfolding is_recorded
recorded_is l k r = search (and_true, tests)

module _ (vs ls ks xs : List ℕ) (l : List Record) (g : Given vs ls ks xs l) where
  abbrev t : Table
  t = rebuilt vs ls ks xs l

  module _ (k : ℕ) where
    -- a key is live exactly if it has a record
    live-recorded : Live t (idx k) (version k) → Recorded l k
    live-recorded a =
        let h : idx k < length l = omega (arith, a.high, slots_are vs ls ks xs l g) in
        record { low = a.low; high = h; same = sym (version_at vs ls ks xs l g (idx k) a.low h) ∙ a.same }

    recorded-live : Recorded l k → Live t (idx k) (version k)
    recorded-live a =
        record { low = a.low; high = omega (arith, a.high, slots_are vs ls ks xs l g); same = version_at vs ls ks xs l g (idx k) a.low a.high ∙ a.same }

    pub recorded-full : Recorded l k → is_full l (idx k) ≡ true
    recorded-full a =
        odd-full vs ls ks xs l g (idx k) a.high (omega (arith, version_at vs ls ks xs l g (idx k) a.low a.high, a.same, version-odd k))

    recorded-value : Recorded l k → val t (link t (idx k)) ≡ val_in l (idx k)
    recorded-value a =
        let f = recorded-full a in
        ap (val t) (full-link vs ls ks xs l g (idx k) a.high f) ∙ val_at vs ls ks xs l g (idx k) a.high f

    live_same : is_live t (idx k) (version k) ≡ is_recorded l k
    live_same = same_test _ _ (λ e. recorded_is l k (live-recorded (live t _ _ e))) (λ e. facts_live t _ _ (recorded-live (is_recorded_lem l k e)))

    -- what lookup finds, for every number given as a key
    pub find-rebuilt : find t k ≡ recorded l k
    unfolding recorded
    find-rebuilt =
        split (is_recorded l k)
        (λ e.
        let a = is_recorded_lem l k e in
        rw e (find-live t k (recorded-live a) ∙ ap some (recorded-value a)))
        (λ e. rw e (find-dead t k (live_same ∙ e)))

    pub lookup-rebuilt : (lookup t k).0 ≡ value_or t k (recorded l k)
    unfolding recorded
    lookup-rebuilt =
        split (is_recorded l k)
        (λ e.
        let a = is_recorded_lem l k e in
        rw e (ap (λ (o : Out). o.0) (lookup-live t (sound-rebuilt vs ls ks xs l g) k (recorded-live a)) ∙ ap said_value (recorded-value a)))
        (λ e. rw e (ap (λ (o : Out). o.0) (lookup-dead t (sound-rebuilt vs ls ks xs l g) k (live_same ∙ e))))

  -- ---- no slot's link says detached

  link-small : (i : ℕ) → 1 ≤ i → i < length l → link t i < far
  link-small i low h =
      let e = link_at vs ls ks xs l g i h in
      by_record (slot_in l i)
      (λ v q. omega (arith, e, vacant_link l i low v q, next-high (is_bare l) (length l) i (omega arith), g.few, lengths vs ls ks xs g.fit))
      (λ v x q. omega (arith, e, occupied-link l i low v x q, count-below (is_full l) (length l) i h (occupied-full l i low v x q), places_are vs ls ks xs l g, (orderly_rebuilt vs ls ks xs l g).shape, slots_are vs ls ks xs l g))

  pub detached-rebuilt : (i v : ℕ) → is_detached t i v ≡ false
  detached-rebuilt i v =
      not_detached t i v (λ d. let h : i < length l = omega (arith, d.high, slots_are vs ls ks xs l g) in omega (arith, d.away, link-small i d.low h))

  -- ---- the elements stand in slot order

  pub order_rebuilt : (p q : ℕ) → p < q → q < t.head.n → idx (key t p) < idx (key t q)
  order_rebuilt p q h b =
      let n = places_are vs ls ks xs l g in
      let i = count_reaches (is_full l) (length l) p (omega (arith, n)) in
      let j = count_reaches (is_full l) (length l) q (omega (arith, n)) in
      let x : idx (key t p) ≡ i.0 = ap (λ (m : ℕ). idx (key t m)) (sym i.3) ∙ ap idx (key_at vs ls ks xs l g i.0 i.1 i.2) ∙ idx-pack i.0 _ (small vs ls ks xs l g i.0 i.1) in
      let y : idx (key t q) ≡ j.0 = ap (λ (m : ℕ). idx (key t m)) (sym j.3) ∙ ap idx (key_at vs ls ks xs l g j.0 j.1 j.2) ∙ idx-pack j.0 _ (small vs ls ks xs l g j.0 j.1) in
      by_cases (dec_lt i.0 j.0)
      (λ less. omega (arith, x, y, less))
      (λ not. by_cases (dec_lt j.0 i.0)
      (λ more. absurd (omega (arith, count-below (is_full l) i.0 j.0 more j.2, i.3, j.3)))
      (λ nor. let e : i.0 ≡ j.0 = omega arith in absurd (omega (arith, ap (count (is_full l)) e, i.3, j.3))))
