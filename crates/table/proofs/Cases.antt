-- What each call comes to on a sound table, one equation for each outcome: refusals 1 and 5 never happen there. Assumes nothing.
use mathlib.Core.Path.{◌≡◌, refl, sym, ap, ◌∙◌}
use mathlib.Core.Logic.{by_cases}
use mathlib.Core.Bool.{true, false}
use Prim.Native.Nat.{ℕ, ◌+◌, ◌-◌, ◌≤◌, ◌<◌}
use native.Mathlib.Omega.{arith}
use native.Mathlib.Decide.{dec_lt}
use lib.Dec.{ltb}
use borrow.Author.Tests.{lt-ltb, le-ltb, le-leb, lt-leb, eq-eqb, ne_eqb}
use Rattle.lists.proofs.Tests.{and_true, tests}
use Rattle.keys.specs.Keys.{W, idx, vsn, pack, version, as_read, odd, down}
use Rattle.keys.proofs.Keys.{version-odd, version_word, version-pack, read-pack, is_read}
use Rattle.keys.proofs.Versions.{odd_even, down-up}
use Rattle.rules.specs.declared.Rule.{Rule}
use Rattle.rules.specs.Rules.{keeps_of}
use Rattle.table.specs.Table.{Table, ver, link, key, val, cap, is_live, dead, is_detached, is_held, last, last_idx, last_in_range, last_is_held, head_is_free, with_value}
use Rattle.table.specs.Calls.{Out, said_key, said_value, said_pair, said_done, refused, found, fails, place_in, place, lookup, put, next_in, next, inserted, insert, leaving, remove, detach, berth_in, berth, reattach, drain}
use Rattle.table.specs.Sound.{Vacant, Home, Sound}
use Rattle.table.specs.Sweeps.{retaining, retain, clearing, clear}
use Rattle.table.proofs.Shape.{shape}
use Rattle.table.proofs.Judged.{Live}
use Rattle.table.proofs.Facts.{facts_live, Detached, facts_detached}
use Rattle.table.proofs.Orderly.{Occupied, home_occupied, orderly, room}
use Rattle.table.proofs.Leave.{left-last, without, apart}
use Rattle.table.proofs.Enter.{taken, grown, rejoined, head_free}
use Rattle.table.proofs.Decides.{sound_passes}

module _ (t : Table) (a : Sound t) where
  last_home : 0 < t.head.n → Home t (last t)
  last_home h = a.homes (last t) (omega arith)

  last_yes : 0 < t.head.n → last_in_range t ≡ true
  unfolding last_in_range
  last_yes h = let l = last_home h in search (and_true, tests)

  last-held : 0 < t.head.n → last_is_held t ≡ true
  unfolding last_is_held
  last-held h = let l = last_home h in and_true (last_yes h) (search (and_true, tests))

  head_yes : t.head.f < t.head.s → head_is_free t ≡ true
  unfolding head_is_free
  head_yes h =
      let e = head_free t (orderly t a) h in
      let r : t.head.n + 1 < t.head.s = room t a.homes t.head.f e.vacant in
      let p : t.head.n < t.head.s - 1 = omega arith in
      search (and_true, tests)

  -- ---- the keys in the places

  module _ (p : ℕ) (h : p < t.head.n) where
    pub stored-occupied : Occupied t (idx (key t p))
    stored-occupied = home_occupied t p (a.homes p h)

    stored-pack : key t p ≡ pack (idx (key t p)) (vsn (key t p))
    stored-pack = omega arith

    stored_word : vsn (key t p) < W
    stored_word = let m = a.homes p h in omega (arith, a.words _ m.high, m.same)

    pub stored-version : version (key t p) ≡ vsn (key t p)
    stored-version = ap version stored-pack ∙ version-pack _ _ (omega arith) stored_word (a.homes p h).odd

    -- such a key is read as itself, and is live
    pub stored-read : as_read (key t p) ≡ key t p
    stored-read = ap as_read stored-pack ∙ read-pack _ _ (omega arith) stored_word (a.homes p h).odd ∙ sym stored-pack

    pub stored-live : Live t (idx (key t p)) (version (key t p))
    stored-live = let m = a.homes p h in record { low = m.low; high = m.high; same = m.same ∙ sym stored-version }

  -- ---- a key: live or not

  module _ (k : ℕ) where
    -- a live key's slot, and its place
    pub live-occupied : Live t (idx k) (version k) → Occupied t (idx k)
    live-occupied l = record { low = l.low; high = l.high; odd = omega (arith, l.same, version-odd k) }

    pub live-place : Live t (idx k) (version k) → (link t (idx k) < t.head.n) × (idx (key t (link t (idx k))) ≡ idx k)
    live-place l = (orderly t a).odds (idx k) l.high (live-occupied l).odd

    held_yes : Live t (idx k) (version k) → is_held t (idx k) (version k) ≡ true
    unfolding is_held
    held_yes l =
        let o = live-place l in
        let h : Home t (link t (idx k)) = a.homes _ o.0 in
        let e : key t (link t (idx k)) ≡ pack (idx k) (version k) = omega (arith, o.1, h.same, ap (ver t) o.1, l.same) in
        and_true (lt-ltb _ _ o.0) (eq-eqb _ _ e)

    -- the judgements
    pub place_in_live : Live t (idx k) (version k) → place_in t (idx k) (version k) ≡ found (link t (idx k))
    unfolding place_in
    place_in_live l = rw (facts_live t _ _ l, held_yes l)

    pub place_in_dead : is_live t (idx k) (version k) ≡ false → place_in t (idx k) (version k) ≡ fails (dead t (idx k) (version k))
    unfolding place_in
    place_in_dead e = rw e

    place-live : Live t (idx k) (version k) → place t k ≡ found (link t (idx k))
    unfolding place
    place-live l = rw (a.shape, place_in_live l)

    place-dead : is_live t (idx k) (version k) ≡ false → place t k ≡ fails (dead t (idx k) (version k))
    unfolding place
    place-dead e = rw (a.shape, place_in_dead e)

    leaving-live : Live t (idx k) (version k) → leaving t k ≡ found (link t (idx k))
    unfolding leaving
    leaving-live l = rw (place-live l, last_yes (omega (arith, live-place l)))

    leaving-dead : is_live t (idx k) (version k) ≡ false → leaving t k ≡ fails (dead t (idx k) (version k))
    unfolding leaving
    leaving-dead e = rw (place-dead e)

    pub lookup-live : Live t (idx k) (version k) → lookup t k ≡ (said_value (val t (link t (idx k))), t)
    unfolding lookup
    lookup-live l = rw (place-live l)

    pub lookup-dead : is_live t (idx k) (version k) ≡ false → lookup t k ≡ (refused (dead t (idx k) (version k)), t)
    unfolding lookup
    lookup-dead e = rw (place-dead e)

    pub put-live : (x : ℕ) → Live t (idx k) (version k) → put t k x ≡ (said_value (val t (link t (idx k))), with_value t (link t (idx k)) x)
    unfolding put
    put-live x l = rw (place-live l)

    pub put-dead : (x : ℕ) → is_live t (idx k) (version k) ≡ false → put t k x ≡ (refused (dead t (idx k) (version k)), t)
    unfolding put
    put-dead x e = rw (place-dead e)

    pub remove-live : Live t (idx k) (version k) → remove t k ≡ (said_value (val t (link t (idx k))), without t (idx k))
    unfolding remove
    remove-live l = rw (leaving-live l)

    pub remove-dead : is_live t (idx k) (version k) ≡ false → remove t k ≡ (refused (dead t (idx k) (version k)), t)
    unfolding remove
    remove-dead e = rw (leaving-dead e)

    pub detach-live : Live t (idx k) (version k) → detach t k ≡ (said_value (val t (link t (idx k))), apart t (idx k))
    unfolding detach
    detach-live l = rw (leaving-live l)

    pub detach-dead : is_live t (idx k) (version k) ≡ false → detach t k ≡ (refused (dead t (idx k) (version k)), t)
    unfolding detach
    detach-dead e = rw (leaving-dead e)

    -- ---- a key: detached or not

    pub detached_vacant : Detached t (idx k) (version k) → Vacant t (idx k)
    detached_vacant d = record { low = d.low; high = d.high; even = omega (arith, d.same, version-odd k) }

    berth-met : Detached t (idx k) (version k) → berth t k ≡ found (idx k)
    unfolding berth berth_in
    berth-met d =
        let r : t.head.n + 1 < t.head.s = room t a.homes (idx k) (detached_vacant d) in
        rw (a.shape, facts_detached t _ _ d, lt-ltb t.head.n (t.head.s - 1) (omega arith))

    berth_not : is_detached t (idx k) (version k) ≡ false → berth t k ≡ fails 4
    unfolding berth berth_in
    berth_not e = rw (a.shape, e)

    pub reattach-met : (x : ℕ) → Detached t (idx k) (version k) → reattach t k x ≡ (said_done, rejoined t (idx k) (version k) x)
    unfolding reattach
    reattach-met x d =
        let e : down (ver t (idx k)) ≡ version k = ap down d.same ∙ down-up (version k) (version_word k) in
        rw (berth-met d, e, is_read k (idx k) (version k) refl refl)

    pub reattach_not : (x : ℕ) → is_detached t (idx k) (version k) ≡ false → reattach t k x ≡ (refused 4, t)
    unfolding reattach
    reattach_not x e = rw (berth_not e)

  -- ---- insert: into the free head, into a new slot, or refused

  pub insert_ways {ℓ} : {A : Type ℓ} → (t.head.f < t.head.s → A) → (t.head.f ≡ t.head.s → t.head.s ≤ cap t → A)
      → (t.head.f ≡ t.head.s → t.head.s ≡ cap t + 1 → A) → A
  insert_ways takes grows full =
      let s = shape t a.shape in
      by_cases (dec_lt t.head.f t.head.s) takes
      (λ h.
      let e : t.head.f ≡ t.head.s = omega (arith, s, h) in
      by_cases (dec_lt t.head.s (cap t + 1)) (λ c. grows e (omega arith)) (λ c. full e (omega (arith, s, c))))

  module _ (h : t.head.f < t.head.s) where
    free_odd : odd (ver t t.head.f) ≡ ver t t.head.f + 1
    free_odd = odd_even _ (head_free t (orderly t a) h).vacant.even

    pub next-taken : next t ≡ found (pack t.head.f (ver t t.head.f + 1))
    unfolding next next_in
    next-taken = rw (a.shape, lt-ltb t.head.f t.head.s h, head_yes h, free_odd)

    pub insert-taken : (x : ℕ) → insert t x ≡ (said_key (pack t.head.f (ver t t.head.f + 1)), taken t x)
    unfolding insert inserted
    insert-taken x = rw (next-taken, lt-ltb t.head.f t.head.s h, free_odd)

  module _ (h : t.head.f ≡ t.head.s) where
    none_free : ltb t.head.f t.head.s ≡ false
    none_free = le-ltb t.head.f t.head.s (omega arith)

    pub next-grown : t.head.s ≤ cap t → next t ≡ found (pack t.head.s 1)
    unfolding next next_in
    next-grown c = rw (a.shape, none_free, le-leb _ _ c)

    pub insert-grown : (x : ℕ) → t.head.s ≤ cap t → insert t x ≡ (said_key (pack t.head.s 1), grown t x)
    unfolding insert inserted
    insert-grown x c = rw (next-grown c, none_free)

    pub next-full : t.head.s ≡ cap t + 1 → next t ≡ fails 3
    unfolding next next_in
    next-full c = rw (a.shape, none_free, lt-leb t.head.s (cap t) (omega arith))

    pub insert-full : (x : ℕ) → t.head.s ≡ cap t + 1 → insert t x ≡ (refused 3, t)
    unfolding insert
    insert-full x c = rw (next-full c)

  -- the key that an insert answers: the free head's, or the first of a new slot
  pub issued_ways : {A : Type 0} (x k : ℕ) → (insert t x).0 ≡ said_key k → (t.head.f < t.head.s → k ≡ pack t.head.f (ver t t.head.f + 1) → A)
      → (k ≡ pack t.head.s 1 → A) → A
  issued_ways x k e takes grows =
      insert_ways
      (λ h.
      let p : (insert t x).0 ≡ said_key (pack t.head.f (ver t t.head.f + 1)) = ap (λ (r : Out). r.0) (insert-taken h x) in
      takes h (cc))
      (λ g c.
      let p : (insert t x).0 ≡ said_key (pack t.head.s 1) = ap (λ (r : Out). r.0) (insert-grown g x c) in
      grows (cc))
      (λ g c.
      let p : (insert t x).0 ≡ refused 3 = ap (λ (r : Out). r.0) (insert-full g x c) in
      let z : ◌≡◌ {A = ℕ} 0 1 = cc in
      absurd (omega arith))

  -- ---- drain step, retain, clear

  pub drain-some : 0 < t.head.n → drain t ≡ (said_pair (key t (last t)) (val t (last t)), without t (last_idx t))
  unfolding drain
  drain-some h =
      rw (a.shape, ne_eqb t.head.n 0 (λ e. omega arith), last-held h, left-last t (last_idx t) _ _ (last_home h).back)

  pub drain-none : t.head.n ≡ 0 → drain t ≡ (said_done, t)
  unfolding drain
  drain-none h = rw (a.shape, eq-eqb t.head.n 0 h)

  pub retain_is : (rule : Rule) → retain t rule ≡ (said_done, retaining (keeps_of rule) t.head.n 0 t)
  unfolding retain
  retain_is rule = rw (a.shape, sound_passes t a)

  pub clear_is : clear t ≡ (said_done, clearing t.head.n t)
  unfolding clear
  clear_is = rw (a.shape, sound_passes t a)
