-- Theorem D: insert answers a key again only after 2,147,483,648 removals at its index. The clock of the index is the removals and inserts there, modulo
-- 2 ^ 32; removals come at odd and inserts at even clocks, so half the way that the clock has gone is the number of removals. Assumes nothing.
use mathlib.Core.Path.{◌≡◌, refl, sym, ap, ap₂, ◌∙◌}
use mathlib.Core.Logic.{inl, by_cases, ⊎_elim}
use mathlib.Core.List.{List, [], ◌∷◌, ◌++◌}
use mathlib.Core.Option.{some}
use Prim.Native.Nat.{ℕ, ◌+◌, ◌/◌, ◌%◌, ◌≤◌, ◌<◌}
use native.Mathlib.Nat.{add_assoc, zero-add}
use native.Mathlib.Omega.{arith}
use native.Mathlib.Decide.{ℕ_discrete, dec_lt}
use borrow.Author.Tests.{eq-eqb}
use Rattle.keys.specs.Keys.{W, far, idx, version, as_read, down}
use Rattle.keys.proofs.Keys.{idx-pack, version-pack, version-odd, version_word}
use Rattle.keys.proofs.Versions.{down-up}
use Rattle.table.specs.Table.{Table, ver, link}
use Rattle.table.specs.Calls.{Said, said_key, insert}
use Rattle.table.specs.Sound.{Sound}
use Rattle.table.specs.Steps.{Call, c_insert, step, after, history}
use Rattle.history.specs.Reading.{change, Reading, changed, reading, value_in, removed_at, removals, Known, round}
use Rattle.history.specs.Begins.{Begins}
use Rattle.history.proofs.Readings.{value_mem, in_mem}
use Rattle.table.proofs.Orderly.{orderly}
use Rattle.table.proofs.Enter.{head_free}
use Rattle.table.proofs.Cases.{issued_ways}
use Rattle.history.proofs.Begins.{base_live, base_detached, begins-after}
use Rattle.history.proofs.Promises.{insert-new}
use Rattle.history.proofs.Clock.{clock, clock_odd, clock_away, clock_free, clock_new}
use Rattle.history.proofs.Turns.{Turns, step_turns}

-- ---- the clock through a list of calls

-- the clock at i stood at `from`, there were r removals since, and it would stand at `to` if it did not wrap
record Turned (u : Table) (i from r : ℕ) : Type 0 where
  to : ℕ
  later : from ≤ to
  stands : clock u i ≡ to % W
  half : to / 2 ≡ from / 2 + r

turn : (t u : Table) (i m from r : ℕ) → Turns t u i m → Turned t i from r → Turned u i from (m + r)
turn t u i m from r step h =
    ⊎_elim
    (⊎_elim
    (λ s. record { to = h.to; later = h.later; stands = s.1 ∙ h.stands; half = omega (arith, s.0, h.half) })
    (λ s.
    let st : clock t i ≡ h.to % W = h.stands in
    let hf : h.to / 2 ≡ from / 2 + r = h.half in
    record { to = h.to + 1; later = omega (arith, h.later); stands = s.2 ∙ omega (arith, st); half = omega (arith, s.0, s.1, st, hf) }))
    (λ s.
    let st : clock t i ≡ h.to % W = h.stands in
    let hf : h.to / 2 ≡ from / 2 + r = h.half in
    record { to = h.to + 1; later = omega (arith, h.later); stands = s.2 ∙ omega (arith, st, s.1); half = omega (arith, s.0, s.1, st, hf) })
    step

clock_word : (t : Table) → Sound t → (i : ℕ) → clock t i < W
clock_word t a i =
    by_cases (dec_lt i t.head.s)
    (λ h. by_cases (ℕ_discrete (ver t i % 2) 1)
    (λ o. rw (clock_odd t i h o) (a.words i h))
    (λ no.
    let e : ver t i % 2 ≡ 0 = omega (arith, no) in
    by_cases (ℕ_discrete (link t i) far)
    (λ f. rw (clock_away t i h e f) (omega arith))
    (λ nf. rw (clock_free t i h e nf) (a.words i h))))
    (λ h. rw (clock_new t i (omega (arith, h))) (omega arith))

turned_after : (t : Table) (base : Reading) → Begins t base → (i : ℕ) → i < W → (cs : List Call) → Turned (after t cs) i (clock t i) (removals base (history t cs) i)
unfolding after history removals
turned_after t base b i hi [] =
    let w = clock_word t b.sound i in
    record { to = clock t i; later = omega arith; stands = omega arith; half = omega arith }
turned_after t base b i hi (c ∷ cs) =
    turn (after t cs) _ i _ (clock t i) _ (step_turns (after t cs) _ (begins-after t base b cs) i hi c) (turned_after t base b i hi cs)

-- ---- the clock of a key

-- the key that an insert answers has the version after the clock's
issue_clock : (t : Table) → Sound t → (x k : ℕ) → (insert t x).0 ≡ said_key k → clock t (idx k) + 1 ≡ version k
issue_clock t a x k e =
    let o = orderly t a in
    issued_ways t a x k e
    (λ h q.
    let f = head_free t o h in
    let od : (ver t t.head.f + 1) % 2 ≡ 1 = omega (arith, f.vacant.even) in
    let w : ver t t.head.f + 1 < W = omega (arith, f.vacant.even, a.words _ h) in
    let small : t.head.f < W = omega (arith, o.shape) in
    let i : idx k ≡ t.head.f = ap idx q ∙ idx-pack t.head.f (ver t t.head.f + 1) small in
    let v : version k ≡ ver t t.head.f + 1 = ap version q ∙ version-pack t.head.f (ver t t.head.f + 1) small w od in
    ap (λ (m : ℕ). clock t m + 1) i ∙ ap (λ (m : ℕ). m + 1) (clock_free t _ h f.vacant.even (λ z. omega (arith, z, f, o.shape))) ∙ sym v)
    (λ q.
    let small : t.head.s < W = omega (arith, o.shape) in
    let i : idx k ≡ t.head.s = ap idx q ∙ idx-pack t.head.s 1 small in
    let v : version k ≡ 1 = ap version q ∙ version-pack t.head.s 1 small (omega arith) refl in
    ap (λ (m : ℕ). clock t m + 1) i ∙ ap (λ (m : ℕ). m + 1) (clock_new t _ (omega arith)) ∙ sym v)

-- a known key's version is the clock's
known_clock : (t : Table) (base : Reading) → Begins t base → (k : ℕ) → Known base k → clock t (idx k) ≡ version k
known_clock t base b k h =
    ⊎_elim
    (λ e.
    let l = base_live t base b k (value_mem base.live k e.0 e.1) in
    clock_odd t (idx k) l.high (omega (arith, l.same, version-odd k)) ∙ l.same)
    (λ e.
    let d = base_detached t base b k (in_mem base.detached k e) in
    clock_away t (idx k) d.high (omega (arith, d.same, version-odd k)) d.away ∙ ap down d.same ∙ down-up (version k) (version_word k)) h

-- ---- a key that is live or detached, and issued later

-- from a clock at v, round to one below it
round_from : (v to r : ℕ) → v % 2 ≡ 1 → v < W → v ≤ to → to % W + 1 ≡ v → to / 2 ≡ v / 2 + r → round ≤ r
round_from v to r od w l e h = omega arith

pub reissue_base : (t : Table) (base : Reading) → Begins t base → (cs : List Call) (y k : ℕ) → Known base k → (insert (after t cs) y).0 ≡ said_key k
    → round ≤ removals base (history t cs) (idx k)
reissue_base t base b cs y k h e =
    let n = turned_after t base b (idx k) (omega arith) cs in
    let v : clock t (idx k) ≡ version k = known_clock t base b k h in
    let i : clock (after t cs) (idx k) + 1 ≡ version k = issue_clock (after t cs) (begins-after t base b cs).sound y k e in
    round_from (clock t (idx k)) n.to _ (rw v (version-odd k)) (rw v (version_word k)) n.later (ap (λ (m : ℕ). m + 1) (sym n.stands) ∙ i ∙ sym v) n.half

-- ---- at any two moments of a list of calls

module _ (t : Table) (base : Reading) (cs : List Call) where
  after_more : (ds : List Call) → after t (ds ++ cs) ≡ after (after t cs) ds
  unfolding after
  after_more [] = refl
  after_more (d ∷ ds) = ap (λ (u : Table). (step u d).1) (after_more ds)

  reading-more : (ds : List Call) → reading base (history t (ds ++ cs)) ≡ reading (reading base (history t cs)) (history (after t cs) ds)
  unfolding history reading
  reading-more [] = refl
  reading-more (d ∷ ds) = ap₂ (λ (u : Table) (r : Reading). changed (change d (step u d).0) r) (after_more ds) (reading-more ds)

  removals-more : (i : ℕ) (ds : List Call)
      → removals base (history t (ds ++ cs)) i ≡ removals (reading base (history t cs)) (history (after t cs) ds) i + removals base (history t cs) i
  unfolding history removals
  removals-more i [] = sym (zero-add (removals base (history t cs) i))
  removals-more i (d ∷ ds) =
      ap₂ ◌+◌ (ap₂ (λ (u : Table) (r : Reading). removed_at (change d (step u d).0) i r) (after_more ds) (reading-more ds)) (removals-more i ds)
      ∙ sym (add_assoc (removed_at (change d (step (after (after t cs) ds) d).0) i (reading (reading base (history t cs)) (history (after t cs) ds))) _ _)

  pub reissue_known : Begins t base → (ds : List Call) (y k : ℕ) → Known (reading base (history t cs)) k → (insert (after t (ds ++ cs)) y).0 ≡ said_key k
      → removals base (history t cs) (idx k) + round ≤ removals base (history t (ds ++ cs)) (idx k)
  reissue_known b ds y k h e =
      let r = reissue_base (after t cs) _ (begins-after t base b cs) ds y k h (ap (λ (u : Table). (insert u y).0) (sym (after_more ds)) ∙ e) in
      omega (arith, r, removals-more (idx k) ds)

-- ---- two inserts that answer one key, as read

-- after the first the key is live
insert-lives : (t : Table) (base : Reading) (cs : List Call) (x k : ℕ) → as_read k ≡ k → (insert (after t cs) x).0 ≡ said_key k
    → value_in (reading base (history t (c_insert x ∷ cs))).live k ≡ some x
unfolding history reading step change changed value_in
insert-lives t base cs x k q e =
    ap (λ (s : Said). value_in (changed (change (c_insert x) s) (reading base (history t cs))).live k) e ∙ rw (q, eq-eqb k k refl)

pub reissue : (t : Table) (base : Reading) → Begins t base → (cs ds : List Call) (x y j k : ℕ) → (insert (after t cs) x).0 ≡ said_key j
    → (insert (after t (ds ++ (c_insert x ∷ cs))) y).0 ≡ said_key k → as_read j ≡ as_read k
    → removals base (history t (c_insert x ∷ cs)) (idx k) + round ≤ removals base (history t (ds ++ (c_insert x ∷ cs))) (idx k)
reissue t base b cs ds x y j k e f same =
    let r : as_read k ≡ k = (insert-new t base b (ds ++ (c_insert x ∷ cs)) y k f).0 in
    let q : j ≡ k = sym (insert-new t base b cs x j e).0 ∙ same ∙ r in
    reissue_known t base (c_insert x ∷ cs) b ds y k (inl (x, insert-lives t base cs x k r (e ∙ ap said_key q))) f
