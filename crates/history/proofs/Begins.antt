-- A table that reads as a base: each number given as a key is live or detached there exactly where the base says so. Every call keeps this,
-- with the base changed as the call's answer says; a fresh table reads as the empty base. Assumes nothing.
use mathlib.Core.Path.{◌≡◌, refl, sym, ap, ◌∙◌}
use mathlib.Core.Logic.{⊎_elim}
use mathlib.Core.Bool.{Bool, true, false}
use mathlib.Core.List.Memᴰ
use mathlib.Core.List.{List, [], ◌∷◌, Memᴰ}
use mathlib.Core.Option.{none, some}
use Prim.Native.Nat.{ℕ, ◌+◌, ◌%◌, ◌<◌}
use native.Mathlib.Omega.{arith}
use Rattle.lists.specs.Among.{among}
use Rattle.lists.proofs.Tests.{split}
use Rattle.lists.proofs.Once.{once_nil, sublist_mem}
use Rattle.keys.specs.Keys.{W, idx, pack, version, as_read}
use Rattle.keys.proofs.Keys.{version-odd, idx-pack, read-pack, version-pack, read-read}
use Rattle.table.specs.declared.Header.{Header}
use Rattle.table.specs.Table.{Table, ver, link, key, val, is_live, last}
use Rattle.table.specs.Calls.{said_key, Out, begins, fresh, fresh_table, insert}
use Rattle.table.specs.Sound.{Sound}
use Rattle.table.specs.Steps.{Call, step, after, history}
use Rattle.history.specs.Reading.{Change, nothing, issued, returned, revalued, dies, parts, sieved, change, Reading, blank, changed, reading, value_in, keys_of}
use Rattle.history.specs.Begins.{find, away, Begins}
use Rattle.history.proofs.Changes.{lives_after, detached_after}
use Rattle.history.proofs.Readings.{mem_value, mem_in, value-changed, detached-changed, NewKey, once-changed, once-detached, without_sublist, sifted_sublist, valued_sublist, except_sublist}
use Rattle.table.proofs.Refused.{fresh-begun}
use Rattle.table.proofs.Judged.{Live, live}
use Rattle.table.proofs.Facts.{Detached, detached_facts, facts_detached, not_detached}
use Rattle.table.proofs.Orderly.{Orderly, orderly}
use Rattle.table.proofs.Enter.{head_free}
use Rattle.table.proofs.Cases.{stored-live, issued_ways}
use Rattle.table.proofs.Outcomes.{Outcome, outcome, refuses, looks, puts, takes, grows, removes, detaches, reattaches, drains, done, retains, clears}
use Rattle.table.proofs.Keeps.{sound-fresh, sound-step}
use Rattle.history.proofs.Follows.{find-live, find-dead, find_not, find-read, away-read}
use Rattle.history.proofs.Answers.{change-refused, step_follows}

-- ---- what a change says of the key that it names

-- a key is named as read; it begins to live where it does not live, and changes or leaves where it does
pub record Lives (t : Table) (k : ℕ) : Type 0 where
  pub read : as_read k ≡ k
  pub value : ℕ
  pub found : find t k ≡ some value
  pub not_away : away t k ≡ false

pub record Absent (t : Table) (k : ℕ) (b : Bool) : Type 0 where
  pub read : as_read k ≡ k
  pub lost : find t k ≡ none
  pub whether_away : away t k ≡ b

abbrev pub Fits : Table → Change → Type 0
Fits t nothing = Unit {0}
Fits t (issued k x) = Absent t k false
Fits t (returned k x) = Absent t k true
Fits t (revalued k x) = Lives t k
Fits t (dies k) = Lives t k
Fits t (parts k) = Lives t k
Fits t (sieved keeps) = Unit {0}

module _ (t : Table) (a : Sound t) where
  o : Orderly t
  o = orderly t a

  -- a live key is not detached
  live_not_away : (k : ℕ) → Live t (idx k) (version k) → away t k ≡ false
  live_not_away k l = not_detached t _ _ (λ d. omega (arith, l.same, d.same, version-odd k))

  live-lives : (k : ℕ) → Live t (idx k) (version k) → Lives t (as_read k)
  live-lives k l =
      record {
        read = read-read k;
        value = val t (link t (idx k));
        found = sym (find-read t k) ∙ find-live t k l;
        not_away = sym (away-read t k) ∙ live_not_away k l;
      }

  -- the key of a slot's index i and version v, where that slot is neither at this version nor detached
  absent-read : (i v : ℕ) → i < W → v < W → v % 2 ≡ 1 → (Live t i v → ⊥) → (Detached t i v → ⊥) → Absent t (as_read (pack i v)) false
  absent-read i v hi hv od nl nd =
      let ei : idx (pack i v) ≡ i = idx-pack i v hi in
      let ev : version (pack i v) ≡ v = version-pack i v hi hv od in
      rw (read-pack i v hi hv od) (record {
        read = read-pack i v hi hv od;
        lost = find_not t (pack i v) (λ l. nl (rw (ei, ev) at l));
        whether_away = not_detached t _ _ (λ d. nd (rw (ei, ev) at d));
      })

  outcome_fits : (c : Call) (r : Out) → Outcome t c r → Fits t (change c r.0)
  unfolding change
  outcome_fits c r (refuses {r = n} e) = rw (change-refused c n) tt
  outcome_fits c r (looks j l) = tt
  outcome_fits c r (puts j x l) = live-lives j l
  outcome_fits c r (takes x h) =
      let e = head_free t o h in
      absent-read t.head.f (ver t t.head.f + 1) (omega (arith, o.shape)) (omega (arith, e.vacant.even, a.words t.head.f h)) (omega (arith, e.vacant.even))
      (λ l. omega (arith, l.same)) (λ d. omega (arith, d.away, e, o.shape))
  outcome_fits c r (grows x h p) =
      absent-read t.head.s 1 (omega (arith, o.shape)) (omega arith) refl (λ l. omega (arith, l.high)) (λ d. omega (arith, d.high))
  outcome_fits c r (removes j l) = live-lives j l
  outcome_fits c r (detaches j l) = live-lives j l
  outcome_fits c r (reattaches j x d) =
      record {
        read = read-read j;
        lost = sym (find-read t j) ∙ find_not t j (λ l. omega (arith, l.same, d.same, version-odd j));
        whether_away = sym (away-read t j) ∙ facts_detached t _ _ d;
      }
  outcome_fits c r (drains h) = live-lives (key t (last t)) (stored-live t a (last t) (omega arith))
  outcome_fits c r (done h) = tt
  outcome_fits c r (retains rule) = tt
  outcome_fits c r clears = tt

  pub step_fits : (c : Call) → Fits t (change c (step t c).0)
  step_fits c = outcome_fits c (step t c) (outcome t a c)

  -- ---- the key that an insert answers is as it is read

  pub insert-read : (x k : ℕ) → (insert t x).0 ≡ said_key k → as_read k ≡ k
  insert-read x k e =
      issued_ways t a x k e
      (λ h q.
      let f = head_free t o h in
      rw q (read-pack t.head.f _ (omega (arith, o.shape)) (omega (arith, f.vacant.even, a.words t.head.f h)) (omega (arith, f.vacant.even))))
      (λ q. rw q (read-pack t.head.s 1 (omega (arith, o.shape)) (omega arith) refl))

-- ---- a fresh table reads as nothing

pub fresh-begins : (vs ls ks xs : List ℕ) (h : Header) → (fresh vs ls ks xs).0 ≡ begins h → Begins (fresh_table vs ls ks xs h) blank
unfolding value_in among
fresh-begins vs ls ks xs h e =
    let one : h.s ≡ 1 = ap (λ (g : Header). g.s) (fresh-begun vs ls ks xs h e).1 in
    record {
      sound = sound-fresh vs ls ks xs h e;
      finds = λ k. find_not (fresh_table vs ls ks xs h) k (λ l. omega (arith, one, l));
      aways = λ k. not_detached (fresh_table vs ls ks xs h) _ _ (λ d. omega (arith, one, d.low, d.high));
      live_once = once_nil;
      live_read = λ k m. absurd (Memᴰ.not-nil m);
      detached_once = once_nil;
      detached_read = λ k m. absurd (Memᴰ.not-nil m);
    }

-- ---- every call keeps it

module _ (t : Table) (base : Reading) (b : Begins t base) where
  -- what is known of a key as read, in the base's words
  pub base_value : (k : ℕ) → as_read k ≡ k → value_in base.live k ≡ find t k
  base_value k e = ap (value_in base.live) (sym e) ∙ sym (b.finds k)

  pub base_away : (k : ℕ) → as_read k ≡ k → among k base.detached ≡ away t k
  base_away k e = ap (λ (j : ℕ). among j base.detached) (sym e) ∙ sym (b.aways k)

  -- each key of the base is live or detached in the table
  pub base_live : (k : ℕ) → Memᴰ k (keys_of base.live) → Live t (idx k) (version k)
  base_live k m =
      let v = mem_value base.live k m in
      split (is_live t (idx k) (version k)) (live t _ _)
      (λ e.
      let q : some v.0 ≡ none = sym v.1 ∙ base_value k (b.live_read k m) ∙ find-dead t k e in
      let z : ◌≡◌ {A = ℕ} 0 1 = cc in
      absurd (omega arith))

  pub base_detached : (k : ℕ) → Memᴰ k base.detached → Detached t (idx k) (version k)
  base_detached k m = detached_facts t _ _ (sym (base_away k (b.detached_read k m)) ∙ mem_in base.detached k m)

  begins-new : (c : Change) → Fits t c → NewKey c base
  begins-new nothing f = tt
  begins-new (issued k x) f = base_value k f.read ∙ f.lost
  begins-new (returned k x) f = base_value k f.read ∙ f.lost
  begins-new (revalued k x) f = tt
  begins-new (dies k) f = tt
  begins-new (parts k) f = base_away k f.read ∙ f.not_away
  begins-new (sieved keeps) f = tt

  -- the keys of a changed list were there or are named as read
  live_named : (c : Change) → Fits t c → (k : ℕ) → Memᴰ k (keys_of (changed c base).live) → as_read k ≡ k
  unfolding changed
  live_named nothing f k m = b.live_read k m
  live_named (issued j x) f k m = ⊎_elim (λ e. rw e f.read) (b.live_read k) (Memᴰ.cases_cons m)
  live_named (returned j x) f k m = ⊎_elim (λ e. rw e f.read) (b.live_read k) (Memᴰ.cases_cons m)
  live_named (revalued j x) f k m = b.live_read k (sublist_mem (valued_sublist j x base.live) k m)
  live_named (dies j) f k m = b.live_read k (sublist_mem (without_sublist j base.live) k m)
  live_named (parts j) f k m = b.live_read k (sublist_mem (without_sublist j base.live) k m)
  live_named (sieved keeps) f k m = b.live_read k (sublist_mem (sifted_sublist keeps base.live) k m)

  detached_named : (c : Change) → Fits t c → (k : ℕ) → Memᴰ k (changed c base).detached → as_read k ≡ k
  unfolding changed
  detached_named nothing f k m = b.detached_read k m
  detached_named (issued j x) f k m = b.detached_read k m
  detached_named (returned j x) f k m = b.detached_read k (sublist_mem (except_sublist j base.detached) k m)
  detached_named (revalued j x) f k m = b.detached_read k m
  detached_named (dies j) f k m = b.detached_read k m
  detached_named (parts j) f k m = ⊎_elim (λ e. rw e f.read) (b.detached_read k) (Memᴰ.cases_cons m)
  detached_named (sieved keeps) f k m = b.detached_read k m

  pub begins-step : (c : Call) → Begins (step t c).1 (changed (change c (step t c).0) base)
  begins-step c =
      let d = change c (step t c).0 in
      let f = step_fits t b.sound c in
      record {
        sound = sound-step t b.sound c;
        finds = λ k.
            (step_follows t b.sound k c).0 ∙ ap (lives_after d (as_read k)) (b.finds k) ∙ sym (value-changed d base (as_read k) b.live_once);
        aways = λ k. (step_follows t b.sound k c).1 ∙ ap (detached_after d (as_read k)) (b.aways k) ∙ sym (detached-changed d base (as_read k));
        live_once = once-changed d base (begins-new d f) b.live_once;
        live_read = live_named d f;
        detached_once = once-detached d base (begins-new d f) b.detached_once;
        detached_read = detached_named d f;
      }

pub begins-after : (t : Table) (base : Reading) → Begins t base → (cs : List Call) → Begins (after t cs) (reading base (history t cs))
unfolding after history reading
begins-after t base b [] = b
begins-after t base b (c ∷ cs) = begins-step (after t cs) (reading base (history t cs)) (begins-after t base b cs) c
