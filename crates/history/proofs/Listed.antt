-- Theorem E: the first n keys are the keys that live by the reading, each once, with their values beside them; so n is their number.
-- Shown of any table that reads as a base, and so after any list of calls. Assumes nothing.
use mathlib.Core.Path.{◌≡◌, refl, sym, ap, ◌∙◌}
use mathlib.Core.Logic.{◌↔◌}
use mathlib.Core.List.Memᴰ
use mathlib.Core.List.{List, Memᴰ}
use mathlib.Core.Option.{some}
use Prim.Native.Nat.{ℕ, ◌<◌}
use native.Mathlib.Omega.{arith}
use lib.Dec.{eqb}
use lib.ListN.{length, get_or}
use Rattle.lists.specs.Once.{Once}
use Rattle.lists.proofs.Once.{get_or_mem, inj_once, place, place_at, length-lists-same}
use Rattle.keys.specs.Keys.{idx, version}
use Rattle.keys.proofs.Keys.{is_read}
use Rattle.table.specs.Table.{Table, ver, link, key, val}
use Rattle.table.specs.Calls.{said_count, said_truth, len, is_empty, listed_keys, listed_values}
use Rattle.table.specs.Steps.{Call, after, history}
use Rattle.history.specs.Reading.{Reading, reading, value_in, keys_of}
use Rattle.history.specs.Begins.{Begins}
use Rattle.table.proofs.Lists.{keys-count, values-count, key_at, value_at, len-counts, empty_counts}
use Rattle.history.proofs.Readings.{length-keys, value_mem}
use Rattle.table.proofs.Cases.{stored-version, stored-read, live-place}
use Rattle.history.proofs.Follows.{find-stored}
use Rattle.history.proofs.Begins.{base_value, base_live, begins-after}

-- ---- the live keys

module _ (t : Table) (base : Reading) (b : Begins t base) where
  -- each of the first n keys lives, with the value at its place
  pub listed-live : (p : ℕ) → p < t.head.n → value_in base.live (key t p) ≡ some (val t p)
  listed-live p h = base_value t base b (key t p) (stored-read t b.sound p h) ∙ find-stored t b.sound p h

  -- a live key stands at the place that its slot links to
  stands-there : (k : ℕ) → Memᴰ k (keys_of base.live) → (link t (idx k) < t.head.n) × (key t (link t (idx k)) ≡ k)
  stands-there k m =
      let l = base_live t base b k m in
      let p = live-place t b.sound k l in
      let h = b.sound.homes (link t (idx k)) p.0 in
      let v : version (key t (link t (idx k))) ≡ version k = stored-version t b.sound _ p.0 ∙ sym h.same ∙ ap (ver t) p.1 ∙ l.same in
      (p.0, sym (stored-read t b.sound _ p.0) ∙ is_read _ _ _ p.1 v ∙ sym (is_read k _ _ refl refl) ∙ b.live_read k m)

  -- each live key is among them
  pub live-listed : (k : ℕ) → Memᴰ k (keys_of base.live) → (p : ℕ) × (p < t.head.n) × (key t p ≡ k)
  live-listed k m = let s = stands-there k m in (link t (idx k), s.0, s.1)

  -- and none stands there twice
  pub listed-once : (p q : ℕ) → p < t.head.n → q < t.head.n → key t p ≡ key t q → p ≡ q
  listed-once p q hp hq e = sym (b.sound.homes p hp).back ∙ ap (λ (k : ℕ). link t (idx k)) e ∙ (b.sound.homes q hq).back

  -- ---- the same of the lists

  pub keys-live : (k : ℕ) → Memᴰ k (listed_keys t) ↔ Memᴰ k (keys_of base.live)
  keys-live k = (
    (λ m.
        let r = place_at (listed_keys t) k m in
        let h : place (listed_keys t) k < t.head.n = omega (arith, r.0, keys-count t b.sound) in
        Memᴰ.cast (sym r.1 ∙ key_at t b.sound _ h) (value_mem base.live _ _ (listed-live _ h))),
    λ m.
        let r = live-listed k m in
        Memᴰ.cast (sym r.2 ∙ sym (key_at t b.sound r.0 r.1)) (get_or_mem (listed_keys t) r.0 (omega (arith, r.1, keys-count t b.sound))),
  )

  pub keys-once : Once (listed_keys t)
  keys-once =
      inj_once (listed_keys t) (λ p q hp hq e.
      let n = keys-count t b.sound in
      let lp : p < t.head.n = omega (arith, n) in
      let lq : q < t.head.n = omega (arith, n) in
      listed-once p q lp lq (sym (key_at t b.sound p lp) ∙ e ∙ key_at t b.sound q lq))

  -- n is the number of live keys
  pub count-lives : t.head.n ≡ length base.live
  count-lives =
      sym (keys-count t b.sound)
      ∙ length-lists-same (listed_keys t) (keys_of base.live) keys-once b.live_once (λ k. (keys-live k).0) (λ k. (keys-live k).1)
      ∙ length-keys base.live

  pub len-lives : len t ≡ said_count (length base.live)
  len-lives = len-counts t b.sound ∙ ap said_count count-lives

  pub empty_lives : is_empty t ≡ said_truth (eqb (length base.live) 0)
  empty_lives = empty_counts t b.sound ∙ ap (λ (m : ℕ). said_truth (eqb m 0)) count-lives

  pub values_length : length (listed_values t) ≡ length base.live
  values_length = values-count t b.sound ∙ count-lives

  pub values-live : (p : ℕ) → p < length base.live → value_in base.live (get_or (listed_keys t) p 0) ≡ some (get_or (listed_values t) p 0)
  values-live p h =
      let l : p < t.head.n = omega (arith, count-lives) in
      ap (value_in base.live) (key_at t b.sound p l) ∙ listed-live p l ∙ sym (ap some (value_at t b.sound p l))

-- ---- the same after any list of calls

module _ (t : Table) (base : Reading) (b : Begins t base) (cs : List Call) where
  now : Begins (after t cs) (reading base (history t cs))
  now = begins-after t base b cs

  pub count-reads : (after t cs).head.n ≡ length (reading base (history t cs)).live
  count-reads = count-lives (after t cs) _ now

  pub listed-reads : (p : ℕ) → p < (after t cs).head.n → value_in (reading base (history t cs)).live (key (after t cs) p) ≡ some (val (after t cs) p)
  listed-reads = listed-live (after t cs) _ now

  pub reads-listed : (k : ℕ) → Memᴰ k (keys_of (reading base (history t cs)).live) → (p : ℕ) × (p < (after t cs).head.n) × (key (after t cs) p ≡ k)
  reads-listed = live-listed (after t cs) _ now

  pub len-reads : len (after t cs) ≡ said_count (length (reading base (history t cs)).live)
  len-reads = len-lives (after t cs) _ now

  pub empty_reads : is_empty (after t cs) ≡ said_truth (eqb (length (reading base (history t cs)).live) 0)
  empty_reads = empty_lives (after t cs) _ now

  -- the keys that are listed are the live ones, each once
  pub keys-read : (k : ℕ) → Memᴰ k (listed_keys (after t cs)) ↔ Memᴰ k (keys_of (reading base (history t cs)).live)
  keys-read = keys-live (after t cs) _ now

  pub keys-read-once : Once (listed_keys (after t cs))
  keys-read-once = keys-once (after t cs) _ now

  -- and each has its value beside it
  pub values-read : (p : ℕ) → p < length (reading base (history t cs)).live
      → value_in (reading base (history t cs)).live (get_or (listed_keys (after t cs)) p 0) ≡ some (get_or (listed_values (after t cs)) p 0)
  values-read = values-live (after t cs) _ now

  pub values-read-length : length (listed_values (after t cs)) ≡ length (reading base (history t cs)).live
  values-read-length = values_length (after t cs) _ now
