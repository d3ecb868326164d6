-- A rebuilt table reads as the base of its occupied slots, with no key detached: so the theorems on lists of calls start from it too.
-- Assumes nothing.
use mathlib.Core.Path.{◌≡◌, refl, sym, ap, ap₂, ◌∙◌}
use mathlib.Core.Bool.{Bool, true}
use mathlib.Core.List.Memᴰ
use mathlib.Core.List.{List, [], ◌∷◌, ◌++◌, Memᴰ}
use mathlib.Core.Option.{some}
use Prim.Native.Nat.{ℕ, zero, suc, ◌<◌}
use native.Mathlib.Omega.{arith}
use lib.ListN.{length}
use lib.Dec.{eqb}
use borrow.Author.Tests.{eqb-true}
use Rattle.lists.specs.Among.{among}
use Rattle.lists.specs.Listed.{picked}
use Rattle.lists.proofs.Listed.{mem_picked, picked_mem, once-picked}
use Rattle.writing.proofs.Told.{both}
use Rattle.lists.proofs.Tests.{split, true_false}
use Rattle.lists.proofs.Once.{once_nil}
use Rattle.keys.specs.Keys.{idx, pack, version, as_read}
use Rattle.keys.proofs.Keys.{pack-same, read-pack, read_is, is_read}
use Rattle.records.specs.declared.Record.{Record}
use Rattle.records.specs.Records.{version_of}
use Rattle.table.specs.Table.{Table}
use Rattle.history.specs.Reading.{value_in, keys_of}
use Rattle.history.specs.Begins.{Begins}
use Rattle.history.proofs.Readings.{none-value, mem_value}
use Rattle.image.specs.Rebuild.{slot_in, is_full, key_in, val_in, rebuilt}
use Rattle.image.specs.Recorded.{Given, is_recorded, recorded, Recorded, live_in, base_of}
use Rattle.image.proofs.Slots.{full-low}
use Rattle.image.proofs.Rebuilt.{small, word_at, full-odd, sound-rebuilt}
use Rattle.image.proofs.Lookups.{is_recorded_lem, recorded_is, recorded-full, find-rebuilt, detached-rebuilt}

-- ---- the keys of entries

keys-append : (l m : List (ℕ × ℕ)) → keys_of (l ++ m) ≡ keys_of l ++ keys_of m
keys-append [] m = refl
keys-append (e ∷ l) m = ap (λ (k : List ℕ). e.0 ∷ k) (keys-append l m)

keys-picked : (P : ℕ → Bool) (a b : ℕ → ℕ) (n : ℕ) → keys_of (picked P (λ i. (a i, b i)) n) ≡ picked P a n
unfolding picked
keys-picked P a b zero = refl
keys-picked P a b (suc n) =
    split (P n)
    (λ e. rw e (keys-append (picked P (λ i. (a i, b i)) n) ((a n, b n) ∷ []) ∙ ap (λ (k : List ℕ). k ++ (a n ∷ [])) (keys-picked P a b n)))
    (λ e. rw e (keys-picked P a b n))

-- ---- the base

-- a list's value at a key stands in it with that key
value_in_lem : (l : List (ℕ × ℕ)) (k x : ℕ) → value_in l k ≡ some x → Memᴰ (k, x) l
unfolding value_in
value_in_lem [] k x e = let z : ◌≡◌ {A = ℕ} 0 1 = cc in absurd (omega arith)
value_in_lem (e ∷ l) k x q =
    split (eqb k e.0)
    (λ t. let w : some e.1 ≡ some x = rw t at q in let z : e.1 ≡ x = cc in Memᴰ.head (ap₂ (λ (a b : ℕ). (a, b)) (eqb-true _ _ t) (sym z)))
    (λ t. Memᴰ.tail (value_in_lem l k x (rw t at q)))

module _ (vs ls ks xs : List ℕ) (l : List Record) (g : Given vs ls ks xs l) where
  abbrev t : Table
  t = rebuilt vs ls ks xs l

  -- a key of the base, as read, has a record
  key-recorded : (k i : ℕ) → i < length l → is_full l i ≡ true → as_read k ≡ key_in l i → (idx k ≡ i) × Recorded l k
  key-recorded k i h f e =
      let r = read_is k i (version_of (slot_in l i)) (small vs ls ks xs l g i h) e in
      (r.0, record { low = rw r.0 (full-low l i f); high = rw r.0 h; same = ap (λ (j : ℕ). version_of (slot_in l j)) r.0 ∙ sym r.1 })

  recorded-key : (k : ℕ) → Recorded l k → as_read k ≡ key_in l (idx k)
  recorded-key k a = is_read k (idx k) (version k) refl refl ∙ ap (pack (idx k)) (sym a.same)

  recorded_in : (k : ℕ) → Recorded l k → Memᴰ (as_read k) (keys_of (live_in l))
  recorded_in k a =
      rw (keys-picked (is_full l) (key_in l) (val_in l) (length l))
      (Memᴰ.cast (recorded-key k a) (picked_mem (is_full l) (key_in l) (length l) (idx k) a.high (recorded-full vs ls ks xs l g k a)))

  finds : (k : ℕ) → recorded l k ≡ value_in (live_in l) (as_read k)
  unfolding recorded
  finds k =
      split (is_recorded l k)
      (λ e.
      let a = is_recorded_lem l k e in
      let v = mem_value (live_in l) (as_read k) (recorded_in k a) in
      let m = mem_picked (is_full l) (λ i. (key_in l i, val_in l i)) (length l) (as_read k, v.0) (value_in_lem (live_in l) (as_read k) v.0 v.1) in
      let p = both m.3 in
      let r = key-recorded k m.0 m.1 m.2 p.0 in
      rw e (ap (λ (j : ℕ). some (val_in l j)) r.0 ∙ ap some (sym p.1) ∙ sym v.1))
      (λ e. rw e (sym (none-value (live_in l) (as_read k) (λ m.
      let w = mem_picked (is_full l) (key_in l) (length l) (as_read k) (rw (keys-picked (is_full l) (key_in l) (val_in l) (length l)) at m) in
      let r = key-recorded k w.0 w.1 w.2 w.3 in
      true_false (recorded_is l k r.1) e))))

  pub rebuilt-begins : Begins t (base_of l)
  unfolding among
  rebuilt-begins =
      record {
        sound = sound-rebuilt vs ls ks xs l g;
        finds = λ k. find-rebuilt vs ls ks xs l g k ∙ finds k;
        aways = λ k. detached-rebuilt vs ls ks xs l g (idx k) (version k);
        live_once =
            rw (keys-picked (is_full l) (key_in l) (val_in l) (length l))
            (once-picked (is_full l) (key_in l) (length l) (λ i j h k _ _ e.
            (pack-same i j _ _ (small vs ls ks xs l g i h) (small vs ls ks xs l g j k) e).0));
        live_read = λ k m.
            let w = mem_picked (is_full l) (key_in l) (length l) k (rw (keys-picked (is_full l) (key_in l) (val_in l) (length l)) at m) in
            ap as_read w.3
            ∙ read-pack w.0 _ (small vs ls ks xs l g w.0 w.1) (word_at vs ls ks xs l g w.0 w.1) (full-odd vs ls ks xs l g w.0 w.1 w.2)
            ∙ sym w.3;
        detached_once = once_nil;
        detached_read = λ k m. absurd (Memᴰ.not-nil m);
      }
