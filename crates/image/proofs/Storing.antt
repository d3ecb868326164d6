-- A record stored into the next slot: rebuilding goes slot by slot. Assumes nothing.
use mathlib.Core.Path.{◌≡◌, refl, sym, ap, ◌∙◌}
use mathlib.Core.Logic.{◌≢◌, by_cases}
use mathlib.Core.Bool.{true, cond}
use mathlib.Core.List.{List, [], ◌∷◌, ◌++◌}
use Prim.Native.Nat.{ℕ, zero, suc, ◌+◌, ◌-◌, ◌≤◌, ◌<◌}
use native.Mathlib.Nat.{zero-add}
use native.Mathlib.Numerals.{add-one}
use native.Mathlib.Omega.{arith}
use native.Mathlib.Decide.{ℕ_discrete}
use lib.Dec.{eqb}
use lib.ListN.{length, set}
use borrow.Author.Tests.{eq-eqb, ne_eqb}
use Rattle.lists.specs.Count.{count}
use Rattle.lists.specs.Put.{put}
use Rattle.lists.specs.Listed.{listed, picked}
use Rattle.lists.proofs.Count.{count_yes, count_no}
use Rattle.lists.proofs.Put.{set-put, length-put}
use Rattle.lists.proofs.Listed.{listed_more, length-listed, picked_yes, picked_no, length-picked, count_fewer}
use Rattle.writing.specs.Told.{tells}
use Rattle.keys.specs.Keys.{pack, odd}
use Rattle.records.specs.declared.Record.{Record}
use Rattle.records.specs.declared.Record.TheVariants.{Vacant, Occupied}
use Rattle.records.specs.Records.{version_of}
use Rattle.table.specs.Table.{Table}
use Rattle.table.proofs.Shape.{Lengths}
use Rattle.table.proofs.Thread.{next_yes, next_no}
use Rattle.image.specs.Rebuild.{fitting, slot_in, value_of, is_full, is_bare, ver_in, link_in, key_in, val_in, rebuilt_to}
use Rattle.image.proofs.Slots.{by_record, first-full, first_bare, first-version, first-link, vacant_full, vacant_bare, vacant_link, vacant_version, occupied-full, occupied_bare, occupied-link, occupied-version, occupied-odd}

-- ---- one record

-- the next slot, of the number s, takes a record: slot 0 takes nothing of it
abbrev stored_first : Table → Table
stored_first t =
    record { versions = set t.versions 0 0; links = set t.links 0 0; keys = t.keys; values = t.values; head = record { n = t.head.n; s = 1; f = t.head.f } }

abbrev stored_next : Table → Record → Table
stored_next t (Vacant v) =
    record {
      versions = set t.versions t.head.s v;
      links = set t.links t.head.s t.head.f;
      keys = t.keys;
      values = t.values;
      head = record { n = t.head.n; s = t.head.s + 1; f = t.head.s };
    }
stored_next t (Occupied v x) =
    record {
      versions = set t.versions t.head.s v;
      links = set t.links t.head.s t.head.n;
      keys = set t.keys t.head.n (pack t.head.s (odd v));
      values = set t.values t.head.n x;
      head = record { n = t.head.n + 1; s = t.head.s + 1; f = t.head.f };
    }

unfoldable pub stored : Table → Record → Table
stored t r = cond (eqb t.head.s 0) (stored_first t) (stored_next t r)

-- ---- the slots below m, and one more

pub same-table : {vs vs' ls ls' ks ks' xs xs' : List ℕ} {n n' s s' f f' : ℕ} → vs ≡ vs' → ls ≡ ls' → ks ≡ ks' → xs ≡ xs' → n ≡ n' → s ≡ s' → f ≡ f'
    → ◌≡◌ {A = Table} (record { versions = vs; links = ls; keys = ks; values = xs; head = record { n = n; s = s; f = f } })
    (record { versions = vs'; links = ls'; keys = ks'; values = xs'; head = record { n = n'; s = s'; f = f' } })
same-table a b c d e f g = rw (a, b, c, d, e, f, g)

module _ (vs ls ks xs : List ℕ) (lengths : Lengths vs ls ks xs) (l : List Record) (fits : fitting l ≡ tells l) (few : length l ≤ length ks + 1) where
  abbrev slots : ℕ → Table
  slots m = rebuilt_to vs ls ks xs l m

  put-listed : (b : List ℕ) (g : ℕ → ℕ) (m x : ℕ) → m < length b → x ≡ g m → set (put b 0 (listed g m)) m x ≡ put b 0 (listed g (m + 1))
  put-listed b g m x h e =
      set-put b 0 (listed g m) x m (sym (zero-add (length (listed g m)) ∙ length-listed g m)) h
      ∙ ap (put b 0) (ap (λ (y : ℕ). listed g m ++ (y ∷ [])) e ∙ sym (listed_more g m))

  put-picked : (b : List ℕ) (g : ℕ → ℕ) (m x : ℕ) → count (is_full l) m < length b → is_full l m ≡ true → x ≡ g m
      → set (put b 0 (picked (is_full l) g m)) (count (is_full l) m) x ≡ put b 0 (picked (is_full l) g (m + 1))
  put-picked b g m x h y e =
      set-put b 0 (picked (is_full l) g m) x (count (is_full l) m) (sym (zero-add (length (picked (is_full l) g m)) ∙ length-picked (is_full l) g m)) h
      ∙ ap (put b 0) (ap (λ (z : ℕ). picked (is_full l) g m ++ (z ∷ [])) e ∙ sym (picked_yes (is_full l) g m y))

  -- how many places are filled
  pub filled-few : (m : ℕ) → count (is_full l) m ≤ m - 1
  unfolding count
  filled-few zero = omega arith
  filled-few (suc m) = omega (arith, count_fewer (is_full l) (first-full l) m)

  module _ (m : ℕ) (h : m ≤ length l) where
    abbrev long : (b : List ℕ) → (g : ℕ → ℕ) → m ≤ length b → length (put b 0 (listed g m)) ≡ length b
    long b g k = length-put b 0 (listed g m) (omega (arith, length-listed g m))

    abbrev long-picked : (b : List ℕ) → (g : ℕ → ℕ) → m ≤ length b + 1 → length (put b 0 (picked (is_full l) g m)) ≡ length b
    long-picked b g k = length-put b 0 (picked (is_full l) g m) (omega (arith, length-picked (is_full l) g m, filled-few m))

    -- the lists keep their lengths
    pub lengths_to : Lengths (slots m).versions (slots m).links (slots m).keys (slots m).values × (length (slots m).keys ≡ length ks)
    unfolding rebuilt_to
    lengths_to =
        let k = long-picked ks (key_in l) (omega arith) in (
          record {
            small = omega (arith, k, lengths);
            vlen = omega (arith, k, long vs (ver_in l) (omega (arith, lengths)), lengths);
            llen = omega (arith, k, long ls (link_in l) (omega (arith, lengths)), lengths);
            xlen = omega (arith, k, long-picked xs (val_in l) (omega (arith, lengths)), lengths);
          },
          k,
        )

  module _ (m : ℕ) (h : m < length l) where
    first-stored : m ≡ 0 → stored_first (slots m) ≡ slots (m + 1)
    unfolding rebuilt_to
    first-stored z =
        rw z
        (same-table
        (put-listed vs (ver_in l) 0 0 (omega (arith, lengths)) (sym (first-version l)))
        (put-listed ls (link_in l) 0 0 (omega (arith, lengths)) (sym (first-link l)))
        (ap (put ks 0) (sym (picked_no (is_full l) (key_in l) 0 (first-full l))))
        (ap (put xs 0) (sym (picked_no (is_full l) (val_in l) 0 (first-full l))))
        (sym (count_no (is_full l) 0 (first-full l)))
        refl
        (sym (next_no (is_bare l) (length l) 0 (first_bare l))))

    vacant_stored : 1 ≤ m → (v : ℕ) → slot_in l m ≡ Vacant v → stored_next (slots m) (Vacant v) ≡ slots (m + 1)
    unfolding rebuilt_to
    vacant_stored low v e =
        let no = vacant_full l m low v e in
        same-table
        (put-listed vs (ver_in l) m v (omega (arith, lengths)) (sym (vacant_version l m low v e)))
        (put-listed ls (link_in l) m _ (omega (arith, lengths)) (sym (vacant_link l m low v e)))
        (ap (put ks 0) (sym (picked_no (is_full l) (key_in l) m no)))
        (ap (put xs 0) (sym (picked_no (is_full l) (val_in l) m no)))
        (sym (ap (count (is_full l)) (add-one m) ∙ count_no (is_full l) m no))
        refl
        (sym (next_yes (is_bare l) (length l) m (vacant_bare l m low v e)))

    occupied-stored : 1 ≤ m → (v x : ℕ) → slot_in l m ≡ Occupied v x → stored_next (slots m) (Occupied v x) ≡ slots (m + 1)
    unfolding rebuilt_to
    occupied-stored low v x e =
        let yes = occupied-full l m low v x e in
        let o = occupied-odd l fits m low h v x e in
        let c : count (is_full l) m < length ks = omega (arith, filled-few m) in
        same-table
        (put-listed vs (ver_in l) m v (omega (arith, lengths)) (sym (occupied-version l m low v x e)))
        (put-listed ls (link_in l) m _ (omega (arith, lengths)) (sym (occupied-link l m low v x e)))
        (put-picked ks (key_in l) m _ c yes (ap (pack m) (omega arith) ∙ ap (λ (r : Record). pack m (version_of r)) (sym e)))
        (put-picked xs (val_in l) m x (omega (arith, lengths)) yes (ap value_of (sym e)))
        (sym (ap (count (is_full l)) (add-one m) ∙ count_yes (is_full l) m yes ∙ sym (add-one (count (is_full l) m))))
        refl
        (sym (next_no (is_bare l) (length l) m (occupied_bare l m low v x e)))

    -- a record more
    pub stored_more : stored (slots m) (slot_in l m) ≡ slots (m + 1)
    unfolding stored rebuilt_to
    stored_more =
        by_cases (ℕ_discrete m 0)
        (λ z. rw (eq-eqb m 0 z) (first-stored z))
        (λ ne. rw (ne_eqb m 0 ne)
        (by_record (slot_in l m)
        (λ v e. ap (stored_next (slots m)) e ∙ vacant_stored (omega arith) v e)
        (λ v x e. ap (stored_next (slots m)) e ∙ occupied-stored (omega arith) v x e)))

-- ---- a stored record by its kind, as the code stores it

module _ (t : Table) (r : Record) where
  pub stored-first : t.head.s ≡ 0 → stored_first t ≡ stored t r
  unfolding stored
  stored-first z = rw (eq-eqb t.head.s 0 z)

  module _ (ne : t.head.s ≢ 0) where
    pub stored_vacant : (v : ℕ) → r ≡ Vacant v → stored_next t (Vacant v) ≡ stored t r
    unfolding stored
    stored_vacant v e = rw (ne_eqb t.head.s 0 ne, e)

    pub stored-occupied : (v x k : ℕ) → r ≡ Occupied v x → k ≡ pack t.head.s (odd v)
        → record {
          versions = set t.versions t.head.s v;
          links = set t.links t.head.s t.head.n;
          keys = set t.keys t.head.n k;
          values = set t.values t.head.n x;
          head = record { n = t.head.n + 1; s = t.head.s + 1; f = t.head.f };
        }
        ≡ stored t r
    unfolding stored
    stored-occupied v x k e f = rw (ne_eqb t.head.s 0 ne, e, f)

  pub stored-slots : (stored t r).head.s ≡ t.head.s + 1
  unfolding stored
  stored-slots =
      by_cases (ℕ_discrete t.head.s 0)
      (λ z. rw (eq-eqb t.head.s 0 z) (omega (arith, z)))
      (λ ne. rw (ne_eqb t.head.s 0 ne) (by_record r (λ v e. rw e) (λ v x e. rw e)))
