-- A rebuilt table, slot by slot and place by place, and its soundness: an occupied slot's place is the number of occupied slots before it, and the
-- vacant ones are the free list, the last one first. Assumes nothing.
use mathlib.Core.Path.{◌≡◌, refl, sym, ap, ◌∙◌}
use mathlib.Core.Logic.{by_cases, inl}
use mathlib.Core.Bool.{true}
use mathlib.Core.List.{List}
use Prim.Native.Nat.{ℕ, ◌%◌, ◌≤◌, ◌<◌}
use native.Mathlib.Nat.{zero-add}
use native.Mathlib.Omega.{arith}
use native.Mathlib.Decide.{ℕ_discrete}
use lib.ListN.{length, get_or}
use Rattle.lists.specs.Count.{count}
use Rattle.lists.specs.Put.{put}
use Rattle.lists.specs.Listed.{listed, picked}
use Rattle.lists.proofs.Put.{get_or-put_in, get_or-put-after}
use Rattle.lists.proofs.Listed.{length-listed, get_or-listed, length-picked, get_or-picked, count-below, count_reaches}
use Rattle.keys.specs.Keys.{W, idx, vsn, pack}
use Rattle.keys.proofs.Keys.{idx-pack, vsn-pack}
use Rattle.records.specs.declared.Record.{Record}
use Rattle.records.specs.Records.{version_of}
use Rattle.table.specs.Table.{Table, ver, link, key, val}
use Rattle.table.specs.Sound.{Vacant, Home, Sound, free_list}
use Rattle.table.specs.Thread.{next_free, joined}
use Rattle.table.proofs.Shape.{Shape, lengths}
use Rattle.table.proofs.Chains.{Chain}
use Rattle.table.proofs.Thread.{next_low, next-high, joins_joined, thread_chain}
use Rattle.table.proofs.Orderly.{Orderly, sound, free_walk}
use Rattle.image.specs.Rebuild.{slot_in, is_full, is_bare, ver_in, link_in, key_in, val_in, rebuilt_to, rebuilt}
use Rattle.image.specs.Recorded.{Given}
use Rattle.image.proofs.Slots.{by_record, first_bare, first-version, first-link, version-is, vacant_bare, vacant_link, vacant_version, occupied-full, occupied-link, occupied-version, full-low, bare_low, full_is, bare_is, fitting-some, vacant_even, occupied-odd, fit_at, version-fits}
use Rattle.image.proofs.Storing.{filled-few, lengths_to}

-- what stands at the front of a list, and past it
front : (b t : List ℕ) (i : ℕ) → i < length t → get_or (put b 0 t) i 0 ≡ get_or t i 0
front b t i h = ap (λ (n : ℕ). get_or (put b 0 t) n 0) (sym (zero-add i)) ∙ get_or-put_in b 0 t i h (omega arith)

past : (b t : List ℕ) (i n : ℕ) → length t ≡ n → n ≤ i → get_or (put b 0 t) i 0 ≡ get_or b i 0
past b t i n e h = get_or-put-after b 0 t i (omega arith) (omega arith)

module _ (vs ls ks xs : List ℕ) (l : List Record) (g : Given vs ls ks xs l) where
  abbrev t : Table
  t = rebuilt vs ls ks xs l

  -- ---- slots and places

  pub slots_are : t.head.s ≡ length l
  unfolding rebuilt rebuilt_to
  slots_are = refl

  pub places_are : t.head.n ≡ count (is_full l) (length l)
  unfolding rebuilt rebuilt_to
  places_are = refl

  pub free_is : t.head.f ≡ next_free (is_bare l) (length l) (length l)
  unfolding rebuilt rebuilt_to
  free_is = refl

  pub ver_at : (i : ℕ) → i < length l → ver t i ≡ ver_in l i
  unfolding rebuilt rebuilt_to
  ver_at i h = front vs (listed (ver_in l) (length l)) i (omega (arith, length-listed (ver_in l) (length l))) ∙ get_or-listed (ver_in l) (length l) i 0 h

  pub link_at : (i : ℕ) → i < length l → link t i ≡ link_in l i
  unfolding rebuilt rebuilt_to
  link_at i h = front ls (listed (link_in l) (length l)) i (omega (arith, length-listed (link_in l) (length l))) ∙ get_or-listed (link_in l) (length l) i 0 h

  pub version_at : (i : ℕ) → 1 ≤ i → i < length l → ver t i ≡ version_of (slot_in l i)
  version_at i low h = ver_at i h ∙ version-is l i low

  module _ (i : ℕ) (h : i < length l) (f : is_full l i ≡ true) where
    pub key_at : key t (count (is_full l) i) ≡ key_in l i
    unfolding rebuilt rebuilt_to
    key_at =
        front ks (picked (is_full l) (key_in l) (length l)) _ (omega (arith, length-picked (is_full l) (key_in l) (length l), count-below (is_full l) (length l) i h f))
        ∙ get_or-picked (is_full l) (key_in l) (length l) i 0 h f

    pub val_at : val t (count (is_full l) i) ≡ val_in l i
    unfolding rebuilt rebuilt_to
    val_at =
        front xs (picked (is_full l) (val_in l) (length l)) _ (omega (arith, length-picked (is_full l) (val_in l) (length l), count-below (is_full l) (length l) i h f))
        ∙ get_or-picked (is_full l) (val_in l) (length l) i 0 h f

    pub full-link : link t i ≡ count (is_full l) i
    full-link = link_at i h ∙ full_is l i f (λ v x e. occupied-link l i (full-low l i f) v x e)

    full-version : ver t i ≡ version_of (slot_in l i)
    full-version = version_at i (full-low l i f) h

    pub full-odd : version_of (slot_in l i) % 2 ≡ 1
    full-odd = full_is l i f (λ v x e. ap (λ (r : Record). version_of r % 2) e ∙ occupied-odd l g.fits i (full-low l i f) h v x e)

  pub small : (i : ℕ) → i < length l → i < W
  small i h = omega (arith, g.few, lengths vs ls ks xs g.fit)

  pub word_at : (i : ℕ) → i < length l → version_of (slot_in l i) < W
  word_at i h = omega (arith, version-fits (slot_in l i) (fit_at l g.words i h))

  -- an odd slot is occupied, an even one from 1 up vacant
  pub odd-full : (i : ℕ) → i < length l → ver t i % 2 ≡ 1 → is_full l i ≡ true
  odd-full i h o =
      by_cases (ℕ_discrete i 0)
      (λ z. absurd (omega (arith, ver_at i h, ap (ver_in l) z, first-version l)))
      (λ ne.
      by_record (slot_in l i)
      (λ v e. absurd (omega (arith, ver_at i h, vacant_version l i (omega arith) v e, vacant_even l g.fits i (omega arith) h v e)))
      (λ v x e. occupied-full l i (omega arith) v x e))

  pub even_bare : (i : ℕ) → 1 ≤ i → i < length l → ver t i % 2 ≡ 0 → is_bare l i ≡ true
  even_bare i low h o =
      by_record (slot_in l i)
      (λ v e. vacant_bare l i low v e)
      (λ v x e. absurd (omega (arith, ver_at i h, occupied-version l i low v x e, occupied-odd l g.fits i low h v x e)))

  -- ---- "nothing beyond n and s is written"

  pub version_past : (i : ℕ) → length l ≤ i → ver t i ≡ get_or vs i 0
  unfolding rebuilt rebuilt_to
  version_past i h = past vs (listed (ver_in l) (length l)) i (length l) (length-listed (ver_in l) (length l)) h

  pub link_past : (i : ℕ) → length l ≤ i → link t i ≡ get_or ls i 0
  unfolding rebuilt rebuilt_to
  link_past i h = past ls (listed (link_in l) (length l)) i (length l) (length-listed (link_in l) (length l)) h

  pub key_past : (p : ℕ) → t.head.n ≤ p → key t p ≡ get_or ks p 0
  unfolding rebuilt rebuilt_to
  key_past p h = past ks (picked (is_full l) (key_in l) (length l)) p t.head.n (length-picked (is_full l) (key_in l) (length l)) h

  pub value_past : (p : ℕ) → t.head.n ≤ p → val t p ≡ get_or xs p 0
  unfolding rebuilt rebuilt_to
  value_past p h = past xs (picked (is_full l) (val_in l) (length l)) p t.head.n (length-picked (is_full l) (val_in l) (length l)) h

  -- ---- sound

  home : (p : ℕ) → p < t.head.n → Home t p
  home p h =
      let r = count_reaches (is_full l) (length l) p (omega (arith, places_are)) in
      let i = r.0 in
      let e : key t p ≡ pack i (version_of (slot_in l i)) = ap (key t) (sym r.3) ∙ key_at i r.1 r.2 in
      let x : idx (key t p) ≡ i = ap idx e ∙ idx-pack i _ (small i r.1) in
      let y : vsn (key t p) ≡ version_of (slot_in l i) = ap vsn e ∙ vsn-pack i _ (small i r.1) in
      record {
        low = rw x (full-low l i r.2);
        high = rw x (omega (arith, r.1, slots_are));
        same = ap (ver t) x ∙ full-version i r.1 r.2 ∙ sym y;
        odd = ap (λ (v : ℕ). v % 2) y ∙ full-odd i r.1 r.2;
        back = ap (link t) x ∙ full-link i r.1 r.2 ∙ r.3;
      }

  odds : (i : ℕ) → i < t.head.s → ver t i % 2 ≡ 1 → (link t i < t.head.n) × (idx (key t (link t i)) ≡ i)
  odds i h o =
      let b : i < length l = omega (arith, slots_are) in
      let f = odd-full i b o in (
        omega (arith, full-link i b f, places_are, count-below (is_full l) (length l) i b f),
        ap (λ (p : ℕ). idx (key t p)) (full-link i b f) ∙ ap idx (key_at i b f) ∙ idx-pack i _ (small i b),
      )

  linked : (i : ℕ) → i < t.head.s → is_bare l i ≡ true → Vacant t i × (link t i ≡ next_free (is_bare l) t.head.s i)
  linked i h f =
      let b : i < length l = omega (arith, slots_are) in
      let low = bare_low l i f in
      bare_is l i f (λ v e. (
        record { low = low; high = h; even = ap (λ (m : ℕ). m % 2) (ver_at i b ∙ vacant_version l i low v e) ∙ vacant_even l g.fits i low b v e },
        link_at i b ∙ vacant_link l i low v e ∙ ap (λ (s : ℕ). next_free (is_bare l) s i) (sym slots_are),
      ))

  chain : Chain t t.head.f (joined (is_bare l) (length l))
  unfolding rebuilt rebuilt_to
  chain = thread_chain t (is_bare l) linked (length l) (omega arith)

  shape : Shape t
  unfolding rebuilt
  shape =
      let w = lengths_to vs ls ks xs (lengths vs ls ks xs g.fit) l g.fits g.few (length l) (omega arith) in
      let s = slots_are in
      let n = places_are in
      let f = free_is in
      let some = fitting-some l g.fits in
      omega (
        arith,
        w.0,
        w.1,
        g.few,
        filled-few vs ls ks xs (lengths vs ls ks xs g.fit) l g.fits g.few (length l),
        next_low (is_bare l) (length l) (first_bare l) some (length l),
        next-high (is_bare l) (length l) (length l) (omega arith),
      )

  word : (i : ℕ) → i < t.head.s → ver t i < W
  word i h =
      let b : i < length l = omega (arith, slots_are) in
      by_cases (ℕ_discrete i 0)
      (λ z. omega (arith, ver_at i b, ap (ver_in l) z, first-version l))
      (λ ne. omega (arith, version_at i (omega arith) b, word_at i b))

  pub orderly_rebuilt : Orderly t
  orderly_rebuilt =
      record {
        shape = shape;
        zero_ver = ver_at 0 (fitting-some l g.fits) ∙ first-version l;
        zero_link = link_at 0 (fitting-some l g.fits) ∙ first-link l;
        word = word;
        home = home;
        odds = odds;
        free = joined (is_bare l) (length l);
        chain = chain;
        evens = λ i v. inl (joins_joined (is_bare l) (length l) (length l) i (omega (arith, v.high, slots_are)) (even_bare i v.low (omega (arith, v.high, slots_are)) v.even));
      }

  -- a rebuilt table is sound
  pub sound-rebuilt : Sound t
  sound-rebuilt = sound t orderly_rebuilt

  -- the vacant slots are the free list, the last one first
  pub free_rebuilt : free_list t ≡ joined (is_bare l) (length l)
  unfolding free_list orderly_rebuilt
  free_rebuilt = (free_walk t orderly_rebuilt).0
