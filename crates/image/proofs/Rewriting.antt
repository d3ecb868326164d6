-- Writing and rebuilding undo each other: what a sound table's image rebuilds to has its live keys, values and slot versions, and the image of a
-- rebuilt table is the image read, where that began with the record 0, 0. Assumes nothing.
use mathlib.Core.Path.{◌≡◌, refl, sym, ap, ap₂, ◌∙◌}
use mathlib.Core.Logic.{by_cases}
use mathlib.Core.Bool.{true, false}
use mathlib.Core.List.{List}
use mathlib.Core.Option.{Option, none, some}
use Prim.Native.Nat.{ℕ, ◌+◌, ◌%◌, ◌^◌, ◌≤◌, ◌<◌}
use native.Mathlib.Omega.{arith}
use native.Mathlib.Decide.{ℕ_discrete}
use lib.ListN.{length}
use borrow.Author.Tests.{eq-eqb, ne_eqb, le-leb}
use Rattle.lists.proofs.Tests.{split, true_false, false_if}
use Rattle.lists.specs.Put.{put}
use Rattle.lists.proofs.Listed.{length-listed, get_or-listed, listed_same}
use Rattle.writing.specs.Told.{tells}
use Rattle.numbers.specs.Numbers.{Bytes}
use Rattle.writing.proofs.Told.{by_answer, both}
use Rattle.keys.specs.Keys.{idx, version}
use Rattle.keys.proofs.Keys.{version-odd}
use Rattle.records.specs.declared.Record.{Record}
use Rattle.records.specs.declared.Record.TheVariants.{Vacant, Occupied}
use Rattle.records.specs.Records.{version_of, presence_of, records_of, bytes_of, Fit, FitAll}
use Rattle.summaries.specs.Summaries.{wrong_of}
use Rattle.records.proofs.Images.{read-written, written_read}
use Rattle.table.specs.declared.Header.{Header}
use Rattle.table.specs.Table.{Table, ver, link, val, is_live, lengths_fit}
use Rattle.table.specs.Calls.{begins}
use Rattle.table.specs.Sound.{Sound}
use Rattle.history.specs.Begins.{find}
use Rattle.table.proofs.Judged.{live}
use Rattle.table.proofs.Facts.{facts_live}
use Rattle.table.proofs.Orderly.{Orderly, orderly}
use Rattle.history.proofs.Follows.{find-live, find-dead}
use Rattle.table.proofs.Decides.{sound_passes}
use Rattle.lists.specs.Tests.{first}
use Rattle.table.proofs.Refused.{first_holds}
use Rattle.image.specs.Image.{slot_of, image_of, image_bytes, write_image}
use Rattle.image.specs.Rebuild.{first_wrong, fitting, judged_image, slot_in, value_of, rebuilt, Arrays, arrays_of, table_of, rebuilt_from, rebuild}
use Rattle.image.specs.Recorded.{Given, is_recorded, recorded}
use Rattle.image.specs.Refused.{records_in, image_tests, rebuild_tests}
use Rattle.image.proofs.Faults.{fitting-same, fitting-told}
use Rattle.image.proofs.Slots.{by_record, first-version, fits_from, fit_all, vacant_even, occupied-odd, occupied-full, fitting-some}
use Rattle.image.proofs.Rebuilt.{slots_are, ver_at, version_at, full-link, val_at, sound-rebuilt}
use Rattle.image.proofs.Lookups.{is_recorded_lem, recorded_is, find-rebuilt}
use Rattle.image.proofs.Refused.{image-ruled, rebuild-ruled, write-ruled}

-- ---- a slot's record

module _ (t : Table) (i : ℕ) where
  pub slot-odd : ver t i % 2 ≡ 1 → slot_of t i ≡ Occupied (ver t i) (val t (link t i))
  unfolding slot_of
  slot-odd o = rw (eq-eqb _ _ o)

  pub slot-even : ver t i % 2 ≡ 0 → slot_of t i ≡ Vacant (ver t i)
  unfolding slot_of
  slot-even o = rw (ne_eqb (ver t i % 2) 1 (λ z. omega arith))

  slot-version : version_of (slot_of t i) ≡ ver t i
  slot-version = by_parity (λ o. ap version_of (slot-odd o)) (λ o. ap version_of (slot-even o))
    where
      by_parity : {C : Type 0} → (ver t i % 2 ≡ 1 → C) → (ver t i % 2 ≡ 0 → C) → C
      by_parity f h = by_cases (ℕ_discrete (ver t i % 2) 1) f (λ ne. h (omega arith))

  slot_right : wrong_of (slot_of t i) ≡ 0
  slot_right =
      by_cases (ℕ_discrete (ver t i % 2) 1)
      (λ o. ap wrong_of (slot-odd o) ∙ omega arith)
      (λ ne. let o : ver t i % 2 ≡ 0 = omega arith in ap wrong_of (slot-even o) ∙ o)

-- ---- the image of a sound table is accepted

module _ (t : Table) (a : Sound t) (machine : (p : ℕ) → p < t.head.n → val t p < 2 ^ 64) where
  image-length : length (image_of t) ≡ t.head.s
  unfolding image_of
  image-length = length-listed (slot_of t) t.head.s

  image_at : (i : ℕ) → i < t.head.s → slot_in (image_of t) i ≡ slot_of t i
  unfolding image_of
  image_at i h = get_or-listed (slot_of t) t.head.s i (Vacant 0) h

  o : Orderly t
  o = orderly t a

  some-slots : 1 ≤ t.head.s
  some-slots = o.shape.s_low

  image-first : slot_in (image_of t) 0 ≡ Vacant 0
  image-first = image_at 0 some-slots ∙ slot-even t 0 (omega (arith, a.zero_version)) ∙ ap Vacant a.zero_version

  pub image-fits : fitting (image_of t) ≡ tells (image_of t)
  unfolding first_wrong
  image-fits =
      fits_from (image_of t) (omega (arith, image-length, some-slots)) (ap (λ (r : Record). first_wrong (version_of r) (presence_of r)) image-first ∙ refl)
      (λ i low h. ap wrong_of (image_at i (omega (arith, image-length))) ∙ slot_right t i)

  slot-fit : (i : ℕ) → i < t.head.s → Fit (slot_of t i)
  slot-fit i h =
      by_cases (ℕ_discrete (ver t i % 2) 1)
      (λ p. rw (slot-odd t i p) (omega (arith, a.words i h), machine (link t i) (o.odds i h p).0))
      (λ ne. let p : ver t i % 2 ≡ 0 = omega arith in rw (slot-even t i p) (omega (arith, a.words i h)))

  image-words : FitAll (image_of t)
  image-words = fit_all (image_of t) (λ i h. let b : i < t.head.s = omega (arith, image-length) in rw (image_at i b) (slot-fit i b))

  -- it is read as the table's slots wherever there is room for them
  pub image-accepted : (most : ℕ) → t.head.s ≤ most → judged_image (image_bytes t) most ≡ tells (image_of t)
  unfolding judged_image image_bytes
  image-accepted most h =
      rw (read-written (image_of t) most image-words (omega (arith, image-length)) (omega (arith, image-length, o.shape))) image-fits

  module _ (vs ls ks xs : List ℕ) (fit : lengths_fit vs ls ks xs ≡ true) (room : t.head.s ≤ length ks + 1) where
    pub image-given : Given vs ls ks xs (image_of t)
    image-given = record { fit = fit; fits = image-fits; few = omega (arith, image-length); words = image-words }

    abbrev u : Table
    u = rebuilt vs ls ks xs (image_of t)

    -- ---- rebuild after write

    pub rebuild-write : rebuild vs ls ks xs (image_bytes t) ≡ (begins u.head, arrays_of u)
    unfolding rebuild rebuilt_from
    rebuild-write = rw (fit, image-accepted (length ks + 1) room)

    pub slots_kept : u.head.s ≡ t.head.s
    slots_kept = slots_are vs ls ks xs (image_of t) image-given ∙ image-length

    pub version_kept : (i : ℕ) → i < t.head.s → ver u i ≡ ver t i
    version_kept i h =
        let b : i < length (image_of t) = omega (arith, image-length) in
        by_cases (ℕ_discrete i 0)
        (λ z. ap (ver u) z ∙ ver_at vs ls ks xs (image_of t) image-given 0 (omega arith) ∙ first-version (image_of t) ∙ sym (ap (ver t) z ∙ a.zero_version))
        (λ ne. version_at vs ls ks xs (image_of t) image-given i (omega arith) b ∙ ap version_of (image_at i h) ∙ slot-version t i)

    -- the same keys live, with the same values
    pub find_kept : (k : ℕ) → find u k ≡ find t k
    unfolding recorded
    find_kept k =
        find-rebuilt vs ls ks xs (image_of t) image-given k
        ∙ split (is_live t (idx k) (version k))
        (λ e.
        let l = live t _ _ e in
        let odd : ver t (idx k) % 2 ≡ 1 = omega (arith, l.same, version-odd k) in
        let s = image_at (idx k) l.high ∙ slot-odd t (idx k) odd in
        rw (recorded_is (image_of t) k (record { low = l.low; high = omega (arith, l.high, image-length); same = ap version_of s ∙ l.same }))
        (ap (λ (r : Record). some (value_of r)) s ∙ sym (find-live t k l)))
        (λ e.
        let n : is_recorded (image_of t) k ≡ false =
        false_if _ (λ r.
        let w = is_recorded_lem (image_of t) k r in
        let h : idx k < t.head.s = omega (arith, w.high, image-length) in
        true_false (facts_live t _ _ (record { low = w.low; high = h; same = sym (ap version_of (image_at (idx k) h) ∙ slot-version t (idx k)) ∙ w.same })) e) in
        rw n (sym (find-dead t k e)))

-- ---- write after rebuild

-- an accepted image's list of records
pub image_is_given : (vs ls ks xs bytes : List ℕ) (l : List Record) → lengths_fit vs ls ks xs ≡ true → Bytes bytes → judged_image bytes (length ks + 1) ≡ tells l
    → Given vs ls ks xs l × (bytes ≡ bytes_of l)
unfolding judged_image
image_is_given vs ls ks xs bytes l fit b e =
    by_answer (records_of bytes (length ks + 1)) fitting l e (λ m f g.
    let q = fitting-same m l g in
    let w = written_read bytes (length ks + 1) l b (f ∙ ap tells q) in
    (record { fit = fit; fits = fitting-told bytes (length ks + 1) l e; few = w.few; words = w.fit }, w.spelled))

module _ (vs ls ks xs : List ℕ) (l : List Record) (g : Given vs ls ks xs l) where
  abbrev built : Table
  built = rebuilt vs ls ks xs l

  slot-back : (i : ℕ) → 1 ≤ i → i < length l → slot_of built i ≡ slot_in l i
  slot-back i low h =
      let v = version_at vs ls ks xs l g i low h in
      by_record (slot_in l i)
      (λ w e.
      let even = vacant_even l g.fits i low h w e in
      slot-even built i (ap (λ (n : ℕ). n % 2) (v ∙ ap version_of e) ∙ even) ∙ ap Vacant (v ∙ ap version_of e) ∙ sym e)
      (λ w x e.
      let odd = occupied-odd l g.fits i low h w x e in
      let full = occupied-full l i low w x e in
      slot-odd built i (ap (λ (n : ℕ). n % 2) (v ∙ ap version_of e) ∙ odd)
      ∙ ap₂ Occupied (v ∙ ap version_of e) (ap (val built) (full-link vs ls ks xs l g i h full) ∙ val_at vs ls ks xs l g i h full ∙ ap value_of e)
      ∙ sym e)

  slot-first : slot_of built 0 ≡ Vacant 0
  slot-first =
      let z : ver built 0 ≡ 0 = ver_at vs ls ks xs l g 0 (fitting-some l g.fits) ∙ first-version l in
      slot-even built 0 (omega (arith, z)) ∙ ap Vacant z

  -- the slots of a rebuilt table are the records that it was rebuilt from, but for the first
  pub image-rebuilt : slot_in l 0 ≡ Vacant 0 → image_of built ≡ l
  unfolding image_of
  image-rebuilt first =
      listed_same (slot_of built) l (Vacant 0) built.head.s (sym (slots_are vs ls ks xs l g)) (λ i h.
      by_cases (ℕ_discrete i 0)
      (λ z. ap (slot_of built) z ∙ slot-first ∙ sym (ap (slot_in l) z ∙ first))
      (λ ne. slot-back i (omega arith) (omega (arith, slots_are vs ls ks xs l g))))

-- so an accepted image whose first record is 0, 0 is the image of the table that it rebuilds to
pub write-rebuild : (vs ls ks xs bytes : List ℕ) (l : List Record) → lengths_fit vs ls ks xs ≡ true → Bytes bytes → judged_image bytes (length ks + 1) ≡ tells l
    → slot_in l 0 ≡ Vacant 0 → image_bytes (rebuilt vs ls ks xs l) ≡ bytes
unfolding image_bytes
write-rebuild vs ls ks xs bytes l fit b e first =
    let w = image_is_given vs ls ks xs bytes l fit b e in
    ap bytes_of (image-rebuilt vs ls ks xs l w.0 first) ∙ sym w.1

-- ---- the two calls: what rebuild began, written again

module _ (vs ls ks xs bytes : List ℕ) (h : Header) (a : Arrays) (began : rebuild vs ls ks xs bytes ≡ (begins h, a)) where
  abbrev list : List Record
  list = (records_in bytes).0

  -- every test held, so the table is the one of the records
  passed : (f : Option ℕ) → first (rebuild_tests vs ls ks xs bytes) ≡ f
      → (first (rebuild_tests vs ls ks xs bytes) ≡ none) × (table_of h a ≡ rebuilt vs ls ks xs list)
  passed none e =
      let q = both (sym (rw e at (rebuild-ruled vs ls ks xs bytes)) ∙ began) in
      let p : h ≡ (rebuilt vs ls ks xs list).head = cc in
      (e, ap₂ table_of p (sym q.1))
  passed (some r) e = let q = both (sym (rw e at (rebuild-ruled vs ls ks xs bytes)) ∙ began) in let z : ◌≡◌ {A = ℕ} 0 1 = cc in absurd (omega arith)

  -- "writing a rebuilt table gives back the bytes read, if the first record was 0, 0"
  pub write_again : Bytes bytes → slot_in list 0 ≡ Vacant 0 → (out : List ℕ) → length bytes ≤ length out → write_image (table_of h a) out ≡ (tells (length bytes), put out 0 bytes)
  write_again b zero out room =
      let p = passed _ refl in
      let fit = first_holds (lengths_fit vs ls ks xs) 1 (image_tests bytes (length ks + 1)) p.0 in
      let none_left : first (image_tests bytes (length ks + 1)) ≡ none = rw fit at p.0 in
      let image : judged_image bytes (length ks + 1) ≡ tells list = rw none_left at (image-ruled bytes (length ks + 1)) in
      let sound = sound-rebuilt vs ls ks xs list (image_is_given vs ls ks xs bytes list fit b image).0 in
      rw (p.1, write-ruled (rebuilt vs ls ks xs list) out, sound.shape, sound_passes (rebuilt vs ls ks xs list) sound, write-rebuild vs ls ks xs bytes list fit b image zero, le-leb (length bytes) (length out) room)
