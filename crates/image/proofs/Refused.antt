-- Rebuild, the judge of an image and writing are refused with the number of the first of their tests that fails, and then leave everything as it
-- was; where all tests hold they do what the rules say. Each call is one equation over its list of tests. Assumes nothing.
use mathlib.Core.Path.{◌≡◌, refl, sym, ap, ◌∙◌}
use mathlib.Core.Bool.{cond}
use mathlib.Core.List.{List, [], ◌∷◌, ◌++◌}
use mathlib.Core.Option.{Option, none, some}
use Prim.Native.Nat.{ℕ, zero, suc, ◌+◌}
use native.Mathlib.Nat.{zero-add}
use native.Mathlib.Omega.{arith}
use lib.Dec.{leb, ltb, eqb}
use lib.ListN.{length}
use borrow.Author.Tests.{eqb-true, eqb-false, ltb-true, ltb-false, le-leb, lt-leb, ne_eqb}
use Rattle.lists.specs.Put.{put}
use Rattle.lists.proofs.Tests.{split, before, first-append}
use Rattle.writing.specs.Told.{Told, tells, refused, onward}
use Rattle.numbers.specs.Numbers.{number_at}
use Rattle.writing.specs.Writing.{written}
use Rattle.records.specs.declared.Record.{Record}
use Rattle.records.specs.declared.Record.TheVariants.{Vacant, Occupied}
use Rattle.records.specs.Records.{version_of, presence_of, record_at, records_from, count_of, list_of, records_of}
use Rattle.summaries.specs.Summaries.{wrongs}
use Rattle.table.specs.Table.{Table, lengths_fit, has_shape}
use Rattle.table.specs.Sound.{is_sound}
use Rattle.lists.specs.Tests.{Tests, first}
use Rattle.image.specs.Image.{image_bytes, image_len, write_image}
use Rattle.image.specs.Rebuild.{first_wrong, fitting, judged_image, counts_in, judged_counts, rebuilt, arrays, begun, rebuilt_from, rebuild}
use Rattle.image.specs.Refused.{ruled, reads, answer_or, record_tests, record_end, records_tests, records_in, list_tests, image_tests, rebuild_tests, len_tests, write_tests, ruled_out}

-- ---- the first fault of readings

abbrev fault_in : {A : Type 0} → Told A → Option ℕ
fault_in (tells a) = none
fault_in (refused k) = some k

by_told : {A C : Type 0} (x : Told A) → ((a : A) → x ≡ tells a → C) → ((k : ℕ) → x ≡ refused k → C) → C
by_told (tells a) f g = f a refl
by_told (refused k) f g = g k refl

-- a record, from its presence on, from its second number on, and from its first
module _ (z : ℕ → Told (ℕ × ℕ)) (v : ℕ) where
  abbrev valued : ℕ × ℕ → Told (Record × ℕ)
  valued p = cond (eqb p.0 0) (tells (Vacant v, p.1)) (cond (eqb p.0 1) (onward (z p.1) (λ x. tells (Occupied v x.0, x.1))) (refused 16))

  value-ruled : (p : ℕ × ℕ) → first ((leb p.0 1, 16) ∷ cond (eqb p.0 1) (reads (z p.1) ∷ []) []) ≡ fault_in (valued p)
  value-ruled p =
      split (eqb p.0 0)
      (λ a. let o = eqb-true p.0 0 a in rw (a, le-leb p.0 1 (omega arith), ne_eqb p.0 1 (λ e. omega arith)))
      (λ a. split (eqb p.0 1)
      (λ b. let o = eqb-true p.0 1 b in rw (a, b, le-leb p.0 1 (omega arith)) (by_told (z p.1) (λ x g. rw g) (λ k g. rw g)))
      (λ b. let n = eqb-false p.0 0 a in let o = eqb-false p.0 1 b in rw (a, b, lt-leb p.0 1 (omega (arith, n, o)))))

  presence-ruled : (y : Told (ℕ × ℕ))
      → first (reads y ∷ (leb (answer_or (0, 0) y).0 1, 16) ∷ cond (eqb (answer_or (0, 0) y).0 1) (reads (z (answer_or (0, 0) y).1) ∷ []) []) ≡ fault_in (onward y valued)
  presence-ruled (tells p) = value-ruled p
  presence-ruled (refused k) = refl

record-ruled : (s : List ℕ) (at : ℕ) → first (record_tests s at) ≡ fault_in (record_at s at)
unfolding record_at
record-ruled s at = go (number_at 32 s at)
  where
    go : (x : Told (ℕ × ℕ)) →
        let n = (answer_or (0, 0) x).1 in
        let y = answer_or (0, 0) (number_at 32 s n) in
        first (reads x ∷ reads (number_at 32 s n) ∷ (leb y.0 1, 16) ∷ cond (eqb y.0 1) (reads (number_at 64 s y.1) ∷ []) []) ≡ fault_in (onward x (λ v. onward (number_at 32 s v.1) (valued (number_at 64 s) v.0)))
    go (tells v) = presence-ruled (number_at 64 s) v.0 (number_at 32 s v.1)
    go (refused k) = refl

records_ruled : (k : ℕ) (s : List ℕ) (at : ℕ) → first (records_tests k s at) ≡ fault_in (records_from k s at)
unfolding records_from
records_ruled zero s at = refl
records_ruled (suc k) s at =
    first-append (record_tests s at) (records_tests k s (record_end s at))
    ∙ ap (λ (f : Option ℕ). before f (first (records_tests k s (record_end s at)))) (record-ruled s at)
    ∙ go (records_ruled k s) (record_at s at)
  where
    more : (r : Record) (y : Told (List Record × ℕ)) → fault_in y ≡ fault_in {A = List Record × ℕ} (onward y (λ l. tells (r ∷ l.0, l.1)))
    more r (tells l) = refl
    more r (refused j) = refl

    go : ((n : ℕ) → first (records_tests k s n) ≡ fault_in (records_from k s n)) → (x : Told (Record × ℕ))
        → before (fault_in x) (first (records_tests k s (answer_or (Vacant 0, 0) x).1)) ≡ fault_in {A = List Record × ℕ} (onward x (λ r. onward (records_from k s r.1) (λ l. tells (r.0 ∷ l.0, l.1))))
    go later (tells r) = later r.1 ∙ more r.0 (records_from k s r.1)
    go later (refused j) = refl

fitting-ruled : (l : List Record) → fitting l ≡ ruled (first (list_tests l)) l
unfolding fitting
fitting-ruled [] = refl
fitting-ruled (r ∷ l) =
    split (first_wrong (version_of r) (presence_of r)) (λ a. rw a) (λ a. rw a (split (eqb (wrongs l) 0) (λ b. rw b) (λ b. rw b)))

-- ---- an image

-- what is judged after the records
abbrev end_tests : List ℕ → List Record × ℕ → Tests
end_tests bytes r = (leb (length bytes) r.1, 15) ∷ list_tests r.0

module _ (bytes : List ℕ) (most : ℕ) where
  abbrev none_read : List Record × ℕ
  none_read = ([], 0)

  ended : (y : Told (List Record × ℕ))
      → onward (onward y (λ l. cond (ltb l.1 (length bytes)) (refused 15) (tells l.0))) fitting ≡ ruled (before (fault_in y) (first (end_tests bytes (answer_or none_read y)))) (answer_or none_read y).0
  ended (tells l) =
      split (ltb l.1 (length bytes))
      (λ b. rw (b, lt-leb (length bytes) l.1 (ltb-true l.1 (length bytes) b)))
      (λ b. rw (b, le-leb (length bytes) l.1 (ltb-false l.1 (length bytes) b)) (fitting-ruled l.0))
  ended (refused k) = refl

  listed : (c : ℕ × ℕ) → let r = answer_or none_read (records_from c.0 bytes c.1) in
      onward (list_of c.0 bytes c.1) fitting ≡ ruled (first (records_tests c.0 bytes c.1 ++ end_tests bytes r)) r.0
  unfolding list_of
  listed c =
      let r = answer_or none_read (records_from c.0 bytes c.1) in
      ended (records_from c.0 bytes c.1)
      ∙ ap (λ (f : Option ℕ). ruled f r.0)
      (sym (first-append (records_tests c.0 bytes c.1) (end_tests bytes r) ∙ ap (λ (f : Option ℕ). before f (first (end_tests bytes r))) (records_ruled c.0 bytes c.1)))

  pub image-ruled : judged_image bytes most ≡ ruled (first (image_tests bytes most)) (records_in bytes).0
  unfolding judged_image records_of count_of
  image-ruled = go (number_at 32 bytes 0)
    where
      go : (x : Told (ℕ × ℕ)) →
          let c = answer_or (0, 0) x in
          let r = answer_or none_read (records_from c.0 bytes c.1) in
          onward (onward (onward x (λ n. cond (ltb most n.0) (refused 12) (tells n))) (λ n. list_of n.0 bytes n.1)) fitting
          ≡ ruled (first (reads x ∷ (leb c.0 most, 12) ∷ (records_tests c.0 bytes c.1 ++ end_tests bytes r))) r.0
      go (tells c) =
          split (ltb most c.0)
          (λ a. rw (a, lt-leb c.0 most (ltb-true most c.0 a)))
          (λ a. rw (a, le-leb c.0 most (ltb-false most c.0 a)) (listed c))
      go (refused k) = refl

  pub counts-ruled : judged_counts bytes most ≡ ruled (first (image_tests bytes most)) (counts_in (records_in bytes).0)
  unfolding judged_counts
  counts-ruled = rw image-ruled (onto (first (image_tests bytes most)))
    where
      onto : (f : Option ℕ) → onward (ruled f (records_in bytes).0) (λ l. tells (counts_in l)) ≡ ruled f (counts_in (records_in bytes).0)
      onto none = refl
      onto (some r) = refl

-- ---- the calls

pub rebuild-ruled : (vs ls ks xs bytes : List ℕ)
    → rebuild vs ls ks xs bytes ≡ begun (arrays vs ls ks xs) (ruled (first (rebuild_tests vs ls ks xs bytes)) (rebuilt vs ls ks xs (records_in bytes).0))
unfolding rebuild rebuilt_from
rebuild-ruled vs ls ks xs bytes =
    split (lengths_fit vs ls ks xs)
    (λ a. rw (a, image-ruled bytes (length ks + 1)) (onto (first (image_tests bytes (length ks + 1)))))
    (λ a. rw a)
  where
    onto : (f : Option ℕ)
        → begun (arrays vs ls ks xs) (onward (ruled f (records_in bytes).0) (λ l. tells (rebuilt vs ls ks xs l))) ≡ begun (arrays vs ls ks xs) (ruled f (rebuilt vs ls ks xs (records_in bytes).0))
    onto none = refl
    onto (some r) = refl

module _ (t : Table) where
  pub len-ruled : image_len t ≡ ruled (first (len_tests t)) (length (image_bytes t))
  unfolding image_len
  len-ruled = split (has_shape t) (λ a. rw a (split (is_sound t) (λ b. rw b) (λ b. rw b))) (λ a. rw a)

  pub write-ruled : (out : List ℕ) → write_image t out ≡ ruled_out out (first (write_tests t out)) (tells (length (image_bytes t)), put out 0 (image_bytes t))
  unfolding write_image written
  write-ruled out =
      split (has_shape t)
      (λ a. rw a (split (is_sound t)
      (λ b. rw (b, zero-add (length (image_bytes t))) (split (leb (length (image_bytes t)) (length out)) (λ c. rw c) (λ c. rw c)))
      (λ b. rw b)))
      (λ a. rw a)
