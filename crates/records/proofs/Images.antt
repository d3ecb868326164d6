-- What is written reads back, and what is read was written so: of a record, of a list of records, and of a whole image. So the list of
-- records determines an image's bytes, and the bytes the list. Assumes nothing.
use Prim.Native.Nat.{ℕ, zero, suc, ◌+◌, ◌^◌, ◌≤◌, ◌<◌}
use mathlib.Core.Path.{◌≡◌, refl, sym, ap, ap₂, ◌∙◌}
use mathlib.Core.List.{List, [], ◌∷◌, ◌++◌, append_assoc, append-nil}
use native.Mathlib.Nat.{add-zero}
use native.Mathlib.Omega.{arith}
use lib.Dec.{ltb, eqb}
use lib.ListN.{length, drop, length-append, drop_of_length-le}
use borrow.Author.Tests.{le-ltb, ltb-false, eqb-true}
use Rattle.lists.proofs.Tests.{split}
use Rattle.writing.specs.Told.{tells}
use Rattle.numbers.specs.Numbers.{number_at, encoded, Bytes}
use Rattle.writing.proofs.Told.{never, told, both, by_answer}
use Rattle.numbers.proofs.Reading.{decode_at, encode_decode}
use Rattle.numbers.proofs.Bounds.{number_fits}
use Rattle.records.specs.declared.Record.{Record}
use Rattle.records.specs.declared.Record.TheVariants.{Vacant, Occupied}
use Rattle.records.specs.Records.{record_at, records_from, count_of, list_of, records_of, record_bytes, list_bytes, bytes_of, Fit, FitAll, Accepted}
use Rattle.records.proofs.Records.{vacant, occupied, counted, count-is}

-- ---- a record

-- where the bytes go on with a record's, the record is read, and the place is the one after it
pub record-back : (r : Record) (s rest : List ℕ) (at : ℕ) → Fit r → drop at s ≡ record_bytes r ++ rest
    → (record_at s at ≡ tells (r, at + length (record_bytes r))) × (drop (at + length (record_bytes r)) s ≡ rest)
unfolding record_bytes
record-back (Vacant v) s rest at f e =
    let a = decode_at 32 v s (encoded 0 ++ rest) at f (e ∙ append_assoc (encoded v) (encoded 0) rest) in
    let b = decode_at 32 0 s rest (at + length (encoded v)) (omega arith) a.1 in
    let n : at + length (encoded v) + length (encoded 0) ≡ at + length (encoded v ++ encoded 0) = omega (arith, length-append (encoded v) (encoded 0)) in
    (rw n at (vacant s at v (at + length (encoded v)) a.0 0 _ b.0 refl), rw n at b.1)
record-back (Occupied v x) s rest at f e =
    let a = decode_at 32 v s (encoded 1 ++ (encoded x ++ rest)) at f.0 (e ∙ simp append_assoc) in
    let b = decode_at 32 1 s (encoded x ++ rest) (at + length (encoded v)) (omega arith) a.1 in
    let d = decode_at 64 x s rest (at + length (encoded v) + length (encoded 1)) f.1 b.1 in
    let n : at + length (encoded v) + length (encoded 1) + length (encoded x) ≡ at + length (encoded v ++ encoded 1 ++ encoded x) = simp length-append (omega arith) in
    (rw n at (occupied s at v (at + length (encoded v)) a.0 1 _ b.0 (λ z. absurd (omega arith)) refl x _ d.0), rw n at d.1)

-- a record of machine numbers stands from `at` to n
pub record Stands (s : List ℕ) (at : ℕ) (r : Record) (n : ℕ) : Type 0 where
  pub starts : drop at s ≡ record_bytes r ++ drop n s
  pub place : n ≡ at + length (record_bytes r)
  pub fit : Fit r

module _ (s : List ℕ) (bytes : Bytes s) (at v n : ℕ) (e : number_at 32 s at ≡ tells (v, n)) (p m : ℕ) (f : number_at 32 s n ≡ tells (p, m)) where
  vacant_form : p ≡ 0 → Stands s at (Vacant v) m
  unfolding record_bytes
  vacant_form h =
      let a = encode_decode 32 s at v n bytes e in
      let b = encode_decode 32 s n p m bytes f in
      record {
        starts = a.0 ∙ ap (λ (t : List ℕ). encoded v ++ t) (rw h at b.0) ∙ sym (append_assoc (encoded v) (encoded 0) (drop m s));
        place = omega (arith, a.1, rw h at b.1, length-append (encoded v) (encoded 0));
        fit = number_fits 32 s at v n e;
      }

  occupied-form : p ≡ 1 → (x o : ℕ) → number_at 64 s m ≡ tells (x, o) → Stands s at (Occupied v x) o
  unfolding record_bytes
  occupied-form h x o g =
      let a = encode_decode 32 s at v n bytes e in
      let b = encode_decode 32 s n p m bytes f in
      let d = encode_decode 64 s m x o bytes g in
      record {
        starts = a.0 ∙ ap (λ (t : List ℕ). encoded v ++ t) ((rw h at b.0) ∙ ap (λ (t : List ℕ). encoded 1 ++ t) d.0) ∙ simp append_assoc;
        place = simp length-append (omega (arith, a.1, rw h at b.1, d.1));
        fit = (number_fits 32 s at v n e, number_fits 64 s m x o g);
      }

-- what reads as a record is that record's bytes, and the place is the one after them
pub record-form : (s : List ℕ) (at : ℕ) (r : Record) (n : ℕ) → Bytes s → record_at s at ≡ tells (r, n) → Stands s at r n
unfolding record_at
record-form s at r n bytes e =
    by_answer (number_at 32 s at) _ (r, n) e (λ v f g.
    by_answer (number_at 32 s v.1) _ (r, n) g (λ p h i.
    split (eqb p.0 0)
    (λ t. let q = both (told (rw t at i)) in rw (q.0, q.1) at (vacant_form s bytes at v.0 v.1 f p.0 p.1 h (eqb-true p.0 0 t))) (λ t.
    split (eqb p.0 1) (λ u.
    by_answer (number_at 64 s p.1) _ (r, n) (rw (t, u) at i) (λ x j k.
    let q = both (told k) in rw (q.0, q.1) at (occupied-form s bytes at v.0 v.1 f p.0 p.1 h (eqb-true p.0 1 u) x.0 x.1 j)))
    (λ u. never (rw (t, u) at i)))))

-- ---- a list of records

-- the first record and the others
pub records_first : {C : Type 0} (k : ℕ) (s : List ℕ) (at : ℕ) (l : List Record) (n : ℕ) → records_from (suc k) s at ≡ tells (l, n)
    → ((r : Record) (m : ℕ) (t : List Record) → record_at s at ≡ tells (r, m) → records_from k s m ≡ tells (t, n) → r ∷ t ≡ l → C) → C
unfolding records_from
records_first k s at l n e go =
    by_answer (record_at s at) _ (l, n) e (λ r f g.
    by_answer (records_from k s r.1) _ (l, n) g (λ t h i.
    let q = both (told i) in go r.0 r.1 t.0 f (h ∙ ap (λ (m : ℕ). tells (t.0, m)) q.1) q.0))

pub records_length : (k : ℕ) (s : List ℕ) (at : ℕ) (l : List Record) (n : ℕ) → records_from k s at ≡ tells (l, n) → length l ≡ k
unfolding records_from
records_length zero s at l n e = sym (ap length (both (told e)).0)
records_length (suc k) s at l n e = records_first k s at l n e (λ r m t f g h. sym (ap length h) ∙ ap suc (records_length k s m t n g))

pub records_cons : (k : ℕ) (s : List ℕ) (at : ℕ) (r : Record) (m : ℕ) (t : List Record) (n : ℕ) → record_at s at ≡ tells (r, m) → records_from k s m ≡ tells (t, n)
    → records_from (suc k) s at ≡ tells (r ∷ t, n)
unfolding records_from
records_cons k s at r m t n e f = rw (e, f)

pub records_back : (l : List Record) (s rest : List ℕ) (at : ℕ) → FitAll l → drop at s ≡ list_bytes l ++ rest
    → (records_from (length l) s at ≡ tells (l, at + length (list_bytes l))) × (drop (at + length (list_bytes l)) s ≡ rest)
unfolding list_bytes FitAll records_from
records_back [] s rest at f e = (rw (add-zero at), rw (add-zero at) e)
records_back (r ∷ l) s rest at f e =
    let a = record-back r s (list_bytes l ++ rest) at f.0 (e ∙ append_assoc (record_bytes r) (list_bytes l) rest) in
    let b = records_back l s rest (at + length (record_bytes r)) f.1 a.1 in
    let n : at + length (record_bytes r) + length (list_bytes l) ≡ at + length (record_bytes r ++ list_bytes l) = simp length-append (omega arith) in
    (rw n at (records_cons (length l) s at r _ l _ a.0 b.0), rw n at b.1)

-- a list of records of machine numbers stands from `at` to n
pub record AllStand (s : List ℕ) (at : ℕ) (l : List Record) (n : ℕ) : Type 0 where
  pub starts : drop at s ≡ list_bytes l ++ drop n s
  pub place : n ≡ at + length (list_bytes l)
  pub fit : FitAll l

none-stands : (s : List ℕ) (at n : ℕ) → at ≡ n → AllStand s at [] n
unfolding list_bytes FitAll
none-stands s at n e = record { starts = ap (λ (m : ℕ). drop m s) e; place = sym (add-zero at ∙ e); fit = tt }

more_stand : (s : List ℕ) (at m n : ℕ) (r : Record) (l : List Record) → Stands s at r m → AllStand s m l n → AllStand s at (r ∷ l) n
unfolding list_bytes FitAll
more_stand s at m n r l a b =
    record {
      starts = a.starts ∙ ap (λ (t : List ℕ). record_bytes r ++ t) b.starts ∙ sym (append_assoc (record_bytes r) (list_bytes l) (drop n s));
      place = simp length-append (omega (arith, a.place, b.place));
      fit = (a.fit, b.fit);
    }

pub records_form : (k : ℕ) (s : List ℕ) (at : ℕ) (l : List Record) (n : ℕ) → Bytes s → records_from k s at ≡ tells (l, n) → AllStand s at l n
unfolding records_from
records_form zero s at l n bytes e = let q = both (told e) in rw q.0 at (none-stands s at n q.1)
records_form (suc k) s at l n bytes e =
    records_first k s at l n e (λ r m t f g h. rw h at (more_stand s at m n r t (record-form s at r m bytes f) (records_form k s m t n bytes g)))

-- ---- a whole image

list-end : (k : ℕ) (s : List ℕ) (at : ℕ) (l : List Record) (n : ℕ) → records_from k s at ≡ tells (l, n) → length s ≤ n → list_of k s at ≡ tells l
unfolding list_of
list-end k s at l n e h = rw (e, le-ltb n (length s) h)

-- an image of records of machine numbers, not too many, reads as those records
pub read-written : (l : List Record) (most : ℕ) → FitAll l → length l ≤ most → length l < 2 ^ 32 → records_of (bytes_of l) most ≡ tells l
unfolding records_of bytes_of
read-written l most f h i =
    let a = decode_at 32 (length l) (bytes_of l) (list_bytes l) 0 i refl in
    let b = records_back l (bytes_of l) [] (0 + length (encoded (length l))) f (a.1 ∙ sym (append-nil (list_bytes l))) in
    rw (counted (bytes_of l) most (length l) _ a.0 h, list-end (length l) (bytes_of l) _ l _ b.0 (omega (arith, length-append (encoded (length l)) (list_bytes l))))

pub by_list : {C : Type 0} (k : ℕ) (s : List ℕ) (at : ℕ) (l : List Record) → list_of k s at ≡ tells l → ((n : ℕ) → records_from k s at ≡ tells (l, n) → length s ≤ n → C) → C
unfolding list_of
by_list k s at l e go =
    by_answer (records_from k s at) _ l e (λ y f g.
    split (ltb y.1 (length s)) (λ t. never (rw t at g)) (λ t.
    go y.1 (f ∙ ap (λ (m : List Record). tells (m, y.1)) (told (rw t at g))) (ltb-false y.1 (length s) t)))

whole : (s : List ℕ) (most c n : ℕ) (l : List Record) (m : ℕ) → Bytes s → count_of s most ≡ tells (c, n) → records_from c s n ≡ tells (l, m) → length l ≡ c → length s ≤ m → Accepted s most l
unfolding bytes_of
whole s most c n l m bytes e f k h =
    let d = count-is s most c n e in
    let a = encode_decode 32 s 0 c n bytes d.0 in
    let b = records_form c s n l m bytes f in
    record {
      spelled = a.0 ∙ ap₂ (λ (x : ℕ) (t : List ℕ). encoded x ++ t) (sym k) (b.starts ∙ ap (λ (t : List ℕ). list_bytes l ++ t) (drop_of_length-le s h) ∙ append-nil (list_bytes l));
      few = omega (arith, d.1);
      small = omega (arith, number_fits 32 s 0 c n d.0);
      fit = b.fit;
    }

pub written_read : (s : List ℕ) (most : ℕ) (l : List Record) → Bytes s → records_of s most ≡ tells l → Accepted s most l
unfolding records_of
written_read s most l bytes e =
    by_answer (count_of s most) _ l e (λ c f g.
    by_list c.0 s c.1 l g (λ m h i. whole s most c.0 c.1 l m bytes f h (records_length c.0 s c.1 l m h) i))

-- two lists of records with the same bytes are one list
pub bytes_one_to_one : (l m : List Record) → FitAll l → FitAll m → length l < 2 ^ 32 → length m < 2 ^ 32 → bytes_of l ≡ bytes_of m → l ≡ m
bytes_one_to_one l m f g h i e =
    told (sym (read-written l (length l + length m) f (omega arith) h) ∙ ap (λ (s : List ℕ). records_of s (length l + length m)) e ∙ read-written m (length l + length m) g (omega arith) i)
