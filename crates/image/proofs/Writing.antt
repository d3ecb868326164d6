-- An image written slot by slot: the bytes of the slots below i, and how they grow. Assumes nothing.
use mathlib.Core.Path.{◌≡◌, refl, sym, ap, ap₂, ◌∙◌}
use mathlib.Core.Logic.{by_cases}
use mathlib.Core.Bool.{true}
use mathlib.Core.List.{List, [], ◌∷◌, ◌++◌, append_assoc, append-nil}
use Prim.Native.Nat.{ℕ, zero, suc, ◌+◌, ◌≤◌, ◌<◌}
use native.Mathlib.Nat.{zero-add}
use native.Mathlib.Omega.{arith}
use native.Mathlib.Numerals.{add-one}
use native.Mathlib.Decide.{ℕ_discrete}
use lib.Dec.{leb}
use lib.ListN.{length, length-append}
use Rattle.lists.specs.Listed.{listed}
use Rattle.lists.specs.Put.{put}
use Rattle.lists.proofs.Tests.{split}
use Rattle.lists.proofs.Put.{put-put, length-put}
use Rattle.lists.proofs.Listed.{listed_more, length-listed}
use Rattle.writing.specs.Told.{Told, tells, refused}
use Rattle.numbers.specs.Numbers.{encoded}
use Rattle.writing.specs.Writing.{written}
use Rattle.writing.proofs.Told.{never, told, refused-same, both}
use Rattle.writing.proofs.Writing.{written-fits}
use Rattle.records.specs.declared.Record.{Record}
use Rattle.records.specs.Records.{record_bytes, list_bytes, bytes_of}
use Rattle.table.specs.Table.{Table, has_shape}
use Rattle.table.specs.Sound.{is_sound}
use Rattle.table.proofs.Decides.{passes_shape}
use Rattle.image.specs.Image.{slot_of, image_of, image_bytes, image_len, write_image}

bytes-append : (l m : List Record) → list_bytes (l ++ m) ≡ list_bytes l ++ list_bytes m
unfolding list_bytes
bytes-append [] m = refl
bytes-append (r ∷ l) m = ap (λ (b : List ℕ). record_bytes r ++ b) (bytes-append l m) ∙ sym (append_assoc (record_bytes r) (list_bytes l) (list_bytes m))

bytes_one : (r : Record) → list_bytes (r ∷ []) ≡ record_bytes r
unfolding list_bytes
bytes_one r = append-nil (record_bytes r)

-- the slot count and the records of the slots below i
abbrev pub so_far : Table → ℕ → List ℕ
so_far t i = encoded t.head.s ++ list_bytes (listed (slot_of t) i)

module _ (t : Table) where
  pub so_far-none : so_far t 0 ≡ encoded t.head.s
  unfolding listed list_bytes
  so_far-none = append-nil (encoded t.head.s)

  pub so_far_more : (i : ℕ) → so_far t (i + 1) ≡ so_far t i ++ record_bytes (slot_of t i)
  so_far_more i =
      ap (λ (l : List Record). encoded t.head.s ++ list_bytes l) (listed_more (slot_of t) i)
      ∙ ap (λ (b : List ℕ). encoded t.head.s ++ b) (bytes-append (listed (slot_of t) i) (slot_of t i ∷ []) ∙ ap (λ (b : List ℕ). list_bytes (listed (slot_of t) i) ++ b) (bytes_one (slot_of t i)))
      ∙ sym (append_assoc (encoded t.head.s) (list_bytes (listed (slot_of t) i)) (record_bytes (slot_of t i)))

  pub so_far-longer : (i : ℕ) {r : Record} → r ≡ slot_of t i → length (so_far t (i + 1)) ≡ length (so_far t i) + length (record_bytes r)
  so_far-longer i {r} e =
      ap length (so_far_more i) ∙ length-append (so_far t i) (record_bytes (slot_of t i)) ∙ ap (λ (q : Record). length (so_far t i) + length (record_bytes q)) (sym e)

  pub so_far_all : so_far t t.head.s ≡ image_bytes t
  unfolding image_bytes image_of bytes_of
  so_far_all = ap (λ (n : ℕ). encoded n ++ list_bytes (listed (slot_of t) t.head.s)) (sym (length-listed (slot_of t) t.head.s))

  -- the bytes of fewer slots are no more
  pub so_far_fewer : (i m : ℕ) → i ≤ m → length (so_far t i) ≤ length (so_far t m)
  so_far_fewer i zero h = let e : i ≡ 0 = omega arith in omega (arith, ap (λ (k : ℕ). length (so_far t k)) e)
  so_far_fewer i (suc m) h =
      by_cases (ℕ_discrete i (suc m))
      (λ e. omega (arith, ap (λ (k : ℕ). length (so_far t k)) e))
      (λ ne.
      let more : length (so_far t (suc m)) ≡ length (so_far t m ++ record_bytes (slot_of t m)) = ap length (rw (add-one m) at (so_far_more m)) in
      omega (arith, so_far_fewer i m (omega arith), length-append (so_far t m) (record_bytes (slot_of t m))))

-- where writing ended; at, if it was refused
abbrev pub end_or : ℕ → Told ℕ → ℕ
end_or at (tells n) = n
end_or at (refused k) = at

-- ---- into a buffer b that has the room: what stands at its front once the slots below i are written, and where that ends

pub record Front (t : Table) (b : List ℕ) (i : ℕ) (out : List ℕ) (at : ℕ) : Type 0 where
  pub put_in : out ≡ put b 0 (so_far t i)
  pub ends : at ≡ length (so_far t i)

module _ (t : Table) (b : List ℕ) (room : length (image_bytes t) ≤ length b) where
  has_room : (i : ℕ) → i ≤ t.head.s → length (so_far t i) ≤ length b
  has_room i h = omega (arith, so_far_fewer t i t.head.s h, ap length (so_far_all t))

  pub front_count : {o : Told ℕ} {d : List ℕ} {at : ℕ} → (o, d) ≡ written 0 (encoded t.head.s) b → at ≡ end_or 0 o → Front t b 0 d at
  front_count {o} {d} {at} e f =
      let p = both (e ∙ written-fits 0 (encoded t.head.s) b (omega (arith, has_room 0 (omega arith), ap length (so_far-none t)))) in
      record {
        put_in = p.1 ∙ ap (put b 0) (sym (so_far-none t));
        ends = f ∙ ap (end_or 0) p.0 ∙ zero-add (length (encoded t.head.s)) ∙ ap length (sym (so_far-none t));
      }

  pub front_more : (i : ℕ) → i < t.head.s → {out : List ℕ} {at : ℕ} → Front t b i out at → (r : Record) → r ≡ slot_of t i → {o : Told ℕ} {d : List ℕ} {next : ℕ}
      → (o, d) ≡ written at (record_bytes r) out → next ≡ end_or at o → Front t b (i + 1) d next
  front_more i h {out} {at} f r s {o} {d} {next} e g =
      let long : length (so_far t (i + 1)) ≡ length (so_far t i) + length (record_bytes r) = so_far-longer t i s in
      let same : length out ≡ length b = ap length f.put_in ∙ length-put b 0 (so_far t i) (omega (arith, has_room i (omega arith))) in
      let p = both (e ∙ written-fits at (record_bytes r) out (omega (arith, f.ends, has_room (i + 1) (omega arith)))) in
      record {
        put_in =
            p.1 ∙ ap₂ (λ (n : ℕ) (w : List ℕ). put w n (record_bytes r)) (f.ends ∙ sym (zero-add (length (so_far t i)))) f.put_in
            ∙ put-put b 0 (so_far t i) (record_bytes r) (omega (arith, has_room i (omega arith)))
            ∙ ap (λ (q : Record). put b 0 (so_far t i ++ record_bytes q)) s
            ∙ ap (put b 0) (sym (so_far_more t i));
        ends = g ∙ ap (end_or at) p.0 ∙ omega (arith, f.ends, long);
      }

  -- at the end the whole image stands there
  pub front_all : {i : ℕ} {out : List ℕ} {at : ℕ} → i ≡ t.head.s → Front t b i out at → out ≡ put b 0 (image_bytes t)
  front_all e f = f.put_in ∙ ap (λ (k : ℕ). put b 0 (so_far t k)) e ∙ ap (put b 0) (so_far_all t)

  pub front_length : {i : ℕ} {out : List ℕ} {at : ℕ} → i ≤ t.head.s → Front t b i out at → length out ≡ length b
  front_length {i} h f = ap length f.put_in ∙ length-put b 0 (so_far t i) (omega (arith, has_room i h))

-- ---- the length and the writing are refused alike, but for 6

module _ (t : Table) where
  pub write-refused : (out : List ℕ) (k : ℕ) → image_len t ≡ refused k → (refused k, out) ≡ write_image t out
  unfolding image_len write_image
  write-refused out k e =
      split (has_shape t)
      (λ h. split (is_sound t)
      (λ s. never (sym (rw (h, s) at e)))
      (λ s. rw (h, s) (ap (λ (j : ℕ). (refused j, out)) (sym (refused-same (rw (h, s) at e))))))
      (λ h. rw h (ap (λ (j : ℕ). (refused j, out)) (sym (refused-same (rw h at e)))))

  module _ (n : ℕ) (e : image_len t ≡ tells n) where
    pub len-sound : (is_sound t ≡ true) × (n ≡ length (image_bytes t))
    unfolding image_len
    len-sound =
        split (has_shape t)
        (λ h. split (is_sound t) (λ s. (s, sym (told (rw (h, s) at e)))) (λ s. never (rw (h, s) at e)))
        (λ h. never (rw h at e))

    pub write-told : (out : List ℕ) → written 0 (image_bytes t) out ≡ write_image t out
    unfolding write_image
    write-told out = let s = len-sound.0 in rw (passes_shape t s, s)

-- ---- the length told is the length written

module _ (t : Table) (out : List ℕ) where
  pub length-written : (n : ℕ) → (write_image t out).0 ≡ tells n → image_len t ≡ tells n
  unfolding write_image image_len written
  length-written n e =
      split (has_shape t)
      (λ h. split (is_sound t)
      (λ s. split (leb (0 + length (image_bytes t)) (length out))
      (λ f. rw (h, s) (ap tells (sym (zero-add (length (image_bytes t))) ∙ told (rw (h, s, f) at e))))
      (λ f. never (rw (h, s, f) at e)))
      (λ s. never (rw (h, s) at e)))
      (λ h. never (rw h at e))

  -- writing that is refused leaves the buffer as it was
  pub write-refused-keeps : (k : ℕ) → (write_image t out).0 ≡ refused k → (write_image t out).1 ≡ out
  unfolding write_image written
  write-refused-keeps k e =
      split (has_shape t)
      (λ h. split (is_sound t)
      (λ s. split (leb (0 + length (image_bytes t)) (length out))
      (λ f. never (sym (rw (h, s, f) at e)))
      (λ f. rw (h, s, f)))
      (λ s. rw (h, s)))
      (λ h. rw h)
