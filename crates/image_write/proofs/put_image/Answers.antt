-- `put_image` meets its contract. The loop's invariant: the slot count and the records of the slots below i stand at the buffer's front.
-- No writer refuses, since what it is to write ends before the image does.
use mathlib.Core.Path.{◌≡◌, refl, sym, ap, ap₂, ◌∙◌}
use mathlib.Core.List.{List}
use Prim.Native.Nat.{ℕ, ◌+◌, ◌≤◌, ◌<◌}
use native.Mathlib.Nat.{zero-add}
use native.Mathlib.Omega.{arith}
use lib.ListN.{length}
use Rattle.numbers.specs.Numbers.{encoded}
use Rattle.writing.specs.Told.{Told, tells, refused}
use Rattle.writing.specs.Writing.{written}
use Rattle.writing.proofs.Writing.{written-fits, written-refused}
use Rattle.records.specs.declared.Record.{Record}
use Rattle.records.specs.Records.{record_bytes}
use Rattle.table.specs.Table.{Table}
use Rattle.image.specs.Image.{slot_of, image_bytes}
use Rattle.image.proofs.Writing.{so_far, so_far-none, so_far-longer, so_far_fewer, so_far_all, Front, front_count, front_more, front_all, front_length}
use Rattle.image_write.proofs.put_image.Goals as goal

module _ (t : Table) (b : List ℕ) (room : length (image_bytes t) ≤ length b) where
  fits : (i : ℕ) → i ≤ t.head.s → length (so_far t i) ≤ length b
  fits i h = omega (arith, so_far_fewer t i t.head.s h, ap length (so_far_all t))

  count_fits : {d : List ℕ} {k : ℕ} → ◌≡◌ {A = Told ℕ × List ℕ} (refused k, d) (written 0 (encoded t.head.s) b) → ⊥
  count_fits {d} {k} e =
      omega (arith, (written-refused 0 (encoded t.head.s) b d k e).0, fits 0 (omega arith), ap length (so_far-none t))

  record-fits : (i : ℕ) → i < t.head.s → {out : List ℕ} {at : ℕ} → Front t b i out at → (r : Record) → r ≡ slot_of t i → {d : List ℕ} {k : ℕ}
      → ◌≡◌ {A = Told ℕ × List ℕ} (refused k, d) (written at (record_bytes r) out) → ⊥
  record-fits i h {out} {at} f r s {d} {k} e =
      omega (arith, (written-refused at (record_bytes r) out d k e).0, fits (i + 1) (omega arith), so_far-longer t i s, f.ends, front_length t b room {i = i} (omega arith) f)

  whole : {i : ℕ} {out : List ℕ} {at : ℕ} → i ≡ t.head.s → Front t b i out at → ◌≡◌ {A = Told ℕ × List ℕ} (tells at, out) (written 0 (image_bytes t) b)
  whole {i} e f =
      ap₂ (λ (n : ℕ) (w : List ℕ). (tells n, w)) (f.ends ∙ ap (λ (k : ℕ). length (so_far t k)) e ∙ ap length (so_far_all t) ∙ sym (zero-add _)) (front_all t b room e f)
      ∙ sym (written-fits 0 (image_bytes t) b (omega arith))

pub returns-in_err-at : goal.returns-in_err-at
returns-in_err-at c = absurd (count_fits _ _ c.requires c.in_err-at.ensures)

pub loop-i-init : goal.loop-i-init
loop-i-init c = front_count _ _ c.requires c.in_ok-at.ensures refl

pub returns-in_err-at-2 : goal.returns-in_err-at-2
returns-in_err-at-2 c = absurd (record-fits _ _ c.requires _ c.loop-i-test.true c.loop-i.invariant _ c.slot_record.ensures.0 c.in_err-at-2.ensures)

pub loop-i-preserved : goal.loop-i-preserved
loop-i-preserved c = front_more _ _ c.requires _ c.loop-i-test.true c.loop-i.invariant _ c.slot_record.ensures.0 c.in_ok-at-2.ensures refl

pub returns : goal.returns
returns c = whole _ _ c.requires (omega arith) c.loop-i.invariant
