-- `write_record` meets its contract: the room is judged first, so that each number is written after the one before it.
use Prim.Native.Nat.{ℕ, ◌+◌, ◌≤◌}
use mathlib.Core.Path.{◌≡◌, sym, ap, ◌∙◌}
use mathlib.Core.List.{List, ◌++◌}
use native.Mathlib.Omega.{arith}
use lib.ListN.{length, length-append}
use Rattle.lists.proofs.Tests.{confirmed}
use borrow.Author.Tests.{leb-true}
use Rattle.writing.specs.Told.{Told}
use Rattle.numbers.specs.Numbers.{encoded}
use Rattle.writing.specs.Writing.{written, written_after}
use Rattle.writing.proofs.Writing.{written_then}
use Rattle.records.specs.Records.{record_bytes}
use Rattle.records.specs.declared.Record.{Record}
use Rattle.records.specs.declared.Record.TheVariants.{Vacant, Occupied}
use Rattle.records.proofs.write_record.Goals as goal

module _ (at : ℕ) (b : List ℕ) (r : Record) (fits : at + length (record_bytes r) ≤ length b) where
  two : (v : ℕ) → r ≡ Vacant v → {o : Told ℕ} {d : List ℕ} → (o, d) ≡ written at (encoded v) b → written_after o (encoded 0) d ≡ written at (record_bytes r) b
  unfolding record_bytes
  two v e p =
      written_then at (encoded v) (encoded 0) b (rw e at fits) p
      ∙ ap (λ (q : Record). written at (record_bytes q) b) (sym e)

  three : (v x : ℕ) → r ≡ Occupied v x → {o o' : Told ℕ} {d d' : List ℕ} → (o, d) ≡ written at (encoded v) b → (o', d') ≡ written_after o (encoded 1) d
      → written_after o' (encoded x) d' ≡ written at (record_bytes r) b
  unfolding record_bytes
  three v x e p q =
      let long : at + length (encoded v ++ encoded 1 ++ encoded x) ≤ length b = rw e at fits in
      written_then at (encoded v ++ encoded 1) (encoded x) b long (q ∙ written_then at (encoded v) (encoded 1) b (omega (arith, length-append (encoded v ++ encoded 1) (encoded x))) p)
      ∙ ap (λ (y : Record). written at (record_bytes y) b) (sym e)

pub returns-in-Vacant : goal.returns-in-Vacant
returns-in-Vacant c =
    let a = c.args in
    c.write_after.ensures
    ∙ two a.at a.out.now a.slot (omega (arith, leb-true _ _ (confirmed c.has_room.ensures c.if-not-has_room.false))) _ c.in-Vacant.is c.write_number-first.ensures

pub returns-in-Occupied : goal.returns-in-Occupied
returns-in-Occupied c =
    let a = c.args in
    c.write_after-in-Occupied.ensures
    ∙ three a.at a.out.now a.slot (omega (arith, leb-true _ _ (confirmed c.has_room.ensures c.if-not-has_room.false))) _ _ c.in-Occupied.is c.write_number-first-in-Occupied.ensures c.write_after-second.ensures
